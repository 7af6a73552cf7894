-- Every accepted call keeps agreement with the events, and lists what fires in it or is handed out. Assumes nothing.
use mathlib.Core.Path.{◌≡◌, refl, sym, ap, ap₂, ◌∙◌, subst}
use Prim.Native.Nat.{ℕ, ◌≤◌, ◌<◌}
use native.Mathlib.Omega.{arith}
use mathlib.Core.Bool.{Bool, true, false, not}
use mathlib.Core.Option.{Option, some}
use mathlib.Core.List.{List, [], ◌∷◌, ◌++◌, map, map-map, append-nil}
use lib.ListN.{length, take, length-map, length-append}
use Rattle.calendar.specs.declared.WallTime.{WallTime}
use Rattle.calendar.specs.Calendar.{seconds_of}
use Rattle.calendar.proofs.Theorems.{seconds-in-range}
use Rattle.model.specs.Lists.{keep}
use Rattle.model.specs.Status.{first_of}
use Rattle.model.specs.Calls.{Call, lay_out, create, ident, cancel, delete, fire_after, fire_when, fire_every, reset, ticks_left, tick, set_clock, get_clock, next_due, initiate_server, server_fire_after, server_fire_when, serve, leap, is_leap}
use Rattle.model.specs.declared.Chain.TheVariants.{ByTicks, ByDate, Queue}
use Rattle.model.specs.declared.Mode.TheVariants.{After, When, Every, ServerAfter, ServerWhen}
use Rattle.model.specs.Kinds.{kind_at, chain_for, for_server, last_mode}
use Rattle.model.specs.Parties.{owns}
use Rattle.model.specs.State.{Link, State, slot_at, index_of, Fired, listed}
use Rattle.model.specs.Directives.{refusals, lowest_free, never_started, idled, is_own, front, effect, clock_at, moved_by}
use Rattle.demand.specs.History.{Start, start_of, Event, laid_out_for, changes, deletes, one_tick, clock_set_to, initiates, serves_front, nothing, last_start, event_of, split_of, clock_after, moves_clock, Placed, entry_of, entry, Waiting, party_served, served_from, queued_as}
use Rattle.demand.specs.Demand.{shown}
use Rattle.laws.proofs.ListLaws.{clash, all, keep-on, keep-map, map_first}
use Rattle.laws.proofs.WellFormed.{WellFormed}
use Rattle.laws.proofs.KindLaws.{timed-mode, timed-last}
use Rattle.laws.proofs.Slots.{memo-idled}
use Rattle.laws.proofs.Searches.{lowest-free}
use Rattle.laws.proofs.AcceptedCalls.{accepted-facts}
use Rattle.demand.proofs.HistoryLaws.{firing_in, none-due}
use Rattle.demand.proofs.QueueLaws.{none-handed}
use Rattle.demand.proofs.Simulation.{index_back, Remembers, Agrees, on-nothing, on-initiate, on-stored, on-lay-out, on-serve, on-stop, on-delete, on-start}
use Rattle.demand.proofs.ClockLaws.{apart}
use Rattle.demand.proofs.ClockSimulation.{on-set-clock, set-clock-lists, set-clock-moves, on-tick, tick-lists}

module _ (s : State) (h : List Event) (v : Agrees s h) (f : WellFormed s) (words : List ℕ) where
  -- what a timer that a reset starts again remembers is its last start
  pub reset-last : (party id : ℕ) → first_of (refusals words s (reset party id)) ≡ 0 → let x = slot_at s.slots (index_of id) in
      (chain_for (last_mode x.kind) ≡ ByTicks) × (0 < x.interval)
      × (last_start id h ≡ some (start_of id (last_mode x.kind) x.interval x.routine x.user_data))
  reset-last party id e =
      let p = accepted-facts words s (reset party id) e in
      let x = slot_at s.slots (index_of id) in
      let o = last_mode x.kind in
      let by-ticks : chain_for o ≡ ByTicks = timed-mode (kind_at x.kind).last p.1 in
      let m = v.memory (index_of id) o (timed-last (kind_at x.kind).last p.1) by-ticks in (
        by-ticks,
        m.0,
        subst (λ (k : ℕ). last_start k h ≡ some (start_of k o x.interval x.routine x.user_data)) (sym p.0.is) m.1,
      )

  pub agrees-step : (c : Call) → first_of (refusals words s c) ≡ 0 → is_leap c ≡ false → Agrees (effect words s c).state (event_of h c ∷ h)
  agrees-step (lay_out n t split) e one = on-lay-out s h v n t split
  agrees-step (create party name) e one =
      let i = lowest_free s party in
      let p = accepted-facts words s (create party name) e in
      let kind = (lowest-free s party p.1).is_free in
      let blank = (f.shape i).blank (omega arith) in
      on-stored s h v i (never_started name) (λ j. record {
        last = sym (ap (λ (n : ℕ). (kind_at n).last) kind) j;
        interval = sym blank.0 j;
        routine = sym blank.1 j;
        user_data = sym blank.2 j;
      }) refl
  agrees-step (ident party name) e one = on-nothing s h v
  agrees-step (cancel party id) e one =
      let p = (accepted-facts words s (cancel party id) e).0 in
      let x = slot_at s.slots (index_of id) in
      on-stop s h v id (index_of id) p.is p.low p.high (idled x) (subst (Remembers h (index_of id)) (sym (memo-idled x)) (v.memory (index_of id)))
  agrees-step (delete party id) e one =
      let p = (accepted-facts words s (delete party id) e).0 in on-delete s h v id (index_of id) p.is p.low p.high
  agrees-step (fire_after party id n r u) e one =
      let p = accepted-facts words s (fire_after party id n r u) e in
      let q = p.names-one in
      on-start s h v id (index_of id) q.is q.low q.high After n r u p.ticks
  agrees-step (fire_when party id w r u) e one =
      let p = accepted-facts words s (fire_when party id w r u) e in
      let q = p.names-one in
      on-start s h v id (index_of id) q.is q.low q.high When (seconds_of w) r u tt
  agrees-step (fire_every party id n r u) e one =
      let p = accepted-facts words s (fire_every party id n r u) e in
      let q = p.names-one in
      on-start s h v id (index_of id) q.is q.low q.high Every n r u p.ticks
  agrees-step (reset party id) e one =
      let p = accepted-facts words s (reset party id) e in
      let i = index_of id in
      let x = slot_at s.slots i in
      let last = reset-last party id e in
      subst (λ (q : Option Start). Agrees (effect words s (reset party id)).state (changes id q ∷ h)) (sym last.2)
      (on-start s h v id i p.0.is p.0.low p.0.high (last_mode x.kind) x.interval x.routine x.user_data (rw last.0 last.1))
  agrees-step (ticks_left party id) e one = on-nothing s h v
  agrees-step (tick list) e one = on-tick s h v f
  agrees-step (set_clock w list) e one =
      let p = accepted-facts words s (set_clock w list) e in
      on-set-clock s h v f (seconds_of w) (seconds-in-range w p.1) w.ticks p.2
  agrees-step get_clock e one = on-nothing s h v
  agrees-step next_due e one = on-nothing s h v
  agrees-step initiate_server e one = on-initiate s h v
  agrees-step (server_fire_after party id n r u) e one =
      let p = (accepted-facts words s (server_fire_after party id n r u) e).1 in
      let q = p.names-one in
      on-start s h v id (index_of id) q.is q.low q.high ServerAfter n r u p.ticks
  agrees-step (server_fire_when party id w r u) e one =
      let p = (accepted-facts words s (server_fire_when party id w r u) e).1 in
      let q = p.names-one in
      on-start s h v id (index_of id) q.is q.low q.high ServerWhen (seconds_of w) r u tt
  agrees-step (serve party list) e one = on-serve s h v party
  agrees-step (leap k list) e one = clash one

-- ---- what is listed

-- what a call that is the event e lists: the timers that fire in it, and then what is handed out of the queue
abbrev pub listing : List Event → Event → List Start → List Fired
listing h e q = map entry (firing_in ByTicks h e ++ firing_in ByDate h e) ++ map entry_of (served_from (split_of h) e q)

none-fire : (h : List Event) (e : Event) → moves_clock e ≡ false → firing_in ByTicks h e ++ firing_in ByDate h e ≡ []
none-fire h e still =
    ap₂ (λ (a b : List Placed). a ++ b) (none-due e still (λ o. not (for_server o)) ByTicks h) (none-due e still (λ o. not (for_server o)) ByDate h)

module _ (s : State) (h : List Event) (v : Agrees s h) (f : WellFormed s) (words : List ℕ) where
  abbrev queue : List Start
  queue = (v.chain Queue).0

  -- a call that neither moves the clock nor serves
  lists-none : (e : Event) → moves_clock e ≡ false → party_served e ≡ 0 → [] ≡ listing h e queue
  lists-none e still no-party =
      ap₂ (λ (l : List Placed) (m : List Start). map entry l ++ map entry_of m) (sym (none-fire h e still)) (sym (none-handed (split_of h) e queue no-party))

  -- one that serves no party
  lists-firing : (e : Event) → party_served e ≡ 0 → map entry (firing_in ByTicks h e ++ firing_in ByDate h e) ≡ listing h e queue
  lists-firing e no-party =
      let l = map entry (firing_in ByTicks h e ++ firing_in ByDate h e) in
      sym (append-nil l) ∙ ap (λ (m : List Start). l ++ map entry_of m) (sym (none-handed (split_of h) e queue no-party))

  shown-front : (party : ℕ) → map (listed s.slots) (front s party) ≡ map entry_of (served_from (split_of h) (serves_front party) queue)
  shown-front party =
      let sl = s.slots in
      let its : Waiting → Bool = λ w. owns s.split party (index_of w.shows.id) in
      let shows : Waiting → Fired = λ w. w.shows in
      ap (λ (l : List Link). map (listed sl) (take 1 l)) (keep-on (is_own s party) (λ w. its (shown sl w)) s.queue
      (all (λ w. ap (owns s.split party) (sym (index_back w.slot))) s.queue))
      ∙ sym (map-map shows (shown sl) (take 1 (keep (λ w. its (shown sl w)) s.queue)))
      ∙ ap (map shows) (map_first (shown sl) (keep (λ w. its (shown sl w)) s.queue) ∙ ap (take 1) (sym (keep-map (shown sl) its s.queue)
      ∙ ap (keep its) (v.chain Queue).2 ∙ keep-map queued_as its queue) ∙ sym (map_first queued_as (keep (λ x. its (queued_as x)) queue)))
      ∙ map-map shows queued_as (take 1 (keep (λ x. its (queued_as x)) queue))
      ∙ ap (λ (l : ℕ). map entry_of (served_from l (serves_front party) queue)) (sym v.split)

  pub lists-due : (c : Call) → first_of (refusals words s c) ≡ 0 → is_leap c ≡ false → map (listed s.slots) (effect words s c).fired ≡ listing h (event_of h c) queue
  lists-due (lay_out n t split) e one = lists-none (event_of h (lay_out n t split)) refl refl
  lists-due (create party name) e one = lists-none nothing refl refl
  lists-due (ident party name) e one = lists-none nothing refl refl
  lists-due (cancel party id) e one = lists-none (event_of h (cancel party id)) refl refl
  lists-due (delete party id) e one = lists-none (event_of h (delete party id)) refl refl
  lists-due (fire_after party id n r u) e one = lists-none (event_of h (fire_after party id n r u)) refl refl
  lists-due (fire_when party id w r u) e one = lists-none (event_of h (fire_when party id w r u)) refl refl
  lists-due (fire_every party id n r u) e one = lists-none (event_of h (fire_every party id n r u)) refl refl
  lists-due (reset party id) e one = lists-none (event_of h (reset party id)) refl refl
  lists-due (ticks_left party id) e one = lists-none nothing refl refl
  lists-due (tick list) e one = tick-lists s h v f ∙ lists-firing one_tick refl
  lists-due (set_clock w list) e one =
      let p = accepted-facts words s (set_clock w list) e in
      set-clock-lists s h v f (seconds_of w) (seconds-in-range w p.1) w.ticks p.2
      ∙ lists-firing (clock_set_to (seconds_of w) w.ticks) refl
  lists-due get_clock e one = lists-none nothing refl refl
  lists-due next_due e one = lists-none nothing refl refl
  lists-due initiate_server e one = lists-none initiates refl refl
  lists-due (server_fire_after party id n r u) e one = lists-none (event_of h (server_fire_after party id n r u)) refl refl
  lists-due (server_fire_when party id w r u) e one = lists-none (event_of h (server_fire_when party id w r u)) refl refl
  lists-due (serve party list) e one =
      shown-front party
      ∙ ap (λ (l : List Placed). map entry l ++ map entry_of (served_from (split_of h) (serves_front party) queue)) (sym (none-fire h (serves_front party) refl))
  lists-due (leap k list) e one = clash one

  -- a tick and a set clock list those that fire, a serve the front of the queue
  pub many-fire : (c : Call) → first_of (refusals words s c) ≡ 0 → is_leap c ≡ false → moves_clock (event_of h c) ≡ true
      → length (effect words s c).fired ≡ length (firing_in ByTicks h (event_of h c) ++ firing_in ByDate h (event_of h c))
  many-fire c e one moving =
      let all-firing = firing_in ByTicks h (event_of h c) ++ firing_in ByDate h (event_of h c) in
      sym (length-map (effect words s c).fired (listed s.slots)) ∙ ap length (lists-due c e one)
      ∙ ap (λ (l : List Start). length (map entry all-firing ++ map entry_of l)) (none-handed (split_of h) (event_of h c) queue (no-party (event_of h c) moving))
      ∙ ap length (append-nil (map entry all-firing)) ∙ length-map all-firing entry
    where
      no-party : (e : Event) → moves_clock e ≡ true → party_served e ≡ 0
      no-party (laid_out_for t l) z = refl
      no-party (changes i s) z = refl
      no-party (deletes i) z = refl
      no-party one_tick z = refl
      no-party (clock_set_to d n) z = refl
      no-party initiates z = refl
      no-party (serves_front p) z = clash (sym z)
      no-party nothing z = refl

  pub many-served : (party : ℕ) (list : List ℕ) → first_of (refusals words s (serve party list)) ≡ 0
      → length (front s party) ≡ length (served_from (split_of h) (serves_front party) queue)
  many-served party list e =
      sym (length-map (front s party) (listed s.slots)) ∙ ap length (shown-front party)
      ∙ length-map (served_from (split_of h) (serves_front party) queue) entry_of

  pub few-fire : (c : Call) → first_of (refusals words s c) ≡ 0 → is_leap c ≡ false
      → length (firing_in ByTicks h (event_of h c) ++ firing_in ByDate h (event_of h c)) ≤ length (effect words s c).fired
  few-fire c e one =
      let all-firing = firing_in ByTicks h (event_of h c) ++ firing_in ByDate h (event_of h c) in
      omega (
        arith,
        length-map (effect words s c).fired (listed s.slots),
        ap length (lists-due c e one),
        length-append (map entry all-firing) (map entry_of (served_from (split_of h) (event_of h c) queue)),
        length-map all-firing entry,
      )

  -- a set clock answers how far the clock moved
  pub moves-by : (w : WallTime) (list : List ℕ) → first_of (refusals words s (set_clock w list)) ≡ 0
      → moved_by s.clock (clock_at s.clock (seconds_of w) w.ticks) ≡ apart (clock_after 0 h) (clock_after 0 (event_of h (set_clock w list) ∷ h))
  moves-by w list e =
      let p = accepted-facts words s (set_clock w list) e in set-clock-moves s h v f (seconds_of w) (seconds-in-range w p.1) w.ticks p.2

  pub none-fires : (e : Event) → moves_clock e ≡ false → firing_in ByTicks h e ++ firing_in ByDate h e ≡ []
  none-fires e still = none-fire h e still

-- a tick and a set clock answer how many they list
pub counts : (words : List ℕ) (s : State) (h : List Event) (c : Call) → moves_clock (event_of h c) ≡ true
    → (effect words s c).answer ≡ length (effect words s c).fired ∷ []
counts words s h (lay_out n t split) e = clash (sym e)
counts words s h (create party name) e = clash (sym e)
counts words s h (ident party name) e = clash (sym e)
counts words s h (cancel party id) e = clash (sym e)
counts words s h (delete party id) e = clash (sym e)
counts words s h (fire_after party id n r u) e = clash (sym e)
counts words s h (fire_when party id w r u) e = clash (sym e)
counts words s h (fire_every party id n r u) e = clash (sym e)
counts words s h (reset party id) e = clash (sym e)
counts words s h (ticks_left party id) e = clash (sym e)
counts words s h (tick list) e = refl
counts words s h (set_clock w list) e = refl
counts words s h get_clock e = clash (sym e)
counts words s h next_due e = clash (sym e)
counts words s h initiate_server e = clash (sym e)
counts words s h (server_fire_after party id n r u) e = clash (sym e)
counts words s h (server_fire_when party id w r u) e = clash (sym e)
counts words s h (serve party list) e = clash (sym e)
counts words s h (leap k list) e = clash (sym e)
