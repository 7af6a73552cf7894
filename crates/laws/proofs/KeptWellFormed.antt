-- Every accepted call leaves a well-formed state well formed, and fires no more timers than there are slots. The chains are kept in order by
-- the parts of its work (Steps), each written slot has its shape (Shapes), the clock its bounds (ClockSteps). Assumes nothing.
use mathlib.Core.Path.{◌≡◌, refl, sym, ap, ◌∙◌, subst}
use Prim.Native.Nat.{ℕ, zero, suc, ◌≤◌, ◌<◌, zero-le}
use native.Mathlib.Nat.{pos_of_ne-zero}
use native.Mathlib.Omega.{arith}
use mathlib.Core.Bool.{Bool, true, false, not}
use mathlib.Core.List.{List, [], ◌∷◌}
use lib.ListN.{length, take, length-append}
use lib.Dec.{leb, ltb, eqb}
use borrow.Author.Tests.{ltb-true}
use Rattle.calendar.specs.Calendar.{seconds_of, last_second}
use Rattle.calendar.proofs.Theorems.{seconds-in-range}
use Rattle.model.specs.Lists.{keep, drop_first, place, All}
use Rattle.model.specs.Status.{first_of}
use Rattle.model.specs.Calls.{Call, lay_out, create, ident, cancel, delete, fire_after, fire_when, fire_every, reset, ticks_left, tick, set_clock, get_clock, next_due, initiate_server, server_fire_after, server_fire_when, serve, leap, is_lay_out}
use Rattle.model.specs.declared.Chain.{Chain}
use Rattle.model.specs.declared.Chain.TheVariants.{ByTicks, ByDate, Queue}
use Rattle.model.specs.declared.Mode.{Mode}
use Rattle.model.specs.declared.Mode.TheVariants.{After, When, Every, ServerAfter, ServerWhen}
use Rattle.model.specs.Kinds.{kind_at, chain_for, waiting_kind, same_chain, waits_in, for_server, last_mode}
use Rattle.model.specs.State.{Slot, Link, Clock, State, chain_of, with_chain, with_clock, free, slot_at, put_at, without, index_of}
use Rattle.model.specs.Directives.{refusals, lowest_free, laid_out, stored, never_started, stopped, idled, waiting_as, started, fired_all, due, off, fire, without_server, is_own, front, handed_out, initiated, nearer, clock_at, clock_step, ticked_once, due_in_tick, Leapt, is_quiet, leapt, effect}
use Rattle.laws.proofs.ListLaws.{cases, clash, all, all_map, all_keep, all-passed, all-zip, all-place, all-mapped, length-keep}
use Rattle.laws.proofs.Order.{all-order_on}
use Rattle.laws.proofs.Slots.{put-any, length-put, length-fired_all, blank}
use Rattle.laws.proofs.WellFormed.{Chained, Shape, WellFormed}
use Rattle.laws.proofs.Chains.{fits, fit-both}
use Rattle.laws.proofs.KindLaws.{stopped-not-in, again-not-dated, in-ticks, again-server, timed-started, timed-mode}
use Rattle.laws.proofs.GoingOn.{goes_to, again, back_in}
use Rattle.laws.proofs.ClockSteps.{clock-is_set, clock-per_second, clock-into, clock-last, clock-unset}
use Rattle.laws.proofs.Searches.{lowest-free}
use Rattle.laws.proofs.Shapes.{free-shape, never-started-shape, Some, waiting-shape, idle-shape, shape-fired_all}
use Rattle.laws.proofs.Steps.{with-chain-slots, with-chain-clock, with-chain-split, with-chain-server, with-chain-each, stored-chain, stopped-chain, length-laid, length-stored, length-stopped, length-started, fire-slots, fire-clock, fire-split, fire-server, fire-chain, due-parts, none-back, fire-elsewhere, length-fire, chained-stored, chained-stopped, chained-started, chained-fire, chained-nearer, chained-with-clock, chained-laid, chained-handed, chained-initiated, initiated-chain}
use Rattle.laws.proofs.AcceptedCalls.{Named, accepted-facts}
use Rattle.laws.proofs.LeapLaws.{leapt-on, leapt-stops, leapt-keeps}

-- ---- the parts of well-formedness

record ClockFormed (c : Clock) : Type 0 where
  per-low : 1 ≤ c.per_second
  per-high : c.per_second ≤ 1000
  into : c.ticks_into < c.per_second
  second-high : c.second ≤ last_second
  unset : c.is_set ≡ false → (c.second ≡ 0) × (c.ticks_into ≡ 0)

-- a number that may stand in chain k, at that time
abbrev Ahead : Chain → Clock → ℕ → Type 0
Ahead ByTicks c wait = 1 ≤ wait
Ahead ByDate c wait = (c.is_set ≡ true) × (c.second < wait) × (wait ≤ last_second)
Ahead Queue c wait = Unit {0}

abbrev AllAhead : Chain → Clock → List Link → Type 0
AllAhead k c l = All (λ w. Ahead k c w.wait) l

module _ (s : State) (h : WellFormed s) where
  clock-formed : ClockFormed s.clock
  clock-formed = record {
    per-low = h.per-low;
    per-high = h.per-high;
    into = h.into;
    second-high = h.second-high;
    unset = λ e. ((h.unset e).0, (h.unset e).1);
  }

  all-ahead : (k : Chain) → AllAhead k s.clock (chain_of k s)
  all-ahead ByTicks = h.ticks
  all-ahead ByDate =
      cases s.clock.is_set
      (λ e. all_map (λ w p. (e, p.0, p.1)) s.dated h.dates)
      (λ e. subst (AllAhead ByDate s.clock) (sym (h.unset e).2) tt)
  all-ahead Queue = all (λ w. tt) s.queue

formed : (s : State) → Chained s → s.split < length s.slots → ClockFormed s.clock → ((i : ℕ) → Shape s.server (slot_at s.slots i))
    → ((k : Chain) → AllAhead k s.clock (chain_of k s)) → WellFormed s
formed s chained parted clock shape ahead = record {
  chained = chained;
  some-slot = omega arith;
  parted = parted;
  per-low = clock.per-low;
  per-high = clock.per-high;
  into = clock.into;
  second-high = clock.second-high;
  unset = λ e. ((clock.unset e).0, (clock.unset e).1, no-dates s.dated e (ahead ByDate));
  shape = shape;
  ticks = ahead ByTicks;
  dates = all_map (λ w p. (p.1, p.2)) s.dated (ahead ByDate);
}
  where
    no-dates : (l : List Link) → s.clock.is_set ≡ false → AllAhead ByDate s.clock l → l ≡ []
    no-dates [] e p = refl
    no-dates (w ∷ ws) e p = clash (sym p.0.0 ∙ e)

formed-with-chain : (k : Chain) (s : State) (slots : List Slot) (l : List Link)
    → Chained (with_chain k s slots l) → s.split < length slots → ClockFormed s.clock → ((i : ℕ) → Shape s.server (slot_at slots i))
    → AllAhead k s.clock l
    → ((j : Chain) → same_chain j k ≡ false → AllAhead j s.clock (chain_of j s)) → WellFormed (with_chain k s slots l)
formed-with-chain k s slots l chained parted clock shape own rest =
    formed (with_chain k s slots l) chained (rw (with-chain-slots s slots l k, with-chain-split s slots l k) parted) (rw (with-chain-clock s slots l k) clock)
    (rw (with-chain-slots s slots l k, with-chain-server s slots l k) shape) (rw (with-chain-clock s slots l k) (with-chain-each s slots l (λ j. AllAhead j s.clock) k own rest))

-- ---- lay out

pub laid-well-formed : (n t split : ℕ) → split < n → n ≤ 255 → 1 ≤ t → t ≤ 1000 → WellFormed (laid_out n t split)
laid-well-formed n t split parted n₂ t₁ t₂ =
    formed (laid_out n t split) (chained-laid n t split n₂) (omega (arith, length-laid n t split))
    (record { per-low = t₁; per-high = t₂; into = t₁; second-high = zero-le; unset = λ e. (refl, refl) })
    (λ i. rw (blank n i) (free-shape false)) none
  where
    none : (k : Chain) → AllAhead k (laid_out n t split).clock (chain_of k (laid_out n t split))
    none ByTicks = tt
    none ByDate = tt
    none Queue = tt

-- ---- slots written

module _ (s : State) (h : WellFormed s) where
  parted-put : (i : ℕ) (x : Slot) → s.split < length (put_at s.slots i x)
  parted-put i x = omega (arith, length-put s.slots i x, h.parted)

  shape-put : (i : ℕ) (x : Slot) → Shape s.server x → (j : ℕ) → Shape s.server (slot_at (put_at s.slots i x) j)
  shape-put i x hx j = put-any (Shape s.server) s.slots i j x hx (h.shape j)

  ahead-without : (k : Chain) (i : ℕ) → AllAhead k s.clock (without i (chain_of k s))
  ahead-without k i = all_keep (λ w. Ahead k s.clock w.wait) (λ w. not (eqb w.slot i)) (chain_of k s) (all-ahead s h k)

  formed-stored : (i : ℕ) (x : Slot) → 0 < i → i ≤ length s.slots → (slot_at s.slots i).kind ≡ 0
      → ((k : Chain) → waits_in k x.kind ≡ false) → Shape s.server x → WellFormed (stored s i x)
  formed-stored i x low high e n hx =
      formed (stored s i x) (chained-stored s h.chained i x low high e n) (parted-put i x) (clock-formed s h) (shape-put i x hx)
      (λ k. rw (stored-chain s i x k) (all-ahead s h k))

  formed-stopped : (i : ℕ) (x : Slot) → 0 < i → i ≤ length s.slots
      → ((k : Chain) → waits_in k x.kind ≡ false) → Shape s.server x → WellFormed (stopped s i x)
  formed-stopped i x low high n hx =
      formed (stopped s i x) (chained-stopped s h.chained i x low high n) (parted-put i x) (clock-formed s h) (shape-put i x hx)
      (λ k. rw (stopped-chain s i x k) (ahead-without k i))

  formed-started : (m : Mode) (i amount r u : ℕ) → 0 < i → i ≤ length s.slots → 0 < (slot_at s.slots i).name → 0 < r
      → Some (chain_for m) amount → Ahead (chain_for m) s.clock amount → (8 ≤ waiting_kind m → s.server ≡ true) → WellFormed (started m s i amount r u)
  formed-started m i amount r u low high name routine some ahead server =
      let k = chain_for m in
      let x : Slot = waiting_as m (slot_at s.slots i) amount r u in
      let new : Link = record { slot = i; wait = amount } in
      formed-with-chain k (stopped s i x) (put_at s.slots i x) (place (λ w. w.wait) new (chain_of k (stopped s i x)))
      (chained-started m s h.chained i amount r u low high)
      (parted-put i x) (clock-formed s h)
      (shape-put i x (waiting-shape s.server m (slot_at s.slots i) amount r u name routine some server))
      (rw (stopped-chain s i x k) (all-place (λ w. Ahead k s.clock w.wait) (λ w. w.wait) new (without i (chain_of k s)) ahead (ahead-without k i)))
      (λ j _. rw (stopped-chain s i x j) (ahead-without j i))

-- ---- timers fired

-- what goes back has an interval to wait, and nothing goes back to a date
ahead-back : (c : Clock) (b : Bool) (slots : List Slot) (ws : List Link) → ((i : ℕ) → Shape b (slot_at slots i)) → back_in ByDate slots ws ≡ []
    → (j : Chain) → AllAhead j c (back_in j slots ws)
ahead-back c b slots ws shape none ByTicks =
    all-mapped (again ByTicks slots) (λ w. 1 ≤ w.wait) (keep (goes_to ByTicks slots) ws)
    (all_map (λ w p. (shape w.slot).by-ticks (in-ticks (slot_at slots w.slot).kind p)) (keep (goes_to ByTicks slots) ws)
    (all-passed (goes_to ByTicks slots) ws))
ahead-back c b slots ws shape none ByDate = subst (AllAhead ByDate c) (sym none) tt
ahead-back c b slots ws shape none Queue = all (λ w. tt) (back_in Queue slots ws)

module _ (k : Chain) (limit : ℕ) (s : State) (chained : Chained s) (shape : (i : ℕ) → Shape s.server (slot_at s.slots i)) where
  fired-shape : (i : ℕ) → Shape (fire k limit s).server (slot_at (fire k limit s).slots i)
  fired-shape = rw (fire-slots k limit s, fire-server k limit s) (shape-fired_all s.server (due k limit s) s.slots shape)

  -- what is left in each chain is ahead, so what is there after they fired is
  ahead-fired : (c : Clock) → AllAhead k c (keep (λ w. ltb limit w.wait) (chain_of k s))
      → ((j : Chain) → same_chain j k ≡ false → AllAhead j c (chain_of j s)) → (j : Chain) → AllAhead j c (chain_of j (fire k limit s))
  ahead-fired c own rest j =
      let slots = fired_all (due k limit s) s.slots in
      rw (fire-chain k limit s j) (all-order_on (λ w. Ahead j c w.wait) (λ w. w.wait) (chain_of j (off k limit s)) (back_in j slots (due k limit s))
      (with-chain-each s slots (keep (λ w. ltb limit w.wait) (chain_of k s)) (λ j. AllAhead j c) k own rest j)
      (ahead-back c s.server slots (due k limit s) (shape-fired_all s.server (due k limit s) s.slots shape)
      (none-back k s chained (due k limit s) (keep (λ w. ltb limit w.wait) (chain_of k s)) (due-parts k limit s) ByDate (λ n _. again-not-dated n)) j))

-- dated timers at or before the clock's second fire: the others are after it
formed-fired : (s : State) → Chained s → s.split < length s.slots → ClockFormed s.clock → ((i : ℕ) → Shape s.server (slot_at s.slots i))
    → ((k : Chain) → same_chain k ByDate ≡ false → AllAhead k s.clock (chain_of k s))
    → All (λ w. (s.clock.is_set ≡ true) × (w.wait ≤ last_second)) s.dated → WellFormed (fire ByDate s.clock.second s)
formed-fired s chained parted clock shape rest dates =
    let now = s.clock.second in
    let after : Link → Bool = λ w. ltb now w.wait in
    let later = keep after s.dated in
    formed (fire ByDate now s) (chained-fire ByDate now s chained) (omega (arith, length-fire ByDate now s, fire-split ByDate now s))
    (rw (fire-clock ByDate now s) clock)
    (fired-shape ByDate now s chained shape)
    (rw (fire-clock ByDate now s) (ahead-fired ByDate now s chained shape s.clock
    (all_map (λ w p. (p.1.0, ltb-true now w.wait p.0, p.1.1)) later
    (all-zip (λ w. after w ≡ true) (λ w. (s.clock.is_set ≡ true) × (w.wait ≤ last_second)) later
    (all-passed after s.dated) (all_keep (λ w. (s.clock.is_set ≡ true) × (w.wait ≤ last_second)) after s.dated dates)))
    rest))

step-formed : (c : Clock) → ClockFormed c → ClockFormed (clock_step c)
step-formed c h = record {
  per-low = omega (arith, clock-per_second c, h.per-low);
  per-high = omega (arith, clock-per_second c, h.per-high);
  into = clock-into c h.into;
  second-high = clock-last c h.second-high;
  unset = λ e. let off = sym (clock-is_set c) ∙ e in rw (clock-unset c off) (h.unset off);
}

module _ (s : State) (h : WellFormed s) where
  formed-ticked : WellFormed (ticked_once s)
  formed-ticked =
      formed-fired (with_clock (fire ByTicks 0 (nearer s)) (clock_step s.clock))
      (chained-with-clock (fire ByTicks 0 (nearer s)) (clock_step s.clock) (chained-fire ByTicks 0 (nearer s) near))
      (omega (arith, length-fire ByTicks 0 (nearer s), fire-split ByTicks 0 (nearer s), h.parted))
      (step-formed s.clock (clock-formed s h))
      (fired-shape ByTicks 0 (nearer s) near h.shape)
      rest
      (subst (All (λ w. ((clock_step s.clock).is_set ≡ true) × (w.wait ≤ last_second))) (sym (fire-elsewhere ByTicks 0 (nearer s) near ByDate (λ n _. again-not-dated n) refl))
      (all_map (λ w p. (clock-is_set s.clock ∙ p.0, p.2)) s.dated (all-ahead s h ByDate)))
    where
      near : Chained (nearer s)
      near = chained-nearer s h.chained

      own : AllAhead ByTicks s.clock (keep (λ w. ltb 0 w.wait) (nearer s).ticking)
      own = all_map (λ w p. ltb-true 0 w.wait p) (keep (λ w. ltb 0 w.wait) (nearer s).ticking) (all-passed (λ w. ltb 0 w.wait) (nearer s).ticking)

      dated : (j : Chain) → same_chain j ByTicks ≡ false → AllAhead j s.clock (chain_of j (nearer s))
      dated ByTicks e = clash e
      dated ByDate e = all-ahead s h ByDate
      dated Queue e = all-ahead s h Queue

      rest : (k : Chain) → same_chain k ByDate ≡ false → AllAhead k (clock_step s.clock) (chain_of k (with_clock (fire ByTicks 0 (nearer s)) (clock_step s.clock)))
      rest ByTicks e = ahead-fired ByTicks 0 (nearer s) near h.shape s.clock own dated ByTicks
      rest ByDate e = clash e
      rest Queue e = all (λ w. tt) (fire ByTicks 0 (nearer s)).queue

  formed-clock-set : (second : ℕ) → second ≤ last_second → (into : ℕ) → into < s.clock.per_second
      → WellFormed (fire ByDate second (with_clock s (clock_at s.clock second into)))
  formed-clock-set second last into within =
      let clock = clock_at s.clock second into in
      formed-fired (with_clock s clock) (chained-with-clock s clock h.chained) h.parted
      (record { per-low = h.per-low; per-high = h.per-high; into = within; second-high = last; unset = λ e. clash e })
      h.shape rest (all_map (λ w p. (refl, p.1)) s.dated h.dates)
    where
      rest : (k : Chain) → same_chain k ByDate ≡ false → AllAhead k (clock_at s.clock second into) (chain_of k (with_clock s (clock_at s.clock second into)))
      rest ByTicks e = h.ticks
      rest ByDate e = clash e
      rest Queue e = all-ahead s h Queue

  formed-handed : (party : ℕ) → WellFormed (handed_out s party)
  formed-handed party =
      let ws = front s party in
      let rest = drop_first (is_own s party) s.queue in
      formed-with-chain Queue s (fired_all ws s.slots) rest (chained-handed s h.chained party)
      (omega (arith, length-fired_all ws s.slots, h.parted)) (clock-formed s h)
      (shape-fired_all s.server ws s.slots h.shape) (all (λ w. tt) rest) (λ j _. all-ahead s h j)

  formed-initiated : WellFormed (initiated s)
  formed-initiated =
      formed (initiated s) (chained-initiated s h.chained) h.parted (clock-formed s h)
      (λ i. let x = h.shape i in record {
        kinds = x.kinds;
        nameless = x.nameless;
        named = x.named;
        blank = x.blank;
        used = x.used;
        by-ticks = x.by-ticks;
        by-date = x.by-date;
        by-server = λ p. refl;
      }) (λ k. rw (initiated-chain s k) (all-ahead s h k))

-- ---- a tick, and a leap

pub tick-slots : (s : State) → length (ticked_once s).slots ≡ length s.slots
tick-slots s =
    let clock = clock_step s.clock in
    length-fire ByDate clock.second (with_clock (fire ByTicks 0 (nearer s)) clock) ∙ length-fire ByTicks 0 (nearer s)

tick-bound : (s : State) → WellFormed s → length (without_server s.slots (due_in_tick s)) ≤ length s.slots
tick-bound s h =
    let near = nearer s in
    let second = (clock_step s.clock).second in
    omega (
      arith,
      fit-both near (chained-nearer s h.chained),
      length-keep (λ w. not (for_server (kind_at (slot_at s.slots w.slot).kind).last)) (due_in_tick s),
      length-append (due ByTicks 0 near) (due ByDate second (fire ByTicks 0 near)),
      length-keep (λ w. leb w.wait 0) near.ticking,
      length-keep (λ w. leb w.wait second) (fire ByTicks 0 near).dated,
      ap length (fire-elsewhere ByTicks 0 near (chained-nearer s h.chained) ByDate (λ n _. again-not-dated n) refl),
    )

pub leap-slots : (k : ℕ) (s : State) → length (leapt k s).state.slots ≡ length s.slots
leap-slots k s = leapt-keeps (λ z. length z.slots ≡ length s.slots) (λ z e. tick-slots z ∙ e) k s refl

formed-leapt : (k : ℕ) (s : State) → WellFormed s → WellFormed (leapt k s).state
formed-leapt k s h = leapt-keeps WellFormed formed-ticked k s h

leap-bound : (k : ℕ) (s : State) → WellFormed s → length (leapt k s).fired ≤ length s.slots
leap-bound zero s h = zero-le
leap-bound (suc k) s h =
    cases (is_quiet s)
    (λ e. omega (arith, ap (λ (l : Leapt). length l.fired) (leapt-on k s e), leap-bound k (ticked_once s) (formed-ticked s h), tick-slots s))
    (λ e. omega (arith, ap (λ (l : Leapt). length l.fired) (leapt-stops k s e), tick-bound s h))

-- ---- every call

module _ (s : State) (h : WellFormed s) where
  has-name : (id : ℕ) → Named s id → 0 < (slot_at s.slots (index_of id)).name
  has-name id is = (h.shape (index_of id)).named (pos_of_ne-zero is.alive)

  module _ (words : List ℕ) where
    pub kept : (c : Call) → first_of (refusals words s c) ≡ 0 → WellFormed (effect words s c).state
    kept (lay_out n t split) e =
        let p = accepted-facts words s (lay_out n t split) e in
        laid-well-formed n t split p.parted p.slots-high p.ticks-low p.ticks-high
    kept (create party name) e =
        let p = accepted-facts words s (create party name) e in
        let at = lowest-free s party p.1 in
        formed-stored s h (lowest_free s party) (never_started name) at.low at.high at.is_free
        (λ k. refl) (never-started-shape s.server name p.0)
    kept (ident party name) e = h
    kept (cancel party id) e =
        let is = (accepted-facts words s (cancel party id) e).0 in
        let x = slot_at s.slots (index_of id) in
        formed-stopped s h (index_of id) (idled x) is.low is.high (λ k. stopped-not-in k x.kind) (idle-shape s.server x (h.shape (index_of id)))
    kept (delete party id) e =
        let is = (accepted-facts words s (delete party id) e).0 in
        formed-stopped s h (index_of id) free is.low is.high (λ k. refl) (free-shape s.server)
    kept (fire_after party id n r u) e =
        let p = accepted-facts words s (fire_after party id n r u) e in
        let is = p.names-one in
        formed-started s h After (index_of id) n r u is.low is.high (has-name id is) p.routine p.ticks p.ticks
        (λ q. absurd (omega arith))
    kept (fire_when party id w r u) e =
        let p = accepted-facts words s (fire_when party id w r u) e in
        let is = p.names-one in
        formed-started s h When (index_of id) (seconds_of w) r u is.low is.high (has-name id is) p.routine tt
        (p.running, p.later, seconds-in-range w p.is-valid) (λ q. absurd (omega arith))
    kept (fire_every party id n r u) e =
        let p = accepted-facts words s (fire_every party id n r u) e in
        let is = p.names-one in
        formed-started s h Every (index_of id) n r u is.low is.high (has-name id is) p.routine p.ticks p.ticks
        (λ q. absurd (omega arith))
    kept (reset party id) e =
        let p = accepted-facts words s (reset party id) e in
        let is = p.0 in
        let x = slot_at s.slots (index_of id) in
        let some = (h.shape (index_of id)).by-ticks p.1 in
        let by-ticks : chain_for (last_mode x.kind) ≡ ByTicks = timed-mode (kind_at x.kind).last p.1 in
        formed-started s h (last_mode x.kind) (index_of id) x.interval x.routine x.user_data is.low is.high (has-name id is)
        ((h.shape (index_of id)).used (timed-started x.kind p.1)) (rw by-ticks some) (rw by-ticks some)
        (λ q. (h.shape (index_of id)).by-server (again-server x.kind (omega (arith, (h.shape (index_of id)).kinds)) q))
    kept (ticks_left party id) e = h
    kept (tick list) e = formed-ticked s h
    kept (set_clock w list) e =
        let p = accepted-facts words s (set_clock w list) e in formed-clock-set s h (seconds_of w) (seconds-in-range w p.1) w.ticks p.2
    kept get_clock e = h
    kept next_due e = h
    kept initiate_server e = formed-initiated s h
    kept (server_fire_after party id n r u) e =
        let q = accepted-facts words s (server_fire_after party id n r u) e in
        let p = q.1 in
        let is = p.names-one in
        formed-started s h ServerAfter (index_of id) n r u is.low is.high (has-name id is) p.routine p.ticks p.ticks (λ _. q.0)
    kept (server_fire_when party id w r u) e =
        let q = accepted-facts words s (server_fire_when party id w r u) e in
        let p = q.1 in
        let is = p.names-one in
        formed-started s h ServerWhen (index_of id) (seconds_of w) r u is.low is.high (has-name id is) p.routine tt
        (p.running, p.later, seconds-in-range w p.is-valid) (λ _. q.0)
    kept (serve party list) e = formed-handed s h party
    kept (leap k list) e = formed-leapt k s h

-- ---- what no call changes, and how many fire

module _ (words : List ℕ) (s : State) where
  -- every call but lay out leaves as many slots as there were
  pub slots_kept : (c : Call) → is_lay_out c ≡ false → length (effect words s c).state.slots ≡ length s.slots
  slots_kept (lay_out n t split) l = clash l
  slots_kept (create party name) l = length-stored s (lowest_free s party) (never_started name)
  slots_kept (ident party name) l = refl
  slots_kept (cancel party id) l = length-stopped s (index_of id) (idled (slot_at s.slots (index_of id)))
  slots_kept (delete party id) l = length-stopped s (index_of id) free
  slots_kept (fire_after party id n r u) l = length-started After s (index_of id) n r u
  slots_kept (fire_when party id w r u) l = length-started When s (index_of id) (seconds_of w) r u
  slots_kept (fire_every party id n r u) l = length-started Every s (index_of id) n r u
  slots_kept (reset party id) l =
      let x = slot_at s.slots (index_of id) in
      length-started (last_mode x.kind) s (index_of id) x.interval x.routine x.user_data
  slots_kept (ticks_left party id) l = refl
  slots_kept (tick list) l = tick-slots s
  slots_kept (set_clock w list) l = length-fire ByDate (seconds_of w) (with_clock s (clock_at s.clock (seconds_of w) w.ticks))
  slots_kept get_clock l = refl
  slots_kept next_due l = refl
  slots_kept initiate_server l = refl
  slots_kept (server_fire_after party id n r u) l = length-started ServerAfter s (index_of id) n r u
  slots_kept (server_fire_when party id w r u) l = length-started ServerWhen s (index_of id) (seconds_of w) r u
  slots_kept (serve party list) l = length-fired_all (front s party) s.slots
  slots_kept (leap k list) l = leap-slots k s

  -- no call fires more timers than there are slots
  pub bound : WellFormed s → (c : Call) → length (effect words s c).fired ≤ length s.slots
  bound h (lay_out n t split) = zero-le
  bound h (create party name) = zero-le
  bound h (ident party name) = zero-le
  bound h (cancel party id) = zero-le
  bound h (delete party id) = zero-le
  bound h (fire_after party id n r u) = zero-le
  bound h (fire_when party id w r u) = zero-le
  bound h (fire_every party id n r u) = zero-le
  bound h (reset party id) = zero-le
  bound h (ticks_left party id) = zero-le
  bound h (tick list) = tick-bound s h
  bound h (set_clock date list) = omega (
    arith,
    fit-both s h.chained,
    length-keep (λ w. not (for_server (kind_at (slot_at s.slots w.slot).kind).last)) (keep (λ w. leb w.wait (seconds_of date)) s.dated),
    length-keep (λ w. leb w.wait (seconds_of date)) s.dated,
  )
  bound h get_clock = zero-le
  bound h next_due = zero-le
  bound h initiate_server = zero-le
  bound h (server_fire_after party id n r u) = zero-le
  bound h (server_fire_when party id w r u) = zero-le
  bound h (serve party list) = omega (arith, fits s h.chained Queue, length-keep (is_own s party) s.queue, front-short (keep (is_own s party) s.queue))
    where
      front-short : (l : List Link) → length (take 1 l) ≤ length l
      front-short [] = zero-le
      front-short (w ∷ ws) = omega arith
  bound h (leap k list) = leap-bound k s h
