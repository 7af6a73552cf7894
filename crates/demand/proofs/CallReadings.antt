-- Demand 3 read off the calls themselves: a timer that an accepted fire after started for n ticks fires in the nth accepted tick after it, and one
-- that an accepted fire every started in every nth, where no accepted call before ended it; one that an accepted server fire after started is queued
-- there; and the clock stands at the second that it was set to and the ticks since. Assumes nothing.
use mathlib.Core.Path.{◌≡◌, refl, sym, ap, ap₂, ◌∙◌, subst}
use Prim.Native.Nat.{ℕ, suc, ◌+◌, ◌-◌, ◌*◌, min}
use native.Mathlib.Omega.{arith}
use mathlib.Core.Bool.{Bool, true, false, cond, not, ◌&&◌, ◌||◌}
use mathlib.Core.Option.{Option, some}
use mathlib.Core.List.{List, [], ◌∷◌, ◌++◌, append_assoc, Memᴰ}
use lib.Dec.{eqb}
use borrow.Author.Tests.{eq-eqb}
use Rattle.calendar.specs.Calendar.{last_second}
use Rattle.model.specs.Lists.{any, count, All}
use Rattle.model.specs.Calls.{Call, lay_out, create, ident, cancel, delete, fire_after, fire_when, fire_every, reset, ticks_left, tick, set_clock, get_clock, next_due, initiate_server, server_fire_after, server_fire_when, serve, leap, is_leap}
use Rattle.model.specs.declared.Mode.TheVariants.{ServerAfter}
use Rattle.model.specs.Outcome.{outcome, after}
use Rattle.demand.specs.History.{Start, start_of, Event, laid_out_for, changes, deletes, one_tick, clock_set_to, initiates, serves_front, nothing, event_of, events_on, is_tick, ticks, per_second, split_of, clock_after, ends, is_queued, Queues, IsQueue}
use Rattle.demand.specs.Demand.{singly, accepted_in, events_after}
use Rattle.laws.proofs.ListLaws.{cases, clash, count-append}
use Rattle.demand.proofs.QueueLaws.{queue-kept}
use Rattle.demand.proofs.SingleCalls.{alone, accepted-append, events-append}
use Rattle.demand.proofs.Readings.{Lists, tick-lists, multiple-lists, start_at, queued-at-nth-tick, goes-to-back}

-- ---- the words of a list of accepted calls

-- a tick (a leap stands there as its ticks); a cancel, reset, new start or delete of the timer, or a lay out
abbrev pub is_tick_call : Call → Bool
is_tick_call (lay_out n t split) = false
is_tick_call (create party name) = false
is_tick_call (ident party name) = false
is_tick_call (cancel party i) = false
is_tick_call (delete party i) = false
is_tick_call (fire_after party i n r u) = false
is_tick_call (fire_when party i w r u) = false
is_tick_call (fire_every party i n r u) = false
is_tick_call (reset party i) = false
is_tick_call (ticks_left party i) = false
is_tick_call (tick list) = true
is_tick_call (set_clock w list) = false
is_tick_call get_clock = false
is_tick_call next_due = false
is_tick_call initiate_server = false
is_tick_call (server_fire_after party i n r u) = false
is_tick_call (server_fire_when party i w r u) = false
is_tick_call (serve party list) = false
is_tick_call (leap k list) = false

abbrev pub ends_timer : ℕ → Call → Bool
ends_timer id (lay_out n t split) = true
ends_timer id (create party name) = false
ends_timer id (ident party name) = false
ends_timer id (cancel party i) = eqb i id
ends_timer id (delete party i) = eqb i id
ends_timer id (fire_after party i n r u) = eqb i id
ends_timer id (fire_when party i w r u) = eqb i id
ends_timer id (fire_every party i n r u) = eqb i id
ends_timer id (reset party i) = eqb i id
ends_timer id (ticks_left party i) = false
ends_timer id (tick list) = false
ends_timer id (set_clock w list) = false
ends_timer id get_clock = false
ends_timer id next_due = false
ends_timer id initiate_server = false
ends_timer id (server_fire_after party i n r u) = eqb i id
ends_timer id (server_fire_when party i w r u) = eqb i id
ends_timer id (serve party list) = false
ends_timer id (leap k list) = false

tick_is : (h : List Event) (c : Call) → is_tick (event_of h c) ≡ is_tick_call c
tick_is h (lay_out n t split) = refl
tick_is h (create party name) = refl
tick_is h (ident party name) = refl
tick_is h (cancel party i) = refl
tick_is h (delete party i) = refl
tick_is h (fire_after party i n r u) = refl
tick_is h (fire_when party i w r u) = refl
tick_is h (fire_every party i n r u) = refl
tick_is h (reset party i) = refl
tick_is h (ticks_left party i) = refl
tick_is h (tick list) = refl
tick_is h (set_clock w list) = refl
tick_is h get_clock = refl
tick_is h next_due = refl
tick_is h initiate_server = refl
tick_is h (server_fire_after party i n r u) = refl
tick_is h (server_fire_when party i w r u) = refl
tick_is h (serve party list) = refl
tick_is h (leap k list) = refl

ends_is : (id : ℕ) (h : List Event) (c : Call) → ends id (event_of h c) ≡ ends_timer id c
ends_is id h (lay_out n t split) = refl
ends_is id h (create party name) = refl
ends_is id h (ident party name) = refl
ends_is id h (cancel party i) = refl
ends_is id h (delete party i) = refl
ends_is id h (fire_after party i n r u) = refl
ends_is id h (fire_when party i w r u) = refl
ends_is id h (fire_every party i n r u) = refl
ends_is id h (reset party i) = refl
ends_is id h (ticks_left party i) = refl
ends_is id h (tick list) = refl
ends_is id h (set_clock w list) = refl
ends_is id h get_clock = refl
ends_is id h next_due = refl
ends_is id h initiate_server = refl
ends_is id h (server_fire_after party i n r u) = refl
ends_is id h (server_fire_when party i w r u) = refl
ends_is id h (serve party list) = refl
ends_is id h (leap k list) = refl

-- the events of more calls, before which there were the events h
pub record More (id : ℕ) (h : List Event) (cs : List Call) : Type 0 where
  pub events : List Event
  pub are : events_on h cs ≡ events ++ h
  pub as_many : ticks events ≡ count is_tick_call cs
  pub as-ended : any (ends id) events ≡ any (ends_timer id) cs

any_append : (p : Event → Bool) (xs ys : List Event) → any p (xs ++ ys) ≡ (any p xs || any p ys)
any_append p [] ys = refl
any_append p (x ∷ xs) ys = cases (p x) (λ e. rw e) (λ e. rw e (any_append p xs ys))

or_comm : (a b : Bool) → (a || (b || false)) ≡ (b || a)
or_comm true true = refl
or_comm true false = refl
or_comm false true = refl
or_comm false false = refl

pub more : (id : ℕ) (h : List Event) (cs : List Call) → More id h cs
more id h [] = record { events = []; are = refl; as_many = refl; as-ended = refl }
more id h (c ∷ cs) =
    let e = event_of h c in
    let m = more id (e ∷ h) cs in
    let Q = m.events in
    record {
      events = Q ++ (e ∷ []);
      are = m.are ∙ sym (append_assoc Q (e ∷ []) h);
      as_many = count-append is_tick Q (e ∷ []) ∙ one (is_tick e) (is_tick_call c) (tick_is h c) (ticks Q) (count is_tick_call cs) m.as_many;
      as-ended = any_append (ends id) Q (e ∷ []) ∙ or_comm (any (ends id) Q) (ends id e) ∙ ap₂ (λ a b. a || b) (ends_is id h c) m.as-ended;
    }
  where
    one : (a b : Bool) → a ≡ b → (n m : ℕ) → n ≡ m → n + cond a 1 0 ≡ cond b (suc m) m
    one a b e n m is = rw e (cases b (λ f. rw f (omega arith)) (λ f. rw f (omega arith)))

-- ---- the nth tick

-- The calls before a start, the start, the calls after it of which so many are accepted ticks and none that is accepted ends the timer, and then an
-- accepted tick.
module _ (w : List ℕ) (n t split : ℕ) (before : List Call) (start : Call) (later : List Call) where
  abbrev pub at_start : List ℕ
  at_start = after w (lay_out n t split ∷ before)

  abbrev pub since : List Call
  since = accepted_in (outcome at_start start).table later

  abbrev pub whole : List Call
  whole = before ++ (start ∷ later)

  pub events-since : is_leap start ≡ false → (outcome at_start start).status ≡ 0
      → events_after w (lay_out n t split ∷ whole)
      ≡ events_on (event_of (events_after w (lay_out n t split ∷ before)) start ∷ events_after w (lay_out n t split ∷ before)) since
  events-since one started =
      ap (events_on []) (accepted-append w (lay_out n t split ∷ before) (start ∷ later))
      ∙ events-append [] (accepted_in w (lay_out n t split ∷ before)) (accepted_in at_start (start ∷ later))
      ∙ ap (λ (b : Bool). events_on (events_after w (lay_out n t split ∷ before)) (cond b (singly at_start start ++ since) since))
      (eq-eqb (outcome at_start start).status 0 started)
      ∙ ap (λ (l : List Call). events_on (events_after w (lay_out n t split ∷ before)) (l ++ since)) (alone at_start start one)

module _ (w : List ℕ) (n t split : ℕ) (ok : (outcome w (lay_out n t split)).status ≡ 0) (before later : List Call) (party id k r u : ℕ) (list : List ℕ) where
  -- A timer started for n ticks fires exactly at the nth accepted tick after that start, whatever the clock did.
  pub nth-tick-lists : let start = fire_after party id k r u in
      (outcome (at_start w n t split before start later) start).status ≡ 0
      → any (ends_timer id) (since w n t split before start later) ≡ false → suc (count is_tick_call (since w n t split before start later)) ≡ k
      → let all = after w (lay_out n t split ∷ whole w n t split before start later) in
      (outcome all (tick list)).status ≡ 0 → Lists all (tick list) list id r u
  nth-tick-lists started quiet nth ticked =
      let start = fire_after party id k r u in
      let es = events_after w (lay_out n t split ∷ before) in
      let m = more id (event_of es start ∷ es) (since w n t split before start later) in
      tick-lists w n t split ok (whole w n t split before start later) list es m.events id id k r u ticked
      (events-since w n t split before start later refl started ∙ m.are) (m.as-ended ∙ quiet) (omega (arith, nth, m.as_many))

  -- A timer started for every n ticks fires at each accepted tick with which those after that start are a multiple of n.
  pub multiple-tick-lists : (m : ℕ) → let start = fire_every party id k r u in
      (outcome (at_start w n t split before start later) start).status ≡ 0
      → any (ends_timer id) (since w n t split before start later) ≡ false → suc (count is_tick_call (since w n t split before start later)) ≡ m * k
      → let all = after w (lay_out n t split ∷ whole w n t split before start later) in
      (outcome all (tick list)).status ≡ 0 → Lists all (tick list) list id r u
  multiple-tick-lists times started quiet multiple ticked =
      let start = fire_every party id k r u in
      let es = events_after w (lay_out n t split ∷ before) in
      let m = more id (event_of es start ∷ es) (since w n t split before start later) in
      multiple-lists w n t split ok (whole w n t split before start later) list es m.events id id k r u times ticked
      (events-since w n t split before start later refl started ∙ m.are) (m.as-ended ∙ quiet) (ap suc m.as_many ∙ multiple)

-- ---- the server

-- A timer started for n ticks as a server timer is queued at the nth accepted tick after that start: it is among those that come to the back.
module _ (w : List ℕ) (n t split : ℕ) (ok : (outcome w (lay_out n t split)).status ≡ 0) (before later : List Call) (party id k r u : ℕ) (list : List ℕ) where
  pub nth-tick-queues : let start = server_fire_after party id k r u in
      (outcome (at_start w n t split before start later) start).status ≡ 0
      → any (ends_timer id) (since w n t split before start later) ≡ false → suc (count is_tick_call (since w n t split before start later)) ≡ k
      → let es = events_after w (lay_out n t split ∷ whole w n t split before start later) in
      (queue new : List Start) → IsQueue es queue → Queues es one_tick new
      → IsQueue (one_tick ∷ es) (queue ++ new) × Memᴰ (start_of id ServerAfter k r u) new
  nth-tick-queues started quiet nth queue new is queues =
      let start = server_fire_after party id k r u in
      let es = events_after w (lay_out n t split ∷ whole w n t split before start later) in
      let before-it = events_after w (lay_out n t split ∷ before) in
      let s = start_of id ServerAfter k r u in
      let m = more id (event_of before-it start ∷ before-it) (since w n t split before start later) in
      let are = events-since w n t split before start later refl started ∙ m.are in
      let now : is_queued one_tick (start_at before-it id s m.events) ≡ true =
      queued-at-nth-tick before-it m.events id id k r u (omega arith) one_tick
      ∙ ap₂ (λ (a b : Bool). not a && b) (m.as-ended ∙ quiet) (eq-eqb (suc (ticks m.events)) k (omega (arith, nth, m.as_many))) in (
        (queue, new, is, queues, ap (λ (q : List Start). q ++ new) (sym (queue-kept (split_of es) one_tick queue refl (λ j. refl)))),
        goes-to-back before-it m.events id s one_tick new now (subst (λ (h : List Event). Queues h one_tick new) are queues),
      )

-- ---- the clock

-- neither a lay out nor a set clock
abbrev pub leaves_clock : Event → Bool
leaves_clock (laid_out_for t l) = false
leaves_clock (changes i s) = true
leaves_clock (deletes i) = true
leaves_clock one_tick = true
leaves_clock (clock_set_to d n) = false
leaves_clock initiates = true
leaves_clock (serves_front p) = true
leaves_clock nothing = true

-- It stands, counted in ticks, at the seconds given in the latest set clock times T plus the ticks given there and the accepted ticks since that
-- one, up to its end.
pub clock-runs : (d n : ℕ) (Q P : List Event) → All (λ e. leaves_clock e ≡ true) Q
    → clock_after 0 (Q ++ (clock_set_to d n ∷ P)) ≡ some (min (d * per_second P + n + ticks Q) (suc last_second * per_second P - 1))
clock-runs d n Q P h = from 0 Q h ∙ ap {B = Option ℕ} (λ (k : ℕ). some (min k (suc last_second * per_second P - 1))) (omega arith)
  where
    from : (k : ℕ) (Q : List Event) → All (λ e. leaves_clock e ≡ true) Q
        → clock_after k (Q ++ (clock_set_to d n ∷ P)) ≡ some (min (d * per_second P + n + (ticks Q + k)) (suc last_second * per_second P - 1))
    from k [] h = ap {B = Option ℕ} (λ (m : ℕ). some (min m (suc last_second * per_second P - 1))) (omega arith)
    from k (laid_out_for t l ∷ Q) h = clash (sym h.0)
    from k (changes i s ∷ Q) h = from k Q h.1
    from k (deletes i ∷ Q) h = from k Q h.1
    from k (one_tick ∷ Q) h =
        from (suc k) Q h.1 ∙ ap {B = Option ℕ} (λ (m : ℕ). some (min m (suc last_second * per_second P - 1))) (omega arith)
    from k (clock_set_to e m ∷ Q) h = clash (sym h.0)
    from k (initiates ∷ Q) h = from k Q h.1
    from k (serves_front p ∷ Q) h = from k Q h.1
    from k (nothing ∷ Q) h = from k Q h.1
