-- Demand 3 read off a leap. Wherever it stands in a list of calls it may be replaced by its ticks; no timer comes due in one of them but the last; and
-- a timer started for n ticks fires in the leap whose last tick is the nth accepted one after that start. Assumes nothing.
use mathlib.Core.Path.{◌≡◌, refl, sym, ap, ap₂, ◌∙◌, subst}
use Prim.Native.Nat.{ℕ, zero, suc, ◌+◌, ◌-◌, ◌≤◌, ◌<◌}
use native.Mathlib.Omega.{arith}
use mathlib.Core.Bool.{Bool, true, false, cond, not, ◌&&◌}
use mathlib.Core.Option.{some}
use mathlib.Core.List.Memᴰ
use mathlib.Core.List.{List, [], ◌∷◌, ◌++◌, map, append_assoc, append-nil, Memᴰ}
use lib.ListN.{length, replicate, length-append, length-map}
use lib.Dec.{leb}
use borrow.Author.Tests.{leb-true, leb-false, eq-eqb}
use Rattle.model.specs.Lists.{keep, any, count, InOrder}
use Rattle.model.specs.Calls.{Call, lay_out, fire_after, tick, leap}
use Rattle.model.specs.declared.Chain.{Chain}
use Rattle.model.specs.declared.Chain.TheVariants.{ByTicks, ByDate, Queue}
use Rattle.model.specs.Kinds.{chain_for, same_chain, is_server}
use Rattle.model.specs.Words.{links, read}
use Rattle.model.specs.Outcome.{outcome, after, first_number, ticks_done}
use Rattle.demand.specs.History.{Start, Event, changes, one_tick, events_on, ticks, Placed, starts, comes_due, fires, is_queued, in_chain, ticks_left_or_date, entry_of, entry, split_of, queued_as, ends, left_in_queue, Queues, IsQueue}
use Rattle.model.specs.Entries.{Begins}
use Rattle.model.specs.Leap.{Leaps}
use Rattle.demand.specs.Demand.{accepted_in, shown, events_after, Standing}
use Rattle.laws.proofs.ListLaws.{cases, clash}
use Rattle.laws.proofs.KindLaws.{not-queue}
use Rattle.demand.proofs.QueueLaws.{none-handed, queue-kept, one-queue}
use Rattle.demand.proofs.SingleCalls.{accepted-append, events-append, events-ticks}
use Rattle.laws.proofs.OutcomeLaws.{after-append}
use Rattle.demand.proofs.Demand3.{demand3}
use Rattle.demand.proofs.Readings.{start_at, for_ticks, at-nth-tick, fires-listed, goes-to-back, Lists}
use Rattle.demand.proofs.CallReadings.{is_tick_call, ends_timer, since, whole, More, more, events-since}

-- ---- a leap is its ticks, wherever it stands

-- these are the timers of chain k that fire in a tick, in firing order
abbrev FiringIn : Chain → List Placed → List Event → Type 0
FiringIn k l h = InOrder ticks_left_or_date (keep (in_chain k) (keep (fires one_tick) (starts h))) l

-- what a leap lists on the table u, where its last tick comes after the events h
pub record LeapLists (u : List ℕ) (k : ℕ) (list : List ℕ) (h : List Event) : Type 0 where
  pub ticking : List Placed
  pub dated : List Placed
  pub ticking-order : InOrder ticks_left_or_date (keep (in_chain ByTicks) (keep (fires one_tick) (starts h))) ticking
  pub dated-order : InOrder ticks_left_or_date (keep (in_chain ByDate) (keep (fires one_tick) (starts h))) dated
  pub entries : Begins (outcome u (leap k list)).list list (map entry (ticking ++ dated))
  pub counted : first_number (outcome u (leap k list)).answer ≡ length (ticking ++ dated)

-- a start that fires is among those that are listed
among : (P Q : List Event) (id : ℕ) (s : Start) (l d : List Placed) → fires one_tick (start_at P id s Q) ≡ true
    → FiringIn ByTicks l (Q ++ (changes id (some s) ∷ P)) → FiringIn ByDate d (Q ++ (changes id (some s) ∷ P)) → Memᴰ (start_at P id s Q) (l ++ d)
among P Q id s l d now by-ticks by-date = in-chain (chain_for s.mode) refl
  where
    in-chain : (k : Chain) → chain_for s.mode ≡ k → Memᴰ (start_at P id s Q) (l ++ d)
    in-chain ByTicks is = Memᴰ.append_left d (fires-listed ByTicks P Q id s one_tick l (ap (same_chain ByTicks) is) now by-ticks)
    in-chain ByDate is = Memᴰ.append_right l (fires-listed ByDate P Q id s one_tick d (ap (same_chain ByDate) is) now by-date)
    in-chain Queue is = clash (sym (ap (same_chain Queue) is) ∙ not-queue s.mode)

some-element : {A : Type 0} {x : A} (l : List A) → Memᴰ x l → 0 < length l
some-element {A = A} [] m = elim m [ ]
some-element (y ∷ ys) m = omega arith

module _ (w : List ℕ) (n t split : ℕ) (ok : (outcome w (lay_out n t split)).status ≡ 0) (xs : List Call) (k : ℕ) (list : List ℕ)
    (accepted : (outcome (after w (lay_out n t split ∷ xs)) (leap k list)).status ≡ 0) where
  abbrev u : List ℕ
  u = after w (lay_out n t split ∷ xs)

  abbrev es : List Event
  es = events_after w (lay_out n t split ∷ xs)

  -- the ticks that it did
  abbrev pub done : ℕ
  done = ticks_done (outcome u (leap k list)).answer

  leaps-now : Leaps u k list
  leaps-now = ((demand3 w n t split ok (xs ++ (leap k list ∷ []))).answers xs [] (leap k list) refl).leaps k list refl accepted

  many : done ≡ leaps-now.done
  many = ap ticks_done leaps-now.answer

  -- each of them is accepted
  tick-accepted : (m : ℕ) → m < done → (outcome (after u (replicate m (tick list))) (tick list)).status ≡ 0
  tick-accepted m p =
      cases (leb leaps-now.done (suc m))
      (λ e. (leaps-now.last m (omega (arith, many, leb-true leaps-now.done (suc m) e))).accepted)
      (λ e. (leaps-now.empty m (leb-false leaps-now.done (suc m) e)).0.accepted)

  -- the calls, and so many of its ticks
  abbrev up_to : ℕ → List Call
  up_to m = xs ++ replicate m (tick list)

  table-upto : (m : ℕ) → after w (lay_out n t split ∷ up_to m) ≡ after u (replicate m (tick list))
  table-upto m = after-append w (lay_out n t split ∷ xs) (replicate m (tick list))

  all-accepted : (m : ℕ) (v : List ℕ) → ((j : ℕ) → j < m → (outcome (after v (replicate j (tick list))) (tick list)).status ≡ 0)
      → accepted_in v (replicate m (tick list)) ≡ replicate m (tick list)
  all-accepted zero v h = refl
  all-accepted (suc m) v h =
      ap₂ (λ (b : Bool) (l : List Call). cond b (tick list ∷ l) l) (eq-eqb (outcome v (tick list)).status 0 (h 0 (omega arith)))
      (all-accepted m (outcome v (tick list)).table (λ j p. h (suc j) (omega arith)))

  accepted-upto : (m : ℕ) → m ≤ done → accepted_in w (lay_out n t split ∷ up_to m) ≡ accepted_in w (lay_out n t split ∷ xs) ++ replicate m (tick list)
  accepted-upto m p =
      accepted-append w (lay_out n t split ∷ xs) (replicate m (tick list))
      ∙ ap (λ (l : List Call). accepted_in w (lay_out n t split ∷ xs) ++ l) (all-accepted m u (λ j q. tick-accepted j (omega arith)))

  pub events-upto : (m : ℕ) → m ≤ done → events_after w (lay_out n t split ∷ up_to m) ≡ replicate m one_tick ++ es
  events-upto m p =
      ap (events_on []) (accepted-upto m p) ∙ events-append [] (accepted_in w (lay_out n t split ∷ xs)) (replicate m (tick list)) ∙ events-ticks list m es

  -- Whatever calls follow: the table, and the accepted calls, are those with the ticks in the leap's place.
  module _ (ys : List Call) where
    pub leap-replaced-table : after w (lay_out n t split ∷ xs ++ (leap k list ∷ ys)) ≡ after w (lay_out n t split ∷ up_to done ++ ys)
    leap-replaced-table =
        after-append w (lay_out n t split ∷ xs) (leap k list ∷ ys) ∙ ap (λ (v : List ℕ). after v ys) (leap-table ∙ sym (table-upto done))
        ∙ sym (after-append w (lay_out n t split ∷ up_to done) ys)
      where
        leap-table : (outcome u (leap k list)).table ≡ after u (replicate done (tick list))
        leap-table = leaps-now.table ∙ ap (λ (m : ℕ). after u (replicate m (tick list))) (sym many)

    pub leap-replaced : accepted_in w (lay_out n t split ∷ xs ++ (leap k list ∷ ys)) ≡ accepted_in w (lay_out n t split ∷ up_to done ++ ys)
    leap-replaced =
        let v = (outcome u (leap k list)).table in
        let same : v ≡ after w (lay_out n t split ∷ up_to done) =
        leaps-now.table ∙ ap (λ (m : ℕ). after u (replicate m (tick list))) (sym many) ∙ sym (table-upto done) in
        accepted-append w (lay_out n t split ∷ xs) (leap k list ∷ ys)
        ∙ ap (λ (b : Bool). accepted_in w (lay_out n t split ∷ xs) ++ cond b (replicate done (tick list) ++ accepted_in v ys) (accepted_in v ys))
        (eq-eqb (outcome u (leap k list)).status 0 accepted)
        ∙ sym (append_assoc (accepted_in w (lay_out n t split ∷ xs)) (replicate done (tick list)) (accepted_in v ys))
        ∙ ap₂ (λ (l : List Call) (x : List ℕ). l ++ accepted_in x ys) (sym (accepted-upto done (omega arith))) same
        ∙ sym (accepted-append w (lay_out n t split ∷ up_to done) ys)

  -- It does at most k ticks, and fewer only where it fires or queues a timer; where it does none it fires none, and leaves its list.
  pub within-bounds : (done ≤ k)
      × (first_number (outcome u (leap k list)).answer ≡ 0 → links Queue (outcome u (leap k list)).table ≡ links Queue u → done ≡ k)
      × (done ≡ 0 → (first_number (outcome u (leap k list)).answer ≡ 0) × ((outcome u (leap k list)).list ≡ list))
  within-bounds =
      let counts = ap first_number leaps-now.answer in (
        omega (arith, many, leaps-now.within),
        λ none queue. many ∙ leaps-now.stops (sym counts ∙ none) queue,
        λ zero. let still = leaps-now.still (sym many ∙ zero) in (counts ∙ still.0, still.1),
      )

  -- ---- it passes over no timer

  -- a start after which there were the events Q, and then m of the ticks
  module _ (P Q : List Event) (id : ℕ) (s : Start) (is : es ≡ Q ++ (changes id (some s) ∷ P)) (m : ℕ) (few : m < done) where
    abbrev then : List Event
    then = replicate m one_tick ++ Q

    events-then : replicate m one_tick ++ es ≡ then ++ (changes id (some s) ∷ P)
    events-then = ap (λ (l : List Event). replicate m one_tick ++ l) is ∙ sym (append_assoc (replicate m one_tick) Q (changes id (some s) ∷ P))

    -- in any of the ticks but the last no timer is due
    is_last : (suc m < leaps-now.done → ⊥) → suc m ≡ done
    is_last h =
        cases (leb leaps-now.done (suc m))
        (λ e. omega (arith, many, leb-true leaps-now.done (suc m) e))
        (λ e. absurd (h (leb-false leaps-now.done (suc m) e)))

    -- one that fires is counted
    pub fires-in-last : fires one_tick (start_at P id s then) ≡ true → suc m ≡ done
    fires-in-last now =
        is_last (λ p.
        let a = ((demand3 w n t split ok (xs ++ (leap k list ∷ []))).answers xs [] (leap k list) refl).each-tick k list refl accepted m few in
        let fired = a.ticking ++ a.dated in
        let none : length fired ≡ 0 =
        ap first_number (sym (a.counted refl) ∙ (leaps-now.empty m p).0.counts) in
        omega (
          arith,
          none,
          some-element fired (among P then id s a.ticking a.dated now
              (subst (FiringIn ByTicks a.ticking) events-then a.ticking-order) (subst (FiringIn ByDate a.dated) events-then a.dated-order)),
        ))

    -- one that is queued makes the queue longer
    pub queued-in-last : is_queued one_tick (start_at P id s then) ≡ true → suc m ≡ done
    queued-in-last now =
        is_last (λ p.
        let standing : (j : ℕ) → Standing (after w (lay_out n t split ∷ up_to j)) (events_after w (lay_out n t split ∷ up_to j)) =
        λ j. (demand3 w n t split ok (up_to j)).standing (up_to j) [] (append-nil (up_to j)) in
        let was = (standing m).by_next Queue in
        let next = (standing (suc m)).by_next Queue in
        let is-next : IsQueue (one_tick ∷ (replicate m one_tick ++ es)) next.0 =
        subst (λ (h : List Event). IsQueue h next.0) (events-upto (suc m) (omega arith)) next.1 in
        let is-was : IsQueue (replicate m one_tick ++ es) was.0 =
        subst (λ (h : List Event). IsQueue h was.0) (events-upto m (omega arith)) was.1 in
        let new = is-next.1 in
        let longer : length next.0 ≡ length was.0 + length new =
        ap length is-next.4 ∙ length-append (left_in_queue (split_of (replicate m one_tick ++ es)) one_tick is-next.0) new
        ∙ ap (λ (q : List Start). length q + length new) (queue-kept (split_of (replicate m one_tick ++ es)) one_tick is-next.0 refl (λ j. refl)
        ∙ one-queue (replicate m one_tick ++ es) is-next.0 was.0 is-next.2 is-was) in
        let same : length (links Queue (after w (lay_out n t split ∷ up_to (suc m)))) ≡ length (links Queue (after w (lay_out n t split ∷ up_to m))) =
        ap (λ (v : List ℕ). length (links Queue v)) (table-upto (suc m) ∙ one_more m u)
        ∙ ap length (leaps-now.empty m p).1 ∙ ap (λ (v : List ℕ). length (links Queue v)) (sym (table-upto m)) in
        omega (
          arith,
          longer,
          same,
          as_many (suc m) next.0 next.2,
          as_many m was.0 was.2,
          some-element new (goes-to-back P then id s one_tick new now (subst (λ (h : List Event). Queues h one_tick new) events-then is-next.3)),
        ))
      where
        as_many : (j : ℕ) (q : List Start)
            → map (shown (read (after w (lay_out n t split ∷ up_to j))).slots) (links Queue (after w (lay_out n t split ∷ up_to j))) ≡ map queued_as q
            → length (links Queue (after w (lay_out n t split ∷ up_to j))) ≡ length q
        as_many j q e =
            let v = after w (lay_out n t split ∷ up_to j) in
            sym (length-map (links Queue v) (shown (read v).slots)) ∙ ap length e ∙ length-map q queued_as

        one_more : (j : ℕ) (v : List ℕ) → after v (replicate (suc j) (tick list)) ≡ (outcome (after v (replicate j (tick list))) (tick list)).table
        one_more zero v = refl
        one_more (suc j) v = one_more j (outcome v (tick list)).table

    -- A start that comes due in a tick of the leap, to fire or to be queued, does so in its last.
    pub due-in-last : comes_due one_tick (start_at P id s then) ≡ true → suc m ≡ done
    due-in-last now =
        cases (is_server s.mode)
        (λ e. queued-in-last (ap₂ (λ (a b : Bool). a && b) now e))
        (λ e. fires-in-last (ap₂ (λ (a b : Bool). a && not b) now e))

  -- ---- what it lists

  -- Its list begins with the timers that fire in its last tick, interval ones first, each kind in firing order, and it answers how many they are.
  pub leap-lists : (m : ℕ) → suc m ≡ done → LeapLists u k list (replicate m one_tick ++ es)
  leap-lists m is =
      let a = ((demand3 w n t split ok (xs ++ (leap k list ∷ []))).answers xs [] (leap k list) refl).each-tick k list refl accepted m (omega arith) in
      let last = leaps-now.last m (is ∙ many) in
      let l = a.ticking ++ a.dated in
      record {
        ticking = a.ticking;
        dated = a.dated;
        ticking-order = a.ticking-order;
        dated-order = a.dated-order;
        entries = subst (λ (x : List ℕ). Begins x list (map entry l)) last.leaves
            (subst (Begins (outcome (after u (replicate m (tick list))) (tick list)).list list)
            (ap (λ (q : List Start). map entry l ++ map entry_of q) (none-handed (split_of (replicate m one_tick ++ es)) one_tick a.queue refl)
            ∙ append-nil (map entry l)) a.entries);
        counted = ap first_number leaps-now.answer ∙ ap first_number (sym last.counts ∙ a.counted refl);
      }

-- ---- the nth tick

more-ticks : (m : ℕ) (Q : List Event) → ticks (replicate m one_tick ++ Q) ≡ m + ticks Q
more-ticks zero Q = omega arith
more-ticks (suc m) Q = omega (arith, more-ticks m Q)

none-ends : (id m : ℕ) (Q : List Event) → any (ends id) (replicate m one_tick ++ Q) ≡ any (ends id) Q
none-ends id zero Q = refl
none-ends id (suc m) Q = none-ends id m Q

-- The calls before a start, the start, the calls after it of which so many are accepted ticks and none that is accepted ends the timer, and then an
-- accepted leap.
module _ (w : List ℕ) (n t split : ℕ) (ok : (outcome w (lay_out n t split)).status ≡ 0) (before later : List Call) (party id a r v k : ℕ) (list : List ℕ)
    (started : (outcome (after w (lay_out n t split ∷ before)) (fire_after party id a r v)).status ≡ 0)
    (goes_on : any (ends_timer id) (since w n t split before (fire_after party id a r v) later) ≡ false)
    (accepted : (outcome (after w (lay_out n t split ∷ whole w n t split before (fire_after party id a r v) later)) (leap k list)).status ≡ 0) where
  abbrev calls : List Call
  calls = whole w n t split before (fire_after party id a r v) later

  -- the accepted ticks since the start, and those of the leap
  abbrev pub ticks_since : ℕ
  ticks_since = count is_tick_call (since w n t split before (fire_after party id a r v) later)

  abbrev pub ticks_now : ℕ
  ticks_now = done w n t split ok calls k list accepted

  abbrev P : List Event
  P = events_after w (lay_out n t split ∷ before)

  abbrev s : Start
  s = for_ticks id a r v

  later-events : More id (changes id (some s) ∷ P) (since w n t split before (fire_after party id a r v) later)
  later-events = more id (changes id (some s) ∷ P) (since w n t split before (fire_after party id a r v) later)

  are : events_after w (lay_out n t split ∷ calls) ≡ later-events.events ++ (changes id (some s) ∷ P)
  are = events-since w n t split before (fire_after party id a r v) later refl started ∙ later-events.are

  fires-at : (m : ℕ) → suc (m + ticks_since) ≡ a → fires one_tick (start_at P id s (replicate m one_tick ++ later-events.events)) ≡ true
  fires-at m nth =
      let Q = replicate m one_tick ++ later-events.events in
      at-nth-tick P Q id id a r v (omega arith) one_tick
      ∙ ap₂ (λ (x y : Bool). not x && y) (none-ends id m later-events.events ∙ later-events.as-ended ∙ goes_on)
      (eq-eqb (suc (ticks Q)) a (omega (arith, nth, more-ticks m later-events.events, later-events.as_many)))

  -- The leap stops at the nth accepted tick after the start, or before it.
  pub nth-tick-not-passed : ticks_since < a → ticks_since + ticks_now ≤ a
  nth-tick-not-passed some_left =
      cases (leb (ticks_since + ticks_now) a)
      (λ e. leb-true (ticks_since + ticks_now) a e)
      (λ e.
      let past = leb-false (ticks_since + ticks_now) a e in
      let m : ℕ = a - suc ticks_since in
      let it = fires-in-last w n t split ok calls k list accepted P later-events.events id s are m (omega arith) (fires-at m (omega arith)) in
      absurd (omega (arith, it, past)))

  -- Where it stops there it lists the timer.
  pub nth-tick-in-leap : ticks_since < a → ticks_since + ticks_now ≡ a → Lists (after w (lay_out n t split ∷ calls)) (leap k list) list id r v
  nth-tick-in-leap some_left nth =
      let m : ℕ = ticks_now - 1 in
      let l = leap-lists w n t split ok calls k list accepted m (omega arith) in
      let Q = replicate m one_tick ++ later-events.events in
      let then : replicate m one_tick ++ events_after w (lay_out n t split ∷ calls) ≡ Q ++ (changes id (some s) ∷ P) =
      ap (λ (h : List Event). replicate m one_tick ++ h) are ∙ sym (append_assoc (replicate m one_tick) later-events.events (changes id (some s) ∷ P)) in (
        map entry (l.ticking ++ l.dated),
        l.entries,
        Memᴰ.map entry (among P Q id s l.ticking l.dated (fires-at m (omega arith)) (subst (FiringIn ByTicks l.ticking) then l.ticking-order)
            (subst (FiringIn ByDate l.dated) then l.dated-order)),
      )
