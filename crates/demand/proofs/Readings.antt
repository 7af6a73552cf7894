-- What the words of demand 3 come to, for a reader who wants the places in the list: which list an order allows, when a start fires, and
-- that nothing else does. Assumes nothing.
use mathlib.Core.Path.{◌≡◌, refl, sym, ap, ap₂, ◌∙◌, subst}
use Prim.Native.Nat.{ℕ, suc, ◌+◌, ◌*◌, ◌/◌, ◌%◌, ◌≤◌, ◌<◌}
use native.Mathlib.Nat.{mul-mod_left, div-add-mod', add-zero}
use native.Mathlib.Omega.{arith}
use mathlib.Core.Bool.{Bool, true, false, not, ◌&&◌, ◌||◌, and-true}
use mathlib.Core.Option.{Option, none, some}
use mathlib.Core.List.Memᴰ
use mathlib.Core.List.{List, [], ◌∷◌, ◌++◌, map, Memᴰ}
use lib.Dec.{leb, eqb}
use borrow.Author.Tests.{eqb-true, leb-true, leb-false, eq-eqb, ne_eqb}
use Rattle.calendar.specs.declared.WallTime.{WallTime}
use Rattle.calendar.specs.Calendar.{seconds_of}
use Rattle.model.specs.Lists.{goes_behind, keep, any, place, All, InOrder}
use Rattle.model.specs.Calls.{Call, lay_out, tick, set_clock, is_leap, lent_to}
use Rattle.model.specs.declared.Chain.{Chain}
use Rattle.model.specs.declared.Chain.TheVariants.{ByTicks, ByDate, Queue}
use Rattle.model.specs.declared.Mode.{Mode}
use Rattle.model.specs.declared.Mode.TheVariants.{After, When, Every, ServerAfter, ServerWhen}
use Rattle.model.specs.Kinds.{chain_for, is_periodic, is_server, same_chain}
use Rattle.model.specs.State.{with_clock, Fired}
use Rattle.demand.specs.History.{Start, start_of, Event, changes, one_tick, event_of, clock_set_to, start_in, is_tick, ticks, past, moves_clock, Placed, with_event, placed, starts, ends, was_ended, due_in, is_due, was_due_in, was_due, comes_due, is_queued, fires, goes_back, in_turn, in_chain, ticks_left_or_date, entry_of, entry, Queues, IsQueue, split_of, served_from}
use Rattle.model.specs.Directives.{clock_at, effect}
use Rattle.model.specs.Words.{written_over, links, read}
use Rattle.model.specs.Sound.{sound}
use Rattle.model.specs.Outcome.{Outcome, status_on, outcome, after}
use Rattle.model.specs.Entries.{Begins}
use Rattle.demand.specs.Demand.{events_after}
use Rattle.laws.proofs.ListLaws.{cases, clash, both, all_map, all_append, all_keep, all-passed, all-zip}
use Rattle.laws.proofs.Order.{order, order_on, all-order_on, order-in-order, one-order}
use Rattle.laws.proofs.ReadBack.{links-is}
use Rattle.demand.proofs.HistoryLaws.{all-starts, fewer}
use Rattle.laws.proofs.KindLaws.{dated-not-again, not-queue}
use Rattle.laws.proofs.SoundHolds.{sound-holds}
use Rattle.laws.proofs.Steps.{fire-elsewhere, chained-with-clock}
use Rattle.laws.proofs.OutcomeLaws.{each-leap, outcome-accepted, outcome-status}
use Rattle.laws.proofs.CallTables.{effect-holds}
use Rattle.demand.proofs.QueueLaws.{none-handed}
use Rattle.demand.proofs.Demand3.{demand3}

-- ---- 1. A start of the list is a place in it.

pub record From (es : List Event) (g : Placed) : Type 0 where
  pub earlier : List Event
  pub event : Event
  pub split : es ≡ g.after ++ (event ∷ earlier)
  pub is-start : start_in event ≡ some g.begun
  pub upto : g.before ≡ event ∷ earlier

pub starts_from : (es : List Event) → All (From es) (starts es)
starts_from [] = tt
starts_from (e ∷ es) =
    all-starts (From es) (From (e ∷ es)) e es (λ g p. record {
      earlier = p.earlier;
      event = p.event;
      split = ap {B = List Event} (λ l. e ∷ l) p.split;
      is-start = p.is-start;
      upto = p.upto;
    }) (starts_from es) (go (start_in e) refl)
  where
    go : (o : Option Start) → start_in e ≡ o → All (From (e ∷ es)) (placed o (e ∷ es))
    go none f = tt
    go (some s) f = (record { earlier = es; event = e; split = refl; is-start = f; upto = refl }, tt)

-- ---- 2. Nothing is listed but what was started, is due there and was not ended.

pub record Listed (es : List Event) (e : Event) (g : Placed) : Type 0 where
  pub place : From es g
  pub not-ended : was_ended g ≡ false
  pub not-due-before : is_periodic g.begun.mode ≡ false → was_due g ≡ false
  pub due : is_due e g ≡ true
  pub no-server : is_server g.begun.mode ≡ false

listed_of : (es : List Event) (e : Event) (g : Placed) → From es g → fires e g ≡ true → Listed es e g
listed_of es e g p f =
    let r = all-four (was_ended g) (is_periodic g.begun.mode) (was_due g) (is_due e g) (is_server g.begun.mode) f in
    record { place = p; not-ended = r.0; not-due-before = r.1; due = r.2; no-server = r.3 }
  where
    all-four : (a p b c q : Bool) → (((not a && (p || not b)) && c) && not q) ≡ true → (a ≡ false) × (p ≡ false → b ≡ false) × (c ≡ true) × (q ≡ false)
    all-four true p b c q f = clash (sym f)
    all-four false true b true true f = clash (sym f)
    all-four false true b true false f = (refl, λ e. clash e, refl, refl)
    all-four false true b false q f = clash (sym f)
    all-four false false true c q f = clash (sym f)
    all-four false false false true true f = clash (sym f)
    all-four false false false true false f = (refl, λ e. refl, refl, refl)
    all-four false false false false q f = clash (sym f)

pub only-due : (k : Chain) (es : List Event) (e : Event) (l : List Placed) → InOrder ticks_left_or_date (keep (in_chain k) (keep (fires e) (starts es))) l
    → All (Listed es e) l
only-due k es e l o =
    subst (All (Listed es e)) (one-order ticks_left_or_date (keep (in_chain k) S) (order ticks_left_or_date (keep (in_chain k) S)) l (order-in-order ticks_left_or_date (keep (in_chain k) S)) o)
    (all-order_on (Listed es e) ticks_left_or_date [] (keep (in_chain k) S) tt (all_keep (Listed es e) (in_chain k) S
    (all_map (λ g p. listed_of es e g p.0 p.1) S
    (all-zip (From es) (λ g. fires e g ≡ true) S (all_keep (From es) (fires e) (starts es) (starts_from es)) (all-passed (fires e) (starts es))))))
  where
    S : List Placed
    S = keep (fires e) (starts es)

-- ---- 3. A start for n ticks fires at the nth tick after it, unless it was ended, and neither earlier nor later.

-- the start s after the events P, with Q after it
abbrev pub start_at : List Event → ℕ → Start → List Event → Placed
start_at P id s Q = record { begun = s; before = changes id (some s) ∷ P; after = Q }

abbrev pub for_ticks : ℕ → ℕ → ℕ → ℕ → Start
for_ticks timer n r u = start_of timer After n r u

-- a start that is due once, at the nth tick after it
module _ (m : Mode) (n : ℕ) (single : is_periodic m ≡ false)
    (nth : (e : Event) (before after : List Event) → due_in m n e before after ≡ (is_tick e && eqb (suc (ticks after)) n)) (some-ticks : 0 < n)
    (P Q : List Event) (id timer r u : ℕ) where
  abbrev s : Start
  s = start_of timer m n r u

  -- it was not due while fewer than n ticks had passed
  pub not_yet : (before after : List Event) → ticks after < n → was_due_in s before after ≡ false
  not_yet before [] p = refl
  not_yet before (e ∷ after) p =
      cases (is_tick e)
      (λ t.
      let q : suc (ticks after) < n = rw t at p in
      rw (nth e before after, t, ne_eqb (suc (ticks after)) n (λ z. omega arith)) (not_yet before after (omega arith)))
      (λ t. rw (nth e before after, t) (not_yet before after (rw t at p)))

  due-at-nth : (e : Event) → comes_due e (start_at P id s Q) ≡ (not (any (ends timer) Q) && (is_tick e && eqb (suc (ticks Q)) n))
  due-at-nth e =
      let B = changes id (some s) ∷ P in
      let due : (b : Bool) → was_due_in s B Q ≡ b → comes_due e (start_at P id s Q) ≡ ((not (any (ends timer) Q) && not b) && (is_tick e && eqb (suc (ticks Q)) n)) =
      λ b was.
      ap₂ (λ (p c : Bool). (not (any (ends timer) Q) && (p || not (was_due_in s B Q))) && c) single (nth e B Q)
      ∙ ap (λ (c : Bool). (not (any (ends timer) Q) && not c) && (is_tick e && eqb (suc (ticks Q)) n)) was in
      cases (leb n (ticks Q))
      (λ f.
      let past : n ≤ ticks Q = leb-true n (ticks Q) f in
      let was : was_due_in s B Q ≡ true =
      cases (was_due_in s B Q) (λ g. g) (λ g. absurd (omega (arith, fewer s B Q (λ x l. nth x B l) some-ticks g))) in
      due true was ∙ rw (ne_eqb (suc (ticks Q)) n (λ z. omega arith)) (never (any (ends timer) Q) (is_tick e)))
      (λ f. due false (not_yet B Q (leb-false n (ticks Q) f)) ∙ now (any (ends timer) Q) (is_tick e && eqb (suc (ticks Q)) n))
    where
      never : (a b : Bool) → ((not a && false) && (b && false)) ≡ (not a && (b && false))
      never true b = refl
      never false true = refl
      never false false = refl

      now : (a b : Bool) → ((not a && true) && b) ≡ (not a && b)
      now true b = refl
      now false b = refl

module _ (P Q : List Event) (id timer n r u : ℕ) (some-ticks : 0 < n) where
  pub at-nth-tick : (e : Event) → fires e (start_at P id (for_ticks timer n r u) Q)
      ≡ (not (any (ends timer) Q) && (is_tick e && eqb (suc (ticks Q)) n))
  at-nth-tick e =
      and-true (comes_due e (start_at P id (for_ticks timer n r u) Q)) ∙ due-at-nth After n refl (λ e before after. refl) some-ticks P Q id timer r u e

  -- a server start is queued there
  pub queued-at-nth-tick : (e : Event) → is_queued e (start_at P id (start_of timer ServerAfter n r u) Q)
      ≡ (not (any (ends timer) Q) && (is_tick e && eqb (suc (ticks Q)) n))
  queued-at-nth-tick e =
      and-true (comes_due e (start_at P id (start_of timer ServerAfter n r u) Q))
      ∙ due-at-nth ServerAfter n refl (λ e before after. refl) some-ticks P Q id timer r u e

-- A start for a date fires in just the tick or set clock that leaves the clock at or past it, where none did so before and it was not ended.
abbrev pub for_date : ℕ → ℕ → ℕ → ℕ → Start
for_date timer d r u = start_of timer When d r u

-- some tick or set clock of Q, which came after P, left the clock at or past the date
abbrev pub reached : ℕ → List Event → List Event → Bool
reached d P [] = false
reached d P (e ∷ Q) = (moves_clock e && past d (e ∷ Q ++ P)) || reached d P Q

pub at-date : (P Q : List Event) (id timer d r u : ℕ) (e : Event) → let g = start_at P id (for_date timer d r u) Q in
    fires e g ≡ ((not (any (ends timer) Q) && not (reached d g.before Q)) && (moves_clock e && past d (e ∷ Q ++ g.before)))
at-date P Q id timer d r u e =
    let B = changes id (some (for_date timer d r u)) ∷ P in
    and-true (comes_due e (start_at P id (for_date timer d r u) Q))
    ∙ ap (λ (b : Bool). (not (any (ends timer) Q) && not b) && (moves_clock e && past d (e ∷ Q ++ B))) (was B Q)
  where
    was : (B Q : List Event) → was_due_in (for_date timer d r u) B Q ≡ reached d B Q
    was B [] = refl
    was B (x ∷ Q) = ap (λ (b : Bool). (moves_clock x && past d (x ∷ Q ++ B)) || b) (was B Q)

-- a server start for a date is queued there
pub queued-at-date : (P Q : List Event) (id timer d r u : ℕ) (e : Event) → let g = start_at P id (start_of timer ServerWhen d r u) Q in
    is_queued e g ≡ ((not (any (ends timer) Q) && not (reached d g.before Q)) && (moves_clock e && past d (e ∷ Q ++ g.before)))
queued-at-date P Q id timer d r u e =
    let s = start_of timer ServerWhen d r u in
    let B = changes id (some s) ∷ P in
    and-true (comes_due e (start_at P id s Q))
    ∙ ap (λ (b : Bool). (not (any (ends timer) Q) && not b) && (moves_clock e && past d (e ∷ Q ++ B))) (was B Q)
  where
    was : (B Q : List Event) → was_due_in (start_of timer ServerWhen d r u) B Q ≡ reached d B Q
    was B [] = refl
    was B (x ∷ Q) = ap (λ (b : Bool). (moves_clock x && past d (x ∷ Q ++ B)) || b) (was B Q)

-- A periodic start for n fires in e exactly if it was not ended and e is a tick with which the ticks since the start are a multiple of n.
pub at-every-nth : (P Q : List Event) (id timer n r u : ℕ) (e : Event) → fires e (start_at P id (start_of timer Every n r u) Q)
    ≡ (not (any (ends timer) Q) && (is_tick e && eqb (suc (ticks Q) % n) 0))
at-every-nth P Q id timer n r u e =
    and-true (comes_due e (start_at P id (start_of timer Every n r u) Q))
    ∙ ap (λ (b : Bool). b && (is_tick e && eqb (suc (ticks Q) % n) 0)) (and-true (not (any (ends timer) Q)))

-- ---- 4. What fires is listed.

mem-keep : {A : Type 0} (p : A → Bool) {x : A} (l : List A) → p x ≡ true → Memᴰ x l → Memᴰ x (keep p l)
mem-keep {A = A} p [] e x3 = elim x3 [ ]
mem-keep p (y ∷ ys) e (Memᴰ.head q) = rw (ap p (sym q) ∙ e) (Memᴰ.head q)
mem-keep p (y ∷ ys) e (Memᴰ.tail m) = cases (p y) (λ f. rw f (Memᴰ.tail (mem-keep p ys e m))) (λ f. rw f (mem-keep p ys e m))

mem-place : {A : Type 0} (key : A → ℕ) (x : A) (l : List A) → Memᴰ x (place key x l)
mem-place key x [] = Memᴰ.head refl
mem-place key x (y ∷ ys) = cases (goes_behind (key x) (key y)) (λ f. rw f (Memᴰ.tail (mem-place key x ys))) (λ f. rw f (Memᴰ.head refl))

mem-place-tail : {A : Type 0} (key : A → ℕ) (x : A) {z : A} (l : List A) → Memᴰ z l → Memᴰ z (place key x l)
mem-place-tail {A = A} key x {z = z} [] x'' = elim x'' [ ]
mem-place-tail key x (y ∷ ys) (Memᴰ.head q) =
    cases (goes_behind (key x) (key y)) (λ f. rw f (Memᴰ.head q)) (λ f. rw f (Memᴰ.tail (Memᴰ.head q)))
mem-place-tail key x (y ∷ ys) (Memᴰ.tail m) =
    cases (goes_behind (key x) (key y)) (λ f. rw f (Memᴰ.tail (mem-place-tail key x ys m))) (λ f. rw f (Memᴰ.tail (Memᴰ.tail m)))

mem-acc : {A : Type 0} (key : A → ℕ) {z : A} (acc l : List A) → Memᴰ z acc → Memᴰ z (order_on key acc l)
mem-acc key acc [] m = m
mem-acc key acc (x ∷ xs) m = mem-acc key (place key x acc) xs (mem-place-tail key x acc m)

mem-order : {A : Type 0} (key : A → ℕ) {z : A} (acc l : List A) → Memᴰ z l → Memᴰ z (order_on key acc l)
mem-order {A = A} key {z = z} acc [] x' = elim x' [ ]
mem-order key acc (x ∷ xs) (Memᴰ.head q) = mem-acc key (place key x acc) xs (Memᴰ.cast q (mem-place key x acc))
mem-order key acc (x ∷ xs) (Memᴰ.tail m) = mem-order key (place key x acc) xs m

mem-turned : (e : Event) {x : Placed} (l : List Placed) → Memᴰ x l → Memᴰ x (in_turn e l)
mem-turned e {x} l m =
    cases (goes_back e x)
    (λ f. Memᴰ.append_right (keep (λ g. not (goes_back e g)) l) (mem-keep (goes_back e) {x = x} l f m))
    (λ f. Memᴰ.append_left (keep (goes_back e) l) (mem-keep (λ g. not (goes_back e g)) {x = x} l (ap not f) m))

pub start-placed : (P Q : List Event) (id : ℕ) (s : Start) → Memᴰ (start_at P id s Q) (starts (Q ++ (changes id (some s) ∷ P)))
start-placed P [] id s = Memᴰ.append_right (map (with_event (changes id (some s))) (in_turn (changes id (some s)) (starts P))) (Memᴰ.head refl)
start-placed P (x ∷ Q) id s =
    Memᴰ.append_left (placed (start_in x) (x ∷ Q ++ (changes id (some s) ∷ P)))
    (Memᴰ.map (with_event x) (mem-turned x (starts (Q ++ (changes id (some s) ∷ P))) (start-placed P Q id s)))

-- a start that passes a test is in the list, in firing order, of those of its chain that do
pub in-its-list : (test : Placed → Bool) (k : Chain) (P Q : List Event) (id : ℕ) (s : Start) (l : List Placed) → same_chain k (chain_for s.mode) ≡ true
    → test (start_at P id s Q) ≡ true → InOrder ticks_left_or_date (keep (in_chain k) (keep test (starts (Q ++ (changes id (some s) ∷ P))))) l
    → Memᴰ (start_at P id s Q) l
in-its-list test k P Q id s l here f o =
    subst (λ (m : List Placed). Memᴰ (start_at P id s Q) m)
    (one-order ticks_left_or_date (keep (in_chain k) S) (order ticks_left_or_date (keep (in_chain k) S)) l (order-in-order ticks_left_or_date (keep (in_chain k) S)) o)
    (mem-order ticks_left_or_date [] (keep (in_chain k) S) (mem-keep (in_chain k) {x = start_at P id s Q} S here
    (mem-keep test {x = start_at P id s Q} (starts (Q ++ (changes id (some s) ∷ P))) f (start-placed P Q id s))))
  where
    S : List Placed
    S = keep test (starts (Q ++ (changes id (some s) ∷ P)))

-- a start that fires in e is in the list that demand 3 asks for
pub fires-listed : (k : Chain) (P Q : List Event) (id : ℕ) (s : Start) (e : Event) (l : List Placed) → same_chain k (chain_for s.mode) ≡ true
    → fires e (start_at P id s Q) ≡ true → InOrder ticks_left_or_date (keep (in_chain k) (keep (fires e) (starts (Q ++ (changes id (some s) ∷ P))))) l
    → Memᴰ (start_at P id s Q) l
fires-listed k P Q id s e = in-its-list (fires e) k P Q id s

-- one that is queued in e is among those that go to the back of the queue
pub goes-to-back : (P Q : List Event) (id : ℕ) (s : Start) (e : Event) (new : List Start) → is_queued e (start_at P id s Q) ≡ true
    → Queues (Q ++ (changes id (some s) ∷ P)) e new → Memᴰ s new
goes-to-back P Q id s e new f q =
    subst (Memᴰ s) (sym q.is) (Memᴰ.map (λ g. g.begun) (by_chain (chain_for s.mode) refl))
  where
    by_chain : (k : Chain) → chain_for s.mode ≡ k → Memᴰ (start_at P id s Q) (q.ticking ++ q.dated)
    by_chain ByTicks is =
        Memᴰ.append_left q.dated (in-its-list (is_queued e) ByTicks P Q id s q.ticking (ap (same_chain ByTicks) is) f q.ticking-order)
    by_chain ByDate is =
        Memᴰ.append_right q.ticking (in-its-list (is_queued e) ByDate P Q id s q.dated (ap (same_chain ByDate) is) f q.dated-order)
    by_chain Queue is = clash (sym (ap (same_chain Queue) is) ∙ not-queue s.mode)

-- ---- 5. A set clock changes no start's ticks left.

pub clock-moves-no-tick : (d n : ℕ) (g : Placed) → ticks_left_or_date (with_event (clock_set_to d n) g) ≡ ticks_left_or_date g
clock-moves-no-tick d n g = refl

-- ---- 6. On the words: what an accepted tick writes to its list.

-- the list that a call was lent now begins with entries among which is this one: id, routine and data
abbrev pub Lists : List ℕ → Call → List ℕ → ℕ → ℕ → ℕ → Type 0
Lists w c list timer r u =
    (fired : List Fired) × Begins (outcome w c).list list fired × Memᴰ (record { id = timer; routine = r; user_data = u }) fired

listed-at-tick : (w : List ℕ) (n t split : ℕ) → (outcome w (lay_out n t split)).status ≡ 0
    → (xs : List Call) (list : List ℕ) (P Q : List Event) (id : ℕ) (s : Start)
    → same_chain ByTicks (chain_for s.mode) ≡ true → (outcome (after w (lay_out n t split ∷ xs)) (tick list)).status ≡ 0
    → events_after w (lay_out n t split ∷ xs) ≡ Q ++ (changes id (some s) ∷ P) → fires one_tick (start_at P id s Q) ≡ true
    → Lists (after w (lay_out n t split ∷ xs)) (tick list) list s.id s.routine s.user_data
listed-at-tick w n t split ok xs list P Q id s ticking accepted is now =
    let a = ((demand3 w n t split ok (xs ++ (tick list ∷ []))).answers xs [] (tick list) refl).lists refl accepted in (
      map entry (a.ticking ++ a.dated) ++ [],
      subst (λ (q : List Start).
          Begins (outcome (after w (lay_out n t split ∷ xs)) (tick list)).list list (map entry (a.ticking ++ a.dated) ++ map entry_of q))
          (none-handed (split_of (events_after w (lay_out n t split ∷ xs))) one_tick a.queue refl) a.entries,
      Memᴰ.append_left [] (Memᴰ.map entry (Memᴰ.append_left a.dated (fires-listed ByTicks P Q id s one_tick a.ticking ticking now
          (subst (λ (es : List Event). InOrder ticks_left_or_date (keep (in_chain ByTicks) (keep (fires one_tick) (starts es))) a.ticking) is
          a.ticking-order)))),
    )

-- An accepted tick lists a start for n ticks, after which there were n - 1 ticks and nothing that ends it.
pub tick-lists : (w : List ℕ) (n t split : ℕ) → (outcome w (lay_out n t split)).status ≡ 0
    → (xs : List Call) (list : List ℕ) (P Q : List Event) (id timer k r u : ℕ)
    → (outcome (after w (lay_out n t split ∷ xs)) (tick list)).status ≡ 0
    → events_after w (lay_out n t split ∷ xs) ≡ Q ++ (changes id (some (for_ticks timer k r u)) ∷ P) → any (ends timer) Q ≡ false → suc (ticks Q) ≡ k
    → Lists (after w (lay_out n t split ∷ xs)) (tick list) list timer r u
tick-lists w n t split ok xs list P Q id timer k r u accepted is quiet nth =
    listed-at-tick w n t split ok xs list P Q id (for_ticks timer k r u) refl accepted is
    (at-nth-tick P Q id timer k r u (omega arith) one_tick ∙ ap₂ (λ (a b : Bool). not a && b) quiet (eq-eqb (suc (ticks Q)) k nth))

-- It lists a periodic start for n wherever the ticks since that start are with it m times n, for each m, and nothing ended it; and a periodic start
-- fires nowhere else.
pub multiple-lists : (w : List ℕ) (n t split : ℕ) → (outcome w (lay_out n t split)).status ≡ 0 → (xs : List Call) (list : List ℕ) (P Q : List Event)
    (id timer k r u m : ℕ) → (outcome (after w (lay_out n t split ∷ xs)) (tick list)).status ≡ 0
    → events_after w (lay_out n t split ∷ xs) ≡ Q ++ (changes id (some (start_of timer Every k r u)) ∷ P) → any (ends timer) Q ≡ false → suc (ticks Q) ≡ m * k
    → Lists (after w (lay_out n t split ∷ xs)) (tick list) list timer r u
multiple-lists w n t split ok xs list P Q id timer k r u m accepted is quiet multiple =
    listed-at-tick w n t split ok xs list P Q id (start_of timer Every k r u) refl accepted is
    (at-every-nth P Q id timer k r u one_tick
    ∙ ap₂ (λ (a b : Bool). not a && b) quiet (eq-eqb (suc (ticks Q) % k) 0 (ap (λ (j : ℕ). j % k) multiple ∙ mul-mod_left m k)))

pub only-multiples : (P Q : List Event) (id timer k r u : ℕ) (e : Event) → fires e (start_at P id (start_of timer Every k r u) Q) ≡ true
    → (is_tick e ≡ true) × ((m : ℕ) × (suc (ticks Q) ≡ m * k))
only-multiples P Q id timer k r u e now =
    let tick = both (is_tick e) (eqb (suc (ticks Q) % k) 0) (both (not (any (ends timer) Q)) (is_tick e && eqb (suc (ticks Q) % k) 0) (sym (at-every-nth P Q id timer k r u e) ∙ now)).1 in
    let rest = eqb-true (suc (ticks Q) % k) 0 tick.1 in
    (tick.0, (suc (ticks Q) / k, sym (div-add-mod' (suc (ticks Q)) k) ∙ ap (λ (j : ℕ). suc (ticks Q) / k * k + j) rest ∙ add-zero _))

-- a tick and a set clock are no leap, which is several
moves-once : (es : List Event) (c : Call) → moves_clock (event_of es c) ≡ true → is_leap c ≡ false
moves-once es = each-leap (λ c. moves_clock (event_of es c) ≡ true → is_leap c ≡ false) (λ k list moving. clash (sym moving)) (λ c one _. one)

-- An accepted tick or set clock that leaves the clock at or past a date lists a start for that date, where none before it did so and nothing
-- ended it.
pub date-lists : (w : List ℕ) (n t split : ℕ) → (outcome w (lay_out n t split)).status ≡ 0 → (xs : List Call) (c : Call) (P Q : List Event) (id timer d r u : ℕ)
    → (outcome (after w (lay_out n t split ∷ xs)) c).status ≡ 0 → let es = events_after w (lay_out n t split ∷ xs) in
    let B = changes id (some (for_date timer d r u)) ∷ P in
    es ≡ Q ++ B → any (ends timer) Q ≡ false → reached d B Q ≡ false → moves_clock (event_of es c) ≡ true → past d (event_of es c ∷ Q ++ B) ≡ true
    → (fired : List Fired) × Begins (outcome (after w (lay_out n t split ∷ xs)) c).list (lent_to c) fired
    × Memᴰ (record { id = timer; routine = r; user_data = u }) fired
date-lists w n t split ok xs c P Q id timer d r u accepted is quiet before moving there =
    let es = events_after w (lay_out n t split ∷ xs) in
    let e = event_of es c in
    let a = ((demand3 w n t split ok (xs ++ (c ∷ []))).answers xs [] c refl).lists (moves-once es c moving) accepted in
    let s = for_date timer d r u in
    let now : fires e (start_at P id s Q) ≡ true =
    at-date P Q id timer d r u e ∙ ap₂ (λ (x y : Bool). (not x && not y) && (moves_clock e && past d (e ∷ Q ++ (changes id (some s) ∷ P)))) quiet before
    ∙ ap₂ (λ (x y : Bool). x && y) moving there in (
      map entry (a.ticking ++ a.dated) ++ map entry_of (served_from (split_of es) e a.queue),
      a.entries,
      Memᴰ.append_left (map entry_of (served_from (split_of es) e a.queue))
          (Memᴰ.map entry (Memᴰ.append_right a.ticking (fires-listed ByDate P Q id s e a.dated refl now
          (subst (λ (l : List Event). InOrder ticks_left_or_date (keep (in_chain ByDate) (keep (fires e) (starts l))) a.dated) is a.dated-order)))),
    )

-- Each entry that any accepted call but a leap writes is that of a start that is due there and was not ended, and, unless it is periodic, was not due
-- before; or, in a serve, that of the caller's first in the queue.
pub lists-only : (w : List ℕ) (n t split : ℕ) → (outcome w (lay_out n t split)).status ≡ 0 → (xs : List Call) (c : Call) → is_leap c ≡ false
    → (outcome (after w (lay_out n t split ∷ xs)) c).status ≡ 0
    → (l : List Placed) × (q : List Start) × IsQueue (events_after w (lay_out n t split ∷ xs)) q
    × Begins (outcome (after w (lay_out n t split ∷ xs)) c).list (lent_to c)
    (map entry l ++ map entry_of (served_from (split_of (events_after w (lay_out n t split ∷ xs))) (event_of (events_after w (lay_out n t split ∷ xs)) c) q))
    × All (Listed (events_after w (lay_out n t split ∷ xs)) (event_of (events_after w (lay_out n t split ∷ xs)) c)) l
lists-only w n t split ok xs c one accepted =
    let es = events_after w (lay_out n t split ∷ xs) in
    let e = event_of es c in
    let a = ((demand3 w n t split ok (xs ++ (c ∷ []))).answers xs [] c refl).lists one accepted in (
      a.ticking ++ a.dated,
      a.queue,
      a.is-queue,
      a.entries,
      all_append (Listed es e) a.ticking a.dated (only-due ByTicks es e a.ticking a.ticking-order)
          (only-due ByDate es e a.dated a.dated-order),
    )

-- An accepted set clock leaves the interval chain as it is: the same slots in the same order, with the same ticks left.
pub set-clock-keeps-ticks : (t : List ℕ) → sound t ≡ true → (w : WallTime) (list : List ℕ) → (outcome t (set_clock w list)).status ≡ 0
    → links ByTicks (outcome t (set_clock w list)).table ≡ links ByTicks t
set-clock-keeps-ticks t ok w list e =
    let z : status_on t (set_clock w list) ≡ 0 = sym (outcome-status t (set_clock w list)) ∙ e in
    let s = (effect t (read t) (set_clock w list)).state in
    let clock = clock_at (read t).clock (seconds_of w) w.ticks in
    let now = with_clock (read t) clock in
    ap (λ (o : Outcome). links ByTicks o.table) (outcome-accepted t (set_clock w list) z)
    ∙ links-is (written_over s t) s (effect-holds t ok (set_clock w list) z) ByTicks
    ∙ fire-elsewhere ByDate (seconds_of w) now (chained-with-clock (read t) clock (sound-holds t ok).chained) ByTicks dated-not-again refl
