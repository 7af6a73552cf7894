-- One accepted call more: which starts wait after it, and which fire in it, each as it is shown. One event is one Boolean identity for each
-- start. Assumes nothing.
use mathlib.Core.Path.{◌≡◌, refl, sym, ap, ap₂, ◌∙◌, subst}
use Prim.Native.Nat.{ℕ, suc, ◌-◌, ◌%◌, ◌≤◌, ◌<◌}
use native.Mathlib.Nat.{mod-lt, mod_self, mod-eq_of_lt, suc-mod}
use native.Mathlib.Omega.{arith}
use mathlib.Core.Bool.{Bool, true, false, cond, not, ◌&&◌, ◌||◌, and_comm, and-false, or-true}
use mathlib.Core.Option.{Option, none, some}
use mathlib.Core.List.{List, [], ◌∷◌, ◌++◌, map, map-map, map-append, append_assoc}
use lib.Dec.{leb, eqb}
use borrow.Author.Tests.{leb-true, leb-false, le-leb, lt-leb, eqb-true, eqb-false, eq-eqb, ne_eqb, not-true}
use Rattle.model.specs.Lists.{keep, All}
use Rattle.model.specs.declared.Chain.{Chain}
use Rattle.model.specs.declared.Chain.TheVariants.{ByTicks, ByDate, Queue}
use Rattle.model.specs.declared.Mode.{Mode}
use Rattle.model.specs.declared.Mode.TheVariants.{After, When, Every, ServerAfter, ServerWhen}
use Rattle.model.specs.Kinds.{chain_for, is_periodic, same_chain, for_server, interval_in}
use Rattle.demand.specs.History.{Start, Event, laid_out_for, changes, deletes, one_tick, clock_set_to, initiates, serves_front, nothing, start_in, is_tick, ticks, past, moves_clock, Placed, with_event, placed, starts, ends, was_ended, due_in, is_due, was_due_in, was_due, waits, comes_due, goes_back, in_turn, in_chain, remaining, ticks_left_or_date, Waiting, waiting}
use Rattle.laws.proofs.ListLaws.{cases, clash, both, all, all_map, all_append, all_keep, all-passed, all-zip, all-mapped, keep_append, keep-and, keep-on, keep-none, keep-map, map_on}
use Rattle.laws.proofs.Order.{order, order_on, keep-order, order_on-append, order_on-flat, map-order_on, map-order}
use Rattle.laws.proofs.KindLaws.{periodic, not-queue}
use Rattle.laws.proofs.Shapes.{Some}

-- ---- each start

-- a start that waited still waits after e
abbrev stays : Event → Placed → Bool
stays e g = not (ends g.begun.id e) && (is_periodic g.begun.mode || not (is_due e g))

waits-also : (e : Event) (g : Placed) → waits (with_event e g) ≡ (waits g && stays e g)
waits-also e g = still (ends g.begun.id e) (was_ended g) (is_periodic g.begun.mode) (is_due e g) (was_due g)
  where
    still : (a b p c d : Bool) → (not (a || b) && (p || not (c || d))) ≡ ((not b && (p || not d)) && (not a && (p || not c)))
    still true true p c d = refl
    still true false true c d = refl
    still true false false true true = refl
    still true false false true false = refl
    still true false false false true = refl
    still true false false false false = refl
    still false true p c d = refl
    still false false true c d = refl
    still false false false true true = refl
    still false false false true false = refl
    still false false false false true = refl
    still false false false false false = refl

-- what holds of all starts holds of them in turn
all-turned : (P : Placed → Type 0) (e : Event) (l : List Placed) → All P l → All P (in_turn e l)
all-turned P e l h =
    all_append P (keep (λ g. not (goes_back e g)) l) (keep (goes_back e) l) (all_keep P (λ g. not (goes_back e g)) l h) (all_keep P (goes_back e) l h)

pub all-starts : (P Q : Placed → Type 0) (e : Event) (h : List Event) → ((g : Placed) → P g → Q (with_event e g)) → All P (starts h)
    → All Q (placed (start_in e) (e ∷ h)) → All Q (starts (e ∷ h))
all-starts P Q e h f p q =
    all_append Q (map (with_event e) (in_turn e (starts h))) (placed (start_in e) (e ∷ h))
    (all-mapped (with_event e) Q (in_turn e (starts h)) (all_map f (in_turn e (starts h)) (all-turned P e (starts h) p))) q

-- every start by ticks is for at least one
abbrev pub Sized : Placed → Type 0
Sized g = Some (chain_for g.begun.mode) g.begun.amount

pub sized-more : (h : List Event) (e : Event) → All Sized (starts h) → All Sized (placed (start_in e) (e ∷ h)) → All Sized (starts (e ∷ h))
sized-more h e p q = all-starts Sized Sized e h (λ g r. r) p q

-- the events up to a start and those after it are all events
abbrev Whole : List Event → Placed → Type 0
Whole h g = g.after ++ g.before ≡ h

whole : (h : List Event) → All (Whole h) (starts h)
whole [] = tt
whole (e ∷ h) = all-starts (Whole h) (Whole (e ∷ h)) e h (λ g p. ap {B = List Event} (λ l. e ∷ l) p) (whole h) (go (start_in e))
  where
    go : (o : Option Start) → All (Whole (e ∷ h)) (placed o (e ∷ h))
    go none = tt
    go (some s) = (refl, tt)

pub record Waits (k : Chain) (h : List Event) (g : Placed) : Type 0 where
  pub whole : Whole h g
  pub is-waiting : waits g ≡ true
  pub in-chain : in_chain k g ≡ true
  pub sized : Sized g

-- the starts that wait in a chain
abbrev pub waiting_in : Chain → List Event → List Placed
waiting_in k h = keep (in_chain k) (keep waits (starts h))

waits-all : (k : Chain) (h : List Event) → All Sized (starts h) → All (Waits k h) (waiting_in k h)
waits-all k h sized =
    let W = keep waits (starts h) in
    all_map (λ g p. record { whole = p.0.0.0; sized = p.0.0.1; is-waiting = p.0.1; in-chain = p.1 }) (keep (in_chain k) W)
    (all-zip (λ g. (Whole h g × Sized g) × (waits g ≡ true)) (λ g. in_chain k g ≡ true) (keep (in_chain k) W)
    (all_keep (λ g. (Whole h g × Sized g) × (waits g ≡ true)) (in_chain k) W
    (all-zip (λ g. Whole h g × Sized g) (λ g. waits g ≡ true) W
    (all_keep (λ g. Whole h g × Sized g) waits (starts h) (all-zip (Whole h) Sized (starts h) (whole h) sized)) (all-passed waits (starts h))))
    (all-passed (in_chain k) W))

-- ---- as it is shown

-- a waiting timer of chain k is due in e, which comes after the events h
abbrev pub due_now : Chain → Event → List Event → Waiting → Bool
due_now ByTicks e h w = is_tick e && leb w.wait 1
due_now ByDate e h w = moves_clock e && past w.wait (e ∷ h)
due_now Queue e h w = false

-- it comes nearer by the tick e
abbrev pub lowered : Chain → Event → Waiting → Waiting
lowered ByTicks e w = record { shows = w.shows; mode = w.mode; interval = w.interval; wait = w.wait - cond (is_tick e) 1 0 }
lowered ByDate e w = w
lowered Queue e w = w

-- it goes back
abbrev pub renewed : Waiting → Waiting
renewed w = record { shows = w.shows; mode = w.mode; interval = w.interval; wait = w.interval }

-- it has a tick left; a dated one is not periodic
abbrev Left : Chain → Waiting → Type 0
Left ByTicks w = 1 ≤ w.wait
Left ByDate w = periodic w.mode ≡ false
Left Queue w = periodic w.mode ≡ false

-- the nth tick: fewer have passed while it was not due, and it is next where one is left
pub fewer : (s : Start) (before after : List Event)
    → ((x : Event) (l : List Event) → due_in s.mode s.amount x before l ≡ (is_tick x && eqb (suc (ticks l)) s.amount))
    → 0 < s.amount → was_due_in s before after ≡ false → ticks after < s.amount
fewer s before [] nth p e = p
fewer s before (x ∷ after) nth p e =
    let parts = neither (due_in s.mode s.amount x before after) (was_due_in s before after) e in
    let ih = fewer s before after nth p parts.1 in
    cases (is_tick x)
    (λ t.
    let other : eqb (suc (ticks after)) s.amount ≡ false =
    ap (λ (b : Bool). b && eqb (suc (ticks after)) s.amount) (sym t) ∙ sym (nth x after) ∙ parts.0 in
    rw t (below (ticks after) s.amount ih (eqb-false (suc (ticks after)) s.amount other)))
    (λ t. rw t ih)
  where
    neither : (a b : Bool) → (a || b) ≡ false → (a ≡ false) × (b ≡ false)
    neither true b e = clash e
    neither false b e = (refl, e)

    below : (a b : ℕ) → a < b → (suc a ≡ b → ⊥) → suc a < b
    below a b p q = omega arith

nth-due : (n m : ℕ) → m < n → eqb (suc m) n ≡ leb (n - m) 1
nth-due n m p =
    cases (leb (n - m) 1)
    (λ e. eq-eqb (suc m) n (omega (arith, leb-true (n - m) 1 e)) ∙ sym e)
    (λ e. ne_eqb (suc m) n (λ q. omega (arith, leb-false (n - m) 1 e)) ∙ sym e)

nth-lower : (n : ℕ) (e : Event) (l : List Event) → n - ticks (e ∷ l) ≡ n - ticks l - cond (is_tick e) 1 0
nth-lower n e l = cases (is_tick e) (λ t. rw t (omega arith)) (λ t. rw t (omega arith))

-- every nth tick: the remainder goes up by one, and at n to 0
module _ (n m : ℕ) (some-ticks : 0 < n) where
  into : m % n < n
  into = mod-lt m some-ticks

  wraps : suc (m % n) ≡ n → suc m % n ≡ 0
  wraps e = suc-mod m n ∙ ap (λ (j : ℕ). j % n) e ∙ mod_self n

  grows : suc (m % n) < n → suc m % n ≡ suc (m % n)
  grows p = suc-mod m n ∙ mod-eq_of_lt p

  every-due : eqb (suc m % n) 0 ≡ leb (n - m % n) 1
  every-due =
      cases (leb (n - m % n) 1)
      (λ e. eq-eqb (suc m % n) 0 (wraps (omega (arith, into, leb-true (n - m % n) 1 e))) ∙ sym e)
      (λ e.
      let more = grows (omega (arith, into, leb-false (n - m % n) 1 e)) in
      ne_eqb (suc m % n) 0 (λ q. omega arith) ∙ sym e)

  every_lower : eqb (suc m % n) 0 ≡ false → n - suc m % n ≡ n - m % n - 1
  every_lower e =
      let more = grows (above (suc (m % n)) into (λ q. eqb-false (suc m % n) 0 e (wraps q))) in
      omega arith
    where
      above : (a : ℕ) → a ≤ n → (a ≡ n → ⊥) → a < n
      above a p q = omega arith

-- what is known of the ticks that passed since a start that waits
abbrev Passed : Mode → ℕ → ℕ → Type 0
Passed After n m = m < n
Passed When d m = Unit {0}
Passed Every n m = 0 < n
Passed ServerAfter n m = m < n
Passed ServerWhen d m = Unit {0}

module _ (h : List Event) (g : Placed) where
  passed : (k : Chain) → Waits k h g → Passed g.begun.mode g.begun.amount (ticks g.after)
  passed k v = go g.begun.mode refl
    where
      not-due : (p a b : Bool) → p ≡ false → (not a && (p || not b)) ≡ true → b ≡ false
      not-due true a b e f = clash e
      not-due false true b e f = clash (sym f)
      not-due false false true e f = clash (sym f)
      not-due false false false e f = refl

      some-ticks : (o : Mode) → g.begun.mode ≡ o → Some (chain_for o) g.begun.amount
      some-ticks o m = subst (λ (o : Mode). Some (chain_for o) g.begun.amount) m v.sized

      go : (o : Mode) → g.begun.mode ≡ o → Passed o g.begun.amount (ticks g.after)
      go After m = fewer g.begun g.before g.after (λ x l. rw m) (some-ticks After m)
          (not-due (is_periodic g.begun.mode) (was_ended g) (was_due g) (rw m) v.is-waiting)
      go When m = tt
      go Every m = some-ticks Every m
      go ServerAfter m = fewer g.begun g.before g.after (λ x l. rw m) (some-ticks ServerAfter m)
          (not-due (is_periodic g.begun.mode) (was_ended g) (was_due g) (rw m) v.is-waiting)
      go ServerWhen m = tt

  -- no start waits in the queue
  not_there : {C : Type 0} → Waits Queue h g → C
  not_there v = clash (sym v.in-chain ∙ not-queue g.begun.mode)

  some_left : (k : Chain) → Waits k h g → Left k (waiting g)
  some_left ByTicks v = go g.begun.mode v.in-chain (passed ByTicks v)
    where
      go : (m : Mode) → same_chain ByTicks (chain_for m) ≡ true → Passed m g.begun.amount (ticks g.after)
          → 1 ≤ remaining m g.begun.amount (ticks g.after)
      go After f p = omega arith
      go When f p = clash (sym f)
      go Every f p = omega (arith, into g.begun.amount (ticks g.after) p)
      go ServerAfter f p = omega arith
      go ServerWhen f p = clash (sym f)
  some_left ByDate v = go g.begun.mode v.in-chain
    where
      go : (m : Mode) → same_chain ByDate (chain_for m) ≡ true → is_periodic m ≡ false
      go After f = clash (sym f)
      go When f = refl
      go Every f = clash (sym f)
      go ServerAfter f = clash (sym f)
      go ServerWhen f = refl
  some_left Queue v = not_there v

  module _ (e : Event) where
    due-now : (k : Chain) → Waits k h g → is_due e g ≡ due_now k e h (waiting g)
    due-now ByTicks v = go g.begun.mode v.in-chain (passed ByTicks v)
      where
        go : (m : Mode) → same_chain ByTicks (chain_for m) ≡ true → Passed m g.begun.amount (ticks g.after)
            → due_in m g.begun.amount e g.before g.after ≡ (is_tick e && leb (remaining m g.begun.amount (ticks g.after)) 1)
        go After f p = ap (λ (b : Bool). is_tick e && b) (nth-due g.begun.amount (ticks g.after) p)
        go When f p = clash (sym f)
        go Every f p = ap (λ (b : Bool). is_tick e && b) (every-due g.begun.amount (ticks g.after) p)
        go ServerAfter f p = ap (λ (b : Bool). is_tick e && b) (nth-due g.begun.amount (ticks g.after) p)
        go ServerWhen f p = clash (sym f)
    due-now ByDate v = go g.begun.mode v.in-chain
      where
        go : (m : Mode) → same_chain ByDate (chain_for m) ≡ true
            → due_in m g.begun.amount e g.before g.after ≡ (moves_clock e && past (remaining m g.begun.amount (ticks g.after)) (e ∷ h))
        go After f = clash (sym f)
        go When f = ap (λ (l : List Event). moves_clock e && past g.begun.amount (e ∷ l)) v.whole
        go Every f = clash (sym f)
        go ServerAfter f = clash (sym f)
        go ServerWhen f = ap (λ (l : List Event). moves_clock e && past g.begun.amount (e ∷ l)) v.whole
    due-now Queue v = not_there v

    abbrev with-wait : ℕ → Waiting
    with-wait n = record { shows = (waiting g).shows; mode = (waiting g).mode; interval = (waiting g).interval; wait = n }

    -- where it is not due it comes nearer
    shown-also : (k : Chain) → Waits k h g → is_due e g ≡ false → waiting (with_event e g) ≡ lowered k e (waiting g)
    shown-also ByTicks v = λ not_yet. ap with-wait (go g.begun.mode v.in-chain (passed ByTicks v) not_yet)
      where
        go : (m : Mode) → same_chain ByTicks (chain_for m) ≡ true → Passed m g.begun.amount (ticks g.after)
            → due_in m g.begun.amount e g.before g.after ≡ false
            → remaining m g.begun.amount (ticks (e ∷ g.after)) ≡ remaining m g.begun.amount (ticks g.after) - cond (is_tick e) 1 0
        go After f p d = nth-lower g.begun.amount e g.after
        go When f p d = clash (sym f)
        go Every f p d =
            cases (is_tick e)
            (λ t. rw t (every_lower g.begun.amount (ticks g.after) p (rw t at d)))
            (λ t. rw t (omega arith))
        go ServerAfter f p d = nth-lower g.begun.amount e g.after
        go ServerWhen f p d = clash (sym f)
    shown-also ByDate v = λ not_yet. ap with-wait (go g.begun.mode v.in-chain)
      where
        go : (m : Mode) → same_chain ByDate (chain_for m) ≡ true
            → remaining m g.begun.amount (ticks (e ∷ g.after)) ≡ remaining m g.begun.amount (ticks g.after)
        go After f = clash (sym f)
        go When f = refl
        go Every f = clash (sym f)
        go ServerAfter f = clash (sym f)
        go ServerWhen f = refl
    shown-also Queue v = not_there v

    -- where it is due and periodic it goes back
    shown-again : is_periodic g.begun.mode ≡ true → is_due e g ≡ true → waiting (with_event e g) ≡ renewed (waiting g)
    shown-again = λ p d. ap with-wait (go g.begun.mode p d)
      where
        go : (m : Mode) → is_periodic m ≡ true → due_in m g.begun.amount e g.before g.after ≡ true
            → remaining m g.begun.amount (ticks (e ∷ g.after)) ≡ interval_in (chain_for m) g.begun.amount
        go After p d = clash (sym p)
        go When p d = clash (sym p)
        go Every p d =
            let n = g.begun.amount in
            let parts = both (is_tick e) (eqb (suc (ticks g.after) % n) 0) d in
            rw parts.0 (omega (arith, eqb-true (suc (ticks g.after) % n) 0 parts.1))
        go ServerAfter p d = clash (sym p)
        go ServerWhen p d = clash (sym p)

-- ---- the chain that the events give, as it is shown

keep-swap : {A : Type 0} (p q : A → Bool) (l : List A) → keep p (keep q l) ≡ keep q (keep p l)
keep-swap p q l =
    keep-and p q l
    ∙ keep-on (λ x. q x && p x) (λ x. p x && q x) l (all (λ x. and_comm (q x) (p x)) l)
    ∙ sym (keep-and q p l)

-- by ticks left or date, the earlier start first among equals
abbrev pub in_order : List Waiting → List Waiting
in_order l = order (λ w. w.wait) l

abbrev pub chain_from : Chain → List Event → List Waiting
chain_from k h = in_order (map waiting (waiting_in k h))

-- those of a chain that come due in e, started in such a mode, in firing order
abbrev pub due_of : (Option Mode → Bool) → Chain → List Event → Event → List Placed
due_of q k h e = order ticks_left_or_date (keep (in_chain k) (keep (λ g. comes_due e g && q (some g.begun.mode)) (starts h)))

-- those that fire, and those that are queued
abbrev pub firing_in : Chain → List Event → Event → List Placed
firing_in k h e = due_of (λ o. not (for_server o)) k h e

abbrev pub queuing_in : Chain → List Event → Event → List Placed
queuing_in k h e = due_of for_server k h e

pub shown-order : (l : List Placed) → map waiting (order ticks_left_or_date l) ≡ in_order (map waiting l)
shown-order l = map-order_on waiting ticks_left_or_date (λ w. w.wait) (λ g. refl) [] l

-- a waiting timer still waits after the event e, which comes after h; and it goes back in e
abbrev pub remains : Chain → Event → List Event → Waiting → Bool
remains k e h w = not (ends w.shows.id e) && not (due_now k e h w)

abbrev pub returns : Chain → Event → List Event → Waiting → Bool
returns k e h w = not (ends w.shows.id e) && (periodic w.mode && due_now k e h w)

-- the start that the event e is
abbrev pub fresh : Chain → Event → List Event → List Waiting
fresh k e h = map waiting (keep (in_chain k) (placed (start_in e) (e ∷ h)))

same-order : (c a b : ℕ) → c ≤ 1 → 1 ≤ a → 1 ≤ b → leb (b - c) (a - c) ≡ leb b a
same-order c a b s p q =
    cases (leb b a)
    (λ f. le-leb (b - c) (a - c) (omega (arith, leb-true b a f)) ∙ sym f)
    (λ f. lt-leb (b - c) (a - c) (omega (arith, leb-false b a f)) ∙ sym f)

lowered-order : (k : Chain) (e : Event) (x y : Waiting) → Left k x → Left k y
    → leb (lowered k e y).wait (lowered k e x).wait ≡ leb y.wait x.wait
lowered-order ByTicks e x y p q = same-order (cond (is_tick e) 1 0) x.wait y.wait (one (is_tick e)) p q
  where
    one : (b : Bool) → cond b 1 0 ≤ 1
    one true = omega arith
    one false = omega arith
lowered-order ByDate e x y p q = refl
lowered-order Queue e x y p q = refl

module _ (k : Chain) (h : List Event) (sized : All Sized (starts h)) (e : Event) where
  -- a part of the waiting starts, one event later
  later : (p : Placed → Bool) (q : Waiting → Bool) (f : Waiting → Waiting)
      → ((g : Placed) → Waits k h g → p g ≡ q (waiting g)) → ((g : Placed) → Waits k h g → q (waiting g) ≡ true → waiting (with_event e g) ≡ f (waiting g))
      → map waiting (map (with_event e) (keep p (waiting_in k h))) ≡ map f (keep q (map waiting (waiting_in k h)))
  later p q f same shows =
      let W = waiting_in k h in
      let q' : Placed → Bool = λ g. q (waiting g) in
      map-map waiting (with_event e) (keep p W)
      ∙ ap (map (λ g. waiting (with_event e g))) (keep-on p q' W (all_map same W (waits-all k h sized)))
      ∙ map_on (λ g. waiting (with_event e g)) (λ g. f (waiting g)) (keep q' W)
      (all_map (λ g r. shows g r.0 r.1) (keep q' W)
      (all-zip (Waits k h) (λ g. q' g ≡ true) (keep q' W) (all_keep (Waits k h) q' W (waits-all k h sized)) (all-passed q' W)))
      ∙ sym (map-map f waiting (keep q' W))
      ∙ ap (map f) (sym (keep-map waiting q W))

  -- those of some starts that wait after e, taken from a part of all starts
  still-waiting : (p : Placed → Bool) → keep (in_chain k) (keep waits (map (with_event e) (keep p (starts h))))
      ≡ map (with_event e) (keep (λ g. p g && stays e g) (waiting_in k h))
  still-waiting p =
      let L = starts h in
      ap (keep (in_chain k)) (keep-map (with_event e) waits (keep p L)
      ∙ ap (map (with_event e)) (keep-on (λ g. waits (with_event e g)) (λ g. waits g && stays e g) (keep p L) (all (waits-also e) (keep p L))
      ∙ sym (keep-and (stays e) waits (keep p L))))
      ∙ keep-map (with_event e) (in_chain k) (keep (stays e) (keep waits (keep p L)))
      ∙ ap (map (with_event e)) (keep-swap (in_chain k) (stays e) (keep waits (keep p L))
      ∙ ap (λ (l : List Placed). keep (stays e) (keep (in_chain k) l)) (keep-swap waits p L)
      ∙ ap (keep (stays e)) (keep-swap (in_chain k) p (keep waits L))
      ∙ keep-and (stays e) p (waiting_in k h))

  waits-fresh : (o : Option Start) → keep waits (placed o (e ∷ h)) ≡ placed o (e ∷ h)
  waits-fresh none = refl
  waits-fresh (some s) =
      ap (λ (b : Bool). cond b (record { begun = s; before = e ∷ h; after = [] } ∷ []) []) (or-true (is_periodic s.mode))

  stay-part : (g : Placed) → Waits k h g → (not (goes_back e g) && stays e g) ≡ remains k e h (waiting g)
  stay-part g v =
      ap (λ (w : Bool). not (is_periodic g.begun.mode && (w && is_due e g)) && stays e g) v.is-waiting
      ∙ same (ends g.begun.id e) (is_periodic g.begun.mode) (is_due e g)
      ∙ ap (λ (b : Bool). not (ends g.begun.id e) && not b) (due-now h g e k v)
    where
      same : (a p c : Bool) → (not (p && (true && c)) && (not a && (p || not c))) ≡ (not a && not c)
      same true true true = refl
      same true true false = refl
      same true false c = refl
      same false true true = refl
      same false true false = refl
      same false false c = refl

  back-part : (g : Placed) → Waits k h g → (goes_back e g && stays e g) ≡ returns k e h (waiting g)
  back-part g v =
      ap (λ (w : Bool). (is_periodic g.begun.mode && (w && is_due e g)) && stays e g) v.is-waiting
      ∙ same (ends g.begun.id e) (is_periodic g.begun.mode) (is_due e g)
      ∙ ap (λ (b : Bool). not (ends g.begun.id e) && (is_periodic g.begun.mode && b)) (due-now h g e k v)
    where
      same : (a p c : Bool) → ((p && (true && c)) && (not a && (p || not c))) ≡ (not a && (p && c))
      same true true true = refl
      same true true false = refl
      same true false c = refl
      same false true true = refl
      same false true false = refl
      same false false c = refl

  -- one event more, in the order of the starts
  one_more : map waiting (waiting_in k (e ∷ h))
      ≡ map (lowered k e) (keep (remains k e h) (map waiting (waiting_in k h)))
      ++ (map renewed (keep (returns k e h) (map waiting (waiting_in k h))) ++ fresh k e h)
  one_more =
      let stay : Placed → Bool = λ g. not (goes_back e g) in
      let X = keep stay (starts h) in
      let Y = keep (goes_back e) (starts h) in
      let new = placed (start_in e) (e ∷ h) in
      let in-k : List Placed → List Placed = λ l. keep (in_chain k) (keep waits l) in
      ap (λ (l : List Placed). map waiting (in-k (l ++ new))) (map-append (with_event e) X Y)
      ∙ ap (map waiting) (ap in-k (append_assoc (map (with_event e) X) (map (with_event e) Y) new)
      ∙ parts (map (with_event e) X) (map (with_event e) Y ++ new)
      ∙ ap₂ (λ (a b : List Placed). a ++ b) (still-waiting stay) (parts (map (with_event e) Y) new
      ∙ ap₂ (λ (a b : List Placed). a ++ b) (still-waiting (goes_back e)) (ap (keep (in_chain k)) (waits-fresh (start_in e)))))
      ∙ map-append waiting (map (with_event e) (keep (λ g. stay g && stays e g) (waiting_in k h)))
      (map (with_event e) (keep (λ g. goes_back e g && stays e g) (waiting_in k h)) ++ keep (in_chain k) new)
      ∙ ap₂ (λ (a b : List Waiting). a ++ b)
      (later (λ g. stay g && stays e g) (remains k e h) (lowered k e) stay-part
      (λ g v r. shown-also h g e k v (due-now h g e k v ∙ not-true (due_now k e h (waiting g))
      (both (not (ends g.begun.id e)) (not (due_now k e h (waiting g))) r).1)))
      (map-append waiting (map (with_event e) (keep (λ g. goes_back e g && stays e g) (waiting_in k h))) (keep (in_chain k) new)
      ∙ ap (λ (l : List Waiting). l ++ fresh k e h)
      (later (λ g. goes_back e g && stays e g) (returns k e h) renewed back-part
      (λ g v r.
      let q = both (is_periodic g.begun.mode) (due_now k e h (waiting g))
      (both (not (ends g.begun.id e)) (is_periodic g.begun.mode && due_now k e h (waiting g)) r).1 in
      shown-again h g e q.0 (due-now h g e k v ∙ q.1))))
    where
      parts : (l m : List Placed) → keep (in_chain k) (keep waits (l ++ m)) ≡ keep (in_chain k) (keep waits l) ++ keep (in_chain k) (keep waits m)
      parts l m = ap (keep (in_chain k)) (keep_append waits l m) ∙ keep_append (in_chain k) (keep waits l) (keep waits m)

  left-all : All (Left k) (map waiting (waiting_in k h))
  left-all = all-mapped waiting (Left k) (waiting_in k h) (all_map (λ g v. some_left h g k v) (waiting_in k h) (waits-all k h sized))

  -- those that go back have one tick left, so that their order is that of the starts
  back-in-order : keep (returns k e h) (map waiting (waiting_in k h)) ≡ keep (returns k e h) (chain_from k h)
  back-in-order =
      let W = map waiting (waiting_in k h) in
      sym (keep-order (λ w. w.wait) (returns k e h) W
      ∙ order_on-flat (λ w. w.wait) 1 [] (keep (returns k e h) W) tt
      (all_map (λ w p. one k w p.0 p.1) (keep (returns k e h) W)
      (all-zip (Left k) (λ w. returns k e h w ≡ true) (keep (returns k e h) W) (all_keep (Left k) (returns k e h) W left-all) (all-passed (returns k e h) W))))
    where
      one : (k : Chain) (w : Waiting) → Left k w → returns k e h w ≡ true → w.wait ≡ 1
      one ByTicks w p r =
          let q = both (periodic w.mode) (is_tick e && leb w.wait 1)
          (both (not (ends w.shows.id e)) (periodic w.mode && (is_tick e && leb w.wait 1)) r).1 in
          omega (arith, leb-true w.wait 1 (both (is_tick e) (leb w.wait 1) q.1).1)
      one ByDate w p r =
          clash (sym (both (periodic w.mode) (due_now ByDate e h w)
          (both (not (ends w.shows.id e)) (periodic w.mode && due_now ByDate e h w) r).1).0 ∙ p)
      one Queue w p r =
          clash (sym (both (periodic w.mode) false (both (not (ends w.shows.id e)) (periodic w.mode && false) r).1).0 ∙ p)

  -- and in firing order: those that remain, and those that go back and the new one put into their places
  pub chain_more : chain_from k (e ∷ h)
      ≡ order_on (λ w. w.wait) (map (lowered k e) (keep (remains k e h) (chain_from k h))) (map renewed (keep (returns k e h) (chain_from k h)) ++ fresh k e h)
  chain_more =
      let W = map waiting (waiting_in k h) in
      ap in_order one_more
      ∙ order_on-append (λ w. w.wait) [] (map (lowered k e) (keep (remains k e h) W)) (map renewed (keep (returns k e h) W) ++ fresh k e h)
      ∙ ap₂ (λ (l m : List Waiting). order_on (λ w. w.wait) l (map renewed m ++ fresh k e h))
      (sym (map-order (lowered k e) (λ w. w.wait) (λ w. w.wait) (Left k) (lowered-order k e) (keep (remains k e h) W)
      (all_keep (Left k) (remains k e h) W left-all))
      ∙ ap (map (lowered k e)) (sym (keep-order (λ w. w.wait) (remains k e h) W)))
      back-in-order

  -- those that come due in the event, as they are shown
  pub chain-due : (q : Option Mode → Bool) → map waiting (due_of q k h e) ≡ keep (λ w. due_now k e h w && q w.mode) (chain_from k h)
  chain-due q =
      let W = waiting_in k h in
      let q' : Placed → Bool = λ g. q (some g.begun.mode) in
      let due : Placed → Bool = λ g. due_now k e h (waiting g) in
      let soon : Waiting → Bool = λ w. due_now k e h w && q w.mode in
      shown-order (keep (in_chain k) (keep (λ g. comes_due e g && q' g) (starts h)))
      ∙ ap (λ (l : List Placed). in_order (map waiting l))
      (ap (keep (in_chain k)) (sym (keep-and q' (comes_due e) (starts h)) ∙ ap (keep q') (sym (keep-and (is_due e) waits (starts h))))
      ∙ keep-swap (in_chain k) q' (keep (is_due e) (keep waits (starts h)))
      ∙ ap (keep q') (keep-swap (in_chain k) (is_due e) (keep waits (starts h))
      ∙ keep-on (is_due e) due W (all_map (λ g v. due-now h g e k v) W (waits-all k h sized)))
      ∙ keep-and q' due W)
      ∙ ap in_order (sym (keep-map waiting soon W))
      ∙ sym (keep-order (λ w. w.wait) soon (map waiting W))

-- ---- an event that does not move the clock

no-tick : (e : Event) → moves_clock e ≡ false → is_tick e ≡ false
no-tick (laid_out_for k l) z = refl
no-tick (changes i s) z = refl
no-tick (deletes i) z = refl
no-tick one_tick z = clash z
no-tick (clock_set_to d n) z = refl
no-tick initiates z = refl
no-tick (serves_front p) z = refl
no-tick nothing z = refl

-- nothing comes due in it
pub none-due : (e : Event) → moves_clock e ≡ false → (q : Option Mode → Bool) (k : Chain) (h : List Event) → due_of q k h e ≡ []
none-due e still q k h =
    ap (λ (l : List Placed). order ticks_left_or_date (keep (in_chain k) l))
    (keep-none (λ g. comes_due e g && q (some g.begun.mode)) (starts h) (all not-due (starts h)))
  where
    not-now : (m : Mode) (n : ℕ) (before after : List Event) → due_in m n e before after ≡ false
    not-now After n before after = rw (no-tick e still)
    not-now When n before after = rw still
    not-now Every n before after = rw (no-tick e still)
    not-now ServerAfter n before after = rw (no-tick e still)
    not-now ServerWhen n before after = rw still

    not-due : (g : Placed) → (comes_due e g && q (some g.begun.mode)) ≡ false
    not-due g =
        ap (λ (b : Bool). (waits g && b) && q (some g.begun.mode)) (not-now g.begun.mode g.begun.amount g.before g.after)
        ∙ ap (λ (b : Bool). b && q (some g.begun.mode)) (and-false (waits g))

-- no dated timer goes back
pub none-dated-back : (h : List Event) → All Sized (starts h) → (e : Event) → keep (returns ByDate e h) (chain_from ByDate h) ≡ []
none-dated-back h sized e =
    let W = map waiting (waiting_in ByDate h) in
    sym (back-in-order ByDate h sized e)
    ∙ keep-none (returns ByDate e h) W (all_map (λ w p.
    ap (λ (b : Bool). not (ends w.shows.id e) && (b && due_now ByDate e h w)) p ∙ and-false (not (ends w.shows.id e))) W (left-all ByDate h sized e))
