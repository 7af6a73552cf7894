-- How item 14 reads for who edits a script: which lines may always be swapped, what a swap does to the rest of the script, and that a start by a delay is a
-- line like any other. Assumes nothing.
use mathlib.Core.Path.{◌≡◌, refl, sym, ap, ◌∙◌}
use Prim.Native.Nat.{ℕ}
use mathlib.Core.Bool.{Bool, true, false, cond, not}
use mathlib.Core.Option.{none, some}
use mathlib.Core.List.{List, [], ◌∷◌, ◌++◌}
use lib.Dec.{eqb}
use borrow.Author.Tests.{eqb-true, eqb-false, eq-eqb, ne_eqb}
use Rattle.calendar.specs.declared.WallTime.{WallTime}
use Rattle.calendar.specs.Calendar.{seconds_of}
use Rattle.model.specs.Calls.{Call, fire_after, fire_when}
use Rattle.model.specs.declared.Chain.TheVariants.{ByTicks, ByDate}
use Rattle.model.specs.State.{State, Clock, index_of}
use Rattle.model.specs.Words.{read, ticks_per_second}
use Rattle.model.specs.Outcome.{Outcome, status_on, outcome, after}
use Rattle.laws.proofs.ListLaws.{cases, all-at}
use Rattle.laws.proofs.CallTables.{table-left}
use Rattle.order.specs.Order.{line_of, changes_timer, on_two_ids, left_by, SwapsBy, Swaps, starts_timer}
use Rattle.order.specs.Deadlines.{Deadline, deadline_of, deadline_on, same_deadline}
use Rattle.order.specs.Delays.{by_rate, OrderOfDelays, DelaysShow}
use Rattle.order.proofs.Commute.{changed-clock}
use Rattle.order.proofs.Lines.{changes, effect-changed}
use Rattle.order.proofs.Swapped.{is-sound, refused-leaves, made, known-before, order-of-lines, order-shows}

-- ---- which lines may be swapped

module _ (t : List ℕ) (c d : Call) (ids : on_two_ids c d ≡ true) where
  -- those that are due at another tick or date, or of which one starts no timer; the table before both tells
  pub apart-swaps : same_deadline (deadline_on t c) (deadline_on t d) ≡ false → Swaps t c d
  apart-swaps e = order-of-lines t c d ids (known-before t c d ids ∙ e)

  none_first : starts_timer t c ≡ false → Swaps t c d
  none_first e = order-of-lines t c d ids (rw e)

  none-second : starts_timer t d ≡ false → Swaps t c d
  none-second e = order-of-lines t c d ids (rw e (cases (starts_timer t c) (λ f. rw f) (λ f. rw f)))

  -- a cancel or delete, and a line that is refused, with any other
  pub stop-swaps : (line_of c).starts ≡ false → Swaps t c d
  stop-swaps e = none_first (rw e)

  pub swaps-stop : (line_of d).starts ≡ false → Swaps t c d
  swaps-stop e = none-second (rw e)

  pub refused-swaps : ((outcome t c).status ≡ 0 → ⊥) → Swaps t c d
  refused-swaps n = none_first (rw (ne_eqb (outcome t c).status 0 n) (cases (line_of c).starts (λ f. rw f) (λ f. rw f)))

  pub swaps-refused : ((outcome t d).status ≡ 0 → ⊥) → Swaps t c d
  swaps-refused n = none-second (rw (ne_eqb (outcome t d).status 0 n) (cases (line_of d).starts (λ f. rw f) (λ f. rw f)))

  -- two starts for other ticks or dates, or one for ticks and one for a date, accepted or not
  pub due-apart-swaps : (x y : Deadline) → deadline_of (read t) c ≡ some x → deadline_of (read t) d ≡ some y
      → same_deadline (some x) (some y) ≡ false → Swaps t c d
  due-apart-swaps x y p q e = apart-swaps (rw (p, q) (apart (eqb (outcome t c).status 0) (eqb (outcome t d).status 0)))
    where
      apart : (a b : Bool) → same_deadline (cond a (some x) none) (cond b (some y) none) ≡ false
      apart false b = refl
      apart true false = refl
      apart true true = e

-- ---- the same of two calls by their names

module _ (t : List ℕ) (p q i j : ℕ) (other : i ≡ j → ⊥) (r u r' u' : ℕ) where
  pub after-and-when-swap : (n : ℕ) (w : WallTime) → Swaps t (fire_after p i n r u) (fire_when q j w r' u')
  after-and-when-swap n w =
      due-apart-swaps t (fire_after p i n r u) (fire_when q j w r' u') (rw (ne_eqb i j other))
      (record { chain = ByTicks; number = n }) (record { chain = ByDate; number = seconds_of w }) refl refl refl

  module _ (n m : ℕ) where
    pub other-ticks-swap : (n ≡ m → ⊥) → Swaps t (fire_after p i n r u) (fire_after q j m r' u')
    other-ticks-swap apart =
        due-apart-swaps t (fire_after p i n r u) (fire_after q j m r' u') (rw (ne_eqb i j other))
        (record { chain = ByTicks; number = n }) (record { chain = ByTicks; number = m }) refl refl (ne_eqb n m apart)

    pub same-ticks-show : n ≡ m → (outcome t (fire_after p i n r u)).status ≡ 0 → (outcome t (fire_after q j m r' u')).status ≡ 0
        → left_by t (fire_after p i n r u) (fire_after q j m r' u') ≡ left_by t (fire_after q j m r' u') (fire_after p i n r u) → ⊥
    same-ticks-show same e f =
        let ids : on_two_ids (fire_after p i n r u) (fire_after q j m r' u') ≡ true = rw (ne_eqb i j other) in
        order-shows t (fire_after p i n r u) (fire_after q j m r' u') ids
        (known-before t (fire_after p i n r u) (fire_after q j m r' u') ids ∙ rw (e, f) (eq-eqb n m same))

-- ---- two lines of a script

-- Lines of any kind, by what comes of a line on a table.
module _ {L : Type 0} (on : List ℕ → L → Outcome) where
  -- the table that they leave, each on the table that the last one left
  abbrev pub leaves : List ℕ → List L → List ℕ
  leaves t [] = t
  leaves t (l ∷ ls) = leaves (on t l).table ls

  leaves-append : (t : List ℕ) (xs ys : List L) → leaves t (xs ++ ys) ≡ leaves (leaves t xs) ys
  leaves-append t [] ys = refl
  leaves-append t (x ∷ xs) ys = leaves-append (on t x).table xs ys

  -- Where two neighbouring lines swap, no later line of the script can tell: it has the same outcome.
  pub script-swaps : (t : List ℕ) (before later : List L) (c d : L) → SwapsBy on (leaves t before) c d
      → (e : L) → on (leaves t (before ++ (c ∷ d ∷ later))) e ≡ on (leaves t (before ++ (d ∷ c ∷ later))) e
  script-swaps t before later c d h e =
      ap (λ (u : List ℕ). on u e)
      (leaves-append t before (c ∷ d ∷ later) ∙ ap (λ (u : List ℕ). leaves u later) h.tables ∙ sym (leaves-append t before (d ∷ c ∷ later)))

-- Calls leave the table after them.
pub calls-leave : (t : List ℕ) (cs : List Call) → leaves outcome t cs ≡ after t cs
calls-leave t [] = refl
calls-leave t (c ∷ cs) = calls-leave (outcome t c).table cs

-- ---- starts by a delay

-- No line changes T.
pub rate-kept : (t : List ℕ) (c : Call) → changes_timer c ≡ true → ticks_per_second (outcome t c).table ≡ ticks_per_second t
rate-kept t c line =
    let v = changes c line in
    cases (eqb (status_on t c) 0)
    (λ f.
    let e = eqb-true (status_on t c) 0 f in
    let ok = is-sound t v e in
    ap ticks_per_second (table-left t ok c e)
    ∙ ap (λ (s : State). s.clock.per_second) (effect-changed t (read t) v)
    ∙ ap (λ (clock : Clock). clock.per_second) (changed-clock (read t) (index_of (line_of c).id) (made t v) (deadline_of (read t) c)))
    (λ f. ap ticks_per_second (refused-leaves t v (eqb-false (status_on t c) 0 f)))

-- So a start by a delay is the same call after another line as before it.
module _ (t : List ℕ) (c d : ℕ → Call) (ids : on_two_ids (c (ticks_per_second t)) (d (ticks_per_second t)) ≡ true) where
  abbrev rate : ℕ
  rate = ticks_per_second t

  abbrev tests : List Bool
  tests = changes_timer (c rate) ∷ changes_timer (d rate) ∷ not (eqb (line_of (c rate)).id (line_of (d rate)).id) ∷ []

  after_first : by_rate (outcome t (c rate)).table d ≡ outcome (outcome t (c rate)).table (d rate)
  after_first = ap (λ (n : ℕ). outcome (outcome t (c rate)).table (d n)) (rate-kept t (c rate) (all-at tests ids 0))

  after-second : by_rate (outcome t (d rate)).table c ≡ outcome (outcome t (d rate)).table (c rate)
  after-second = ap (λ (n : ℕ). outcome (outcome t (d rate)).table (c n)) (rate-kept t (d rate) (all-at tests ids 1))

pub order-of-delays : OrderOfDelays
order-of-delays t c d ids except =
    let swaps = order-of-lines t (c (ticks_per_second t)) (d (ticks_per_second t)) ids except in
    let first = after_first t c d ids in
    let second = after-second t c d ids in
    record {
      tables = ap (λ (o : Outcome). o.table) first ∙ swaps.tables ∙ sym (ap (λ (o : Outcome). o.table) second);
      first-status = swaps.first-status ∙ sym (ap (λ (o : Outcome). o.status) second);
      second-status = ap (λ (o : Outcome). o.status) first ∙ swaps.second-status;
    }

pub delays-show : DelaysShow
delays-show t c d ids except tables =
    order-shows t (c (ticks_per_second t)) (d (ticks_per_second t)) ids except
    (sym (ap (λ (o : Outcome). o.table) (after_first t c d ids)) ∙ tables ∙ ap (λ (o : Outcome). o.table) (after-second t c d ids))
