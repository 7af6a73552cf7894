-- The tests of next due, of which the code makes one at a time: where one fails the call is refused, where all pass it answers the first wait. Assumes nothing.
use mathlib.Core.Path.{◌≡◌, refl, sym, ap, ◌∙◌}
use Prim.Native.Nat.{ℕ, ◌+◌, ◌*◌, ◌≤◌, ◌<◌}
use native.Mathlib.Omega.{arith}
use mathlib.Core.Bool.{Bool, true, false, not, ◌||◌, and-true}
use mathlib.Core.List.{List, [], ◌∷◌}
use lib.ListN.{length, get_or, take}
use lib.Dec.{leb, ltb, eqb}
use borrow.Author.Tests.{leb-true, le-leb, lt-leb, lt-ltb, eq-eqb, ne_eqb}
use Rattle.calendar.specs.Calendar.{all_of}
use Rattle.model.specs.declared.Chain.TheVariants.{ByTicks}
use Rattle.model.specs.declared.Status.TheVariants.{NotSound}
use Rattle.model.specs.Kinds.{waits_in}
use Rattle.model.specs.Calls.{next_due}
use Rattle.model.specs.Words.{slot_count, first_ticking, kind_of, wait_of}
use Rattle.model.specs.Directives.{first_tests, first_wait}
use Rattle.model.specs.Outcome.{outcome_of, outcome}
use Rattle.laws.proofs.ListLaws.{cases, clash, or_right, all-at, all_true}
use Rattle.answers.proofs.Replies.{refuses, done}

-- a test of the list fails
not-all : (l : List Bool) (k : ℕ) → get_or l k true ≡ false → all_of l ≡ false
not-all l k e = cases (all_of l) (λ f. clash (sym (all-at l f k) ∙ e)) (λ f. f)

module _ (t : List ℕ) where
  abbrev room : List Bool
  room = take 4 (first_tests t)

  abbrev i : ℕ
  i = first_ticking t

  -- ---- the slice, and N

  pub no_room : (k : ℕ) → get_or room k true ≡ false → false ≡ all_of room
  no_room k e = sym (not-all room k e)

  pub room-decides : 10 ≤ length t → 1 ≤ slot_count t → slot_count t ≤ 255 → leb (10 + 8 * slot_count t) (length t) ≡ all_of room
  room-decides long some few =
      sym (rw (le-leb 10 (length t) long, le-leb 1 (slot_count t) some, le-leb (slot_count t) 255 few) (and-true (leb (10 + 8 * slot_count t) (length t))))

  -- ---- the call is refused

  by-test : all_of (first_tests t) ≡ false → outcome_of 100 (0 ∷ []) t [] ≡ outcome t next_due
  by-test e = refuses t next_due NotSound 0 tt (ap not e) refl

  pub refused-room : all_of room ≡ false → outcome_of 100 (0 ∷ []) t [] ≡ outcome t next_due
  refused-room e =
      by-test (cases (all_of (first_tests t))
      (λ f. let a = all-at (first_tests t) f in clash (sym (all_true room (a 0, (a 1, (a 2, (a 3, tt))))) ∙ e))
      (λ f. f))

  pub refused-above : slot_count t < i → outcome_of 100 (0 ∷ []) t [] ≡ outcome t next_due
  refused-above p = by-test (not-all (first_tests t) 4 (lt-leb i (slot_count t) p))

  pub refused-kind : (i ≡ 0 → ⊥) → waits_in ByTicks (kind_of t i) ≡ false → outcome_of 100 (0 ∷ []) t [] ≡ outcome t next_due
  refused-kind n e = by-test (not-all (first_tests t) 5 (rw (ne_eqb i 0 n) e))

  pub refused-wait : (i ≡ 0 → ⊥) → wait_of t i ≡ 0 → outcome_of 100 (0 ∷ []) t [] ≡ outcome t next_due
  refused-wait n e = by-test (not-all (first_tests t) 6 (rw (ne_eqb i 0 n) (ap (ltb 0) e)))

  -- ---- it answers

  module _ (ok : all_of room ≡ true) where
    pub is-long : 10 + 8 * slot_count t ≤ length t
    is-long = leb-true (10 + 8 * slot_count t) (length t) (all-at room ok 1)

    answers : i ≤ slot_count t → (eqb i 0 || waits_in ByTicks (kind_of t i)) ≡ true → (eqb i 0 || ltb 0 (wait_of t i)) ≡ true → (n : ℕ) → n ≡ first_wait t
        → outcome_of 0 (n ∷ []) t [] ≡ outcome t next_due
    answers high waits wait n e =
        let a = all-at room ok in
        let all : all_of (first_tests t) ≡ true =
        all_true (first_tests t) (a 0, (a 1, (a 2, (a 3, (le-leb i (slot_count t) high, (waits, (wait, tt))))))) in
        done t next_due (n ∷ []) t [] (ap not all, tt) (ap {B = List ℕ} (λ (m : ℕ). m ∷ []) e) refl refl

    pub none-waits : i ≡ 0 → outcome_of 0 (0 ∷ []) t [] ≡ outcome t next_due
    none-waits z =
        let e = eq-eqb i 0 z in
        answers (omega arith) (rw e) (rw e) 0 (rw e)

    pub first-waits : (i ≡ 0 → ⊥) → i ≤ slot_count t → waits_in ByTicks (kind_of t i) ≡ true → {n : ℕ} → n ≡ wait_of t i → (n ≡ 0 → ⊥)
        → outcome_of 0 (n ∷ []) t [] ≡ outcome t next_due
    first-waits z high waits {n} is some =
        answers high (or_right (eqb i 0) (waits_in ByTicks (kind_of t i)) waits)
        (or_right (eqb i 0) (ltb 0 (wait_of t i)) (lt-ltb 0 (wait_of t i) (omega arith))) n (rw (ne_eqb i 0 z) is)
