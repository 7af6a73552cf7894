-- The checker's statuses: where each is given, and what it says of a plan that it is accepted. Assumes nothing.
use mathlib.Core.Path.{◌≡◌}
use Prim.Native.Nat.{ℕ}
use native.Mathlib.Omega.{arith}
use mathlib.Core.Bool.{true, false}
use mathlib.Core.List.{List}
use lib.Dec.{eqb}
use lib.ListN.{length}
use borrow.Author.Tests.{eqb-true, eqb-false, eq-eqb, ne_eqb}
use Rattle.laws.proofs.ListLaws.{cases}
use Rattle.plans.specs.Plans.{jobs_of, within_limits, booked, accepts}
use Rattle.plans.specs.Checker.{checked}

-- what it is for a plan to be accepted
pub record Good (words : List ℕ) (end : ℕ) (starts : List ℕ) : Type 0 where
  pub limits : within_limits words end ≡ true
  pub one_each : length starts ≡ length (jobs_of words)
  pub fits : accepts end (booked (jobs_of words) starts) ≡ true

module _ (words : List ℕ) (end : ℕ) (starts : List ℕ) where
  pub outside : within_limits words end ≡ false → 10 ≡ checked words end starts
  unfolding checked
  outside e = rw e

  module _ (limits : within_limits words end ≡ true) where
    pub not-one-each : (length starts ≡ length (jobs_of words) → ⊥) → 10 ≡ checked words end starts
    unfolding checked
    not-one-each n = rw (limits, ne_eqb (length starts) (length (jobs_of words)) n)

    module _ (one_each : length starts ≡ length (jobs_of words)) where
      pub not-accepted : accepts end (booked (jobs_of words) starts) ≡ false → 13 ≡ checked words end starts
      unfolding checked
      not-accepted e = rw (limits, eq-eqb (length starts) (length (jobs_of words)) one_each, e)

      pub accepted : accepts end (booked (jobs_of words) starts) ≡ true → 0 ≡ checked words end starts
      unfolding checked
      accepted e = rw (limits, eq-eqb (length starts) (length (jobs_of words)) one_each, e)

  -- within the limits and one start a job, it refuses with 13 alone
  pub unsatisfied : within_limits words end ≡ true → length starts ≡ length (jobs_of words) → (checked words end starts ≡ 0 → ⊥) → checked words end starts ≡ 13
  unsatisfied limits one_each n =
      cases (accepts end (booked (jobs_of words) starts))
      (λ a. absurd (n (omega (arith, accepted limits one_each a))))
      (λ a. omega (arith, not-accepted limits one_each a))

  pub good : checked words end starts ≡ 0 → Good words end starts
  good e =
      cases (within_limits words end)
      (λ l. cases (eqb (length starts) (length (jobs_of words)))
      (λ f.
      let each = eqb-true (length starts) (length (jobs_of words)) f in
      cases (accepts end (booked (jobs_of words) starts))
      (λ a. record { limits = l; one_each = each; fits = a })
      (λ a. absurd (omega (arith, not-accepted l each a))))
      (λ f. absurd (omega (arith, not-one-each l (eqb-false (length starts) (length (jobs_of words)) f)))))
      (λ l. absurd (omega (arith, outside l)))

pub ruleset verdicts = (outside, not-one-each, not-accepted, accepted)
