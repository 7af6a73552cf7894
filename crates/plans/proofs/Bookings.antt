-- The jobs with their starts, one after another. Assumes nothing.
use mathlib.Core.Path.{◌≡◌, refl, sym, ap, ◌∙◌}
use Prim.Native.Nat.{ℕ, ◌+◌, ◌*◌, ◌-◌, ◌≤◌, ◌<◌}
use native.Mathlib.Numerals.{add-one}
use native.Mathlib.Omega.{arith}
use mathlib.Core.List.{List, [], ◌∷◌}
use lib.ListN.{length, drop, drop_of_length-le}
use lib.Seq.{drop-cons}
use Rattle.plans.specs.declared.Job.{Job}
use Rattle.plans.specs.Plans.{jobs_of, booked}
use Rattle.plans.specs.Parts.{job_at, booked_at, booked_from}
use Rattle.plans.proofs.Limits.{jobs-from}

none-booked : (jobs : List Job) → booked jobs [] ≡ []
none-booked [] = refl
none-booked (j ∷ jobs) = refl

module _ (words starts : List ℕ) where
  pub from_start : booked_from words starts 0 ≡ booked (jobs_of words) starts
  unfolding booked_from
  from_start = refl

  pub from_end : (i : ℕ) → length starts ≤ i → booked_from words starts i ≡ []
  unfolding booked_from
  from_end i h = rw (drop_of_length-le starts h) (none-booked (jobs_of (drop (2 * i) words)))

  pub from-here : (i : ℕ) → 2 * i + 1 < length words → i < length starts
      → booked_from words starts i ≡ booked_at words starts i ∷ booked_from words starts (i + 1)
  unfolding booked_from
  from-here i h k =
      ap (λ (jobs : List Job). booked jobs (drop i starts)) (jobs-from words i h)
      ∙ ap (booked (job_at words i ∷ jobs_of (drop (2 * (i + 1)) words))) (drop-cons starts i 0 k)
      ∙ ap (λ (m : ℕ). booked_at words starts i ∷ booked (jobs_of (drop (2 * (i + 1)) words)) (drop m starts)) (sym (add-one i))

  pub from-before : (i : ℕ) → 0 < i → i ≤ length starts → length words ≡ 2 * length starts
      → booked_from words starts (i - 1) ≡ booked_at words starts (i - 1) ∷ booked_from words starts i
  from-before i h k pairs =
      from-here (i - 1) (omega arith) (omega arith)
      ∙ ap (λ (m : ℕ). booked_at words starts (i - 1) ∷ booked_from words starts m) (let z : i - 1 + 1 ≡ i = omega arith in z)
