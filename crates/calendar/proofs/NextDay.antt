-- Where a second lies one day later: on the next day of the month, on the first of the next month, or on the first of the next year.
-- By the days before each, and by both rows where a law holds of every month. Assumes nothing.
use mathlib.Core.Bool.{Bool, true, false, ◌&&◌}
use mathlib.Core.List.{List, [], ◌∷◌, map}
use mathlib.Core.Path.{◌≡◌, refl, ap, ◌∙◌}
use Prim.Native.Nat.{ℕ, zero, suc, ◌+◌, ◌/◌, ◌%◌, ◌≤◌, ◌<◌}
use native.Mathlib.Omega.{arith}
use lib.Dec.{ltb}
use lib.ListN.{length, get_or}
use borrow.Author.Tests.{ltb-true}
use Rattle.calendar.specs.Calendar.{all_of, month_lengths, months_of, years, total, before, date_of, last_second}
use Rattle.calendar.proofs.Spans.{before-next}
use Rattle.calendar.proofs.Years.{by_row, years-at, before-years}
use Rattle.calendar.proofs.Validity.{all-at}
use Rattle.calendar.proofs.Found.{Found, wall, date-is, same-wall}

and_right : (a b : Bool) → (a && b) ≡ true → b ≡ true
and_right true b e = e
and_right false b e = cc

positive : (row : List ℕ) → all_of (map (ltb 0) row) ≡ true → (m : ℕ) → m < length row → 0 < get_or row m 0
positive [] e m h = omega arith
positive (x ∷ xs) e zero h = ltb-true 0 x (all-at (map (ltb 0) (x ∷ xs)) e 0)
positive (x ∷ xs) e (suc m) h = positive xs (and_right (ltb 0 x) (all_of (map (ltb 0) xs)) e) m (omega arith)

-- no month is empty
some-days : (year m : ℕ) → m < 12 → 0 < get_or (months_of year) m 0
some-days =
    by_row (λ row flag. (m : ℕ) → m < 12 → 0 < get_or row m 0)
    (positive (get_or month_lengths 0 []) refl) (positive (get_or month_lengths 1 []) refl)

-- a year is its twelve months
whole-year : (year : ℕ) → before (months_of year) 12 ≡ total (months_of year)
whole-year = by_row (λ row flag. before row 12 ≡ total row) refl refl

module _ (s : ℕ) (f : Found s) where
  -- the time of day stays
  same-time : (k m d : ℕ) → date_of (s + 86400) ≡ wall k m d ((s + 86400) % 86400) → date_of (s + 86400) ≡ wall k m d (s % 86400)
  same-time k m d e = e ∙ same-wall refl refl refl (omega arith) (omega arith) (omega arith)

  pub next-day : f.d + 1 < get_or (months_of (1988 + f.k)) f.m 0 → date_of (s + 86400) ≡ wall f.k f.m (f.d + 1) (s % 86400)
  next-day more = same-time f.k f.m (f.d + 1) (date-is (s + 86400) _ _ _ f.year more (omega (arith, f.at)))

  pub next-month : get_or (months_of (1988 + f.k)) f.m 0 ≤ f.d + 1 → f.m + 1 < 12 →
      date_of (s + 86400) ≡ wall f.k (f.m + 1) 0 (s % 86400)
  next-month last more =
      same-time f.k (f.m + 1) 0
      (date-is (s + 86400) _ _ _ f.year (some-days (1988 + f.k) (f.m + 1) more) (omega (arith, before-next (months_of (1988 + f.k)) f.m)))

  pub next-year : s + 86400 ≤ last_second → get_or (months_of (1988 + f.k)) f.m 0 ≤ f.d + 1 → 12 ≤ f.m + 1 →
      date_of (s + 86400) ≡ wall (f.k + 1) 0 0 (s % 86400)
  next-year h last december =
      let k = f.k in
      let row = months_of (1988 + k) in
      let twelfth : f.m + 1 ≡ 12 = omega arith in
      let ends : s / 86400 + 1 ≡ before years (k + 1) =
      omega (arith, before-next row f.m, ap (before row) twelfth, whole-year (1988 + k), before-next years k, years-at k f.year) in
      let more : k + 1 < 112 = omega (arith, before-years (k + 1) (omega arith)) in
      same-time (k + 1) 0 0 (date-is (s + 86400) _ _ _ more (some-days (1988 + (k + 1)) 0 (omega arith)) (omega arith))
