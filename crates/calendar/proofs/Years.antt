-- The years' lengths, the days before a year, and the years of each four: what holds of both rows holds of every year.
-- Assumes nothing.
use mathlib.Core.Bool.{Bool, true, false, cond, ◌&&◌}
use mathlib.Core.List.{List, [], ◌∷◌}
use mathlib.Core.Path.{◌≡◌, refl, ap, ◌∙◌}
use Prim.Native.Nat.{ℕ, zero, suc, ◌+◌, ◌-◌, ◌*◌, ◌/◌, ◌%◌, ◌≤◌, ◌<◌}
use native.Mathlib.Omega.{arith}
use lib.Dec.{ltb, eqb}
use lib.ListN.{length, get_or}
use borrow.Author.Tests.{eqb-true, eqb-false, ltb-true}
use Rattle.calendar.specs.Calendar.{leap_flag, month_lengths, months_of, years_from, years, total, before}
use Rattle.calendar.proofs.Spans.{before_more}

pub leap-is : (year : ℕ) → leap_flag year ≡ 1 - year % 4
leap-is year = go (eqb (year % 4) 0) refl
  where
    go : (b : Bool) → eqb (year % 4) 0 ≡ b → cond b 1 0 ≡ 1 - year % 4
    go true e = omega (arith, eqb-true (year % 4) 0 e)
    go false e = let n = eqb-false (year % 4) 0 e in omega arith

-- what holds of both rows holds of every year
pub by_row : (P : List ℕ → ℕ → Type 0) → P (get_or month_lengths 0 []) 0 → P (get_or month_lengths 1 []) 1 →
    (year : ℕ) → P (months_of year) (leap_flag year)
unfolding months_of
by_row P common leap year = go (eqb (year % 4) 0)
  where
    go : (b : Bool) → P (get_or month_lengths (cond b 1 0) []) (cond b 1 0)
    go true = leap
    go false = common

pub year-length : (year : ℕ) → total (months_of year) ≡ 365 + leap_flag year
year-length = by_row (λ row flag. total row ≡ 365 + flag) refl refl

pub year-short : (year : ℕ) → total (months_of year) ≤ 366
year-short year = omega (arith, year-length year, leap-is year)

pub twelve : (year : ℕ) → length (months_of year) ≡ 12
twelve = by_row (λ row flag. length row ≡ 12) refl refl

-- no month has 32 days
abbrev all_short : List ℕ → Bool
all_short [] = true
all_short (d ∷ row) = ltb d 32 && all_short row

row-short : (row : List ℕ) → all_short row ≡ true → (m : ℕ) → get_or row m 0 < 32
row-short [] e m = omega arith
row-short (d ∷ row) e m = go (ltb d 32) refl e (λ f n. row-short row f n) m
  where
    go : (b : Bool) → ltb d 32 ≡ b → (b && all_short row) ≡ true → (all_short row ≡ true → (n : ℕ) → get_or row n 0 < 32) → (m : ℕ) → get_or (d ∷ row) m 0 < 32
    go false p f rest m = let z : ◌≡◌ {A = ℕ} 0 1 = ap (λ (b : Bool). cond b 1 0) f in absurd (omega arith)
    go true p f rest zero = ltb-true d 32 p
    go true p f rest (suc m) = rest f m

pub month-short : (year m : ℕ) → get_or (months_of year) m 0 < 32
month-short year = row-short (months_of year) (by_row (λ row flag. all_short row ≡ true) refl refl year)

years_from-at : (n year k : ℕ) → k < n → get_or (years_from n year) k 0 ≡ total (months_of (year + k))
years_from-at zero year k h = omega arith
years_from-at (suc n) year zero h = ap (λ (y : ℕ). total (months_of y)) (omega arith)
years_from-at (suc n) year (suc k) h =
    let next : suc year + k ≡ year + suc k = omega arith in
    years_from-at n (suc year) k (omega arith) ∙ ap (λ (y : ℕ). total (months_of y)) next

pub years-at : (k : ℕ) → k < 112 → get_or years k 0 ≡ total (months_of (1988 + k))
unfolding years
years-at k h = years_from-at 112 1988 k h

-- the days before a year: 365 for each year, and one for each leap year
pub before-years : (k : ℕ) → k ≤ 112 → before years k ≡ k * 365 + (k + 3) / 4
before-years zero h = refl
before-years (suc k) h =
    omega (arith, before_more years k, years-at k (omega arith), year-length (1988 + k), leap-is (1988 + k), before-years k (omega arith))

pub all-days : total years ≡ 40908
unfolding years
all-days = refl

pub all-years : length years ≡ 112
unfolding years
all-years = refl

-- year y of four years, of which the first is year 4g, is as long as year y of the first four
pub record InFour (g y : ℕ) : Type 0 where
  pub year : g * 4 + y < 112
  pub long : total (months_of (1988 + (g * 4 + y))) ≡ get_or years y 0
  pub passed : before years (g * 4 + y) ≡ g * 1461 + before years y

pub in_four : (g y : ℕ) → g < 28 → y < 4 → InFour g y
in_four g y hg hy =
    let start = before-years y (omega arith) in
    let all = before-years (g * 4 + y) (omega arith) in
    let first = years-at y (omega arith) in
    record {
      year = omega arith;
      long = omega (arith, first, year-length (1988 + y), year-length (1988 + (g * 4 + y)), leap-is (1988 + y), leap-is (1988 + (g * 4 + y)));
      passed = omega arith;
    }

pub ruleset short = (year-short, twelve)

pub ruleset starts = (before-years)

pub ruleset leap = (leap-is)
