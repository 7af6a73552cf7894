-- Where months begin, if February had 30 days: along a straight line. Computed for each month of both rows, it holds of every year. So the
-- month in which a day lies is that of its 32nd part, or the next. Assumes nothing.
use mathlib.Core.Bool.{Bool, true, false, cond, ◌&&◌}
use mathlib.Core.List.{List}
use mathlib.Core.Path.{◌≡◌, refl, ap, ◌∙◌}
use Prim.Native.Nat.{ℕ, zero, suc, ◌+◌, ◌*◌, ◌/◌, ◌≤◌, ◌<◌}
use native.Mathlib.Omega.{arith}
use lib.Dec.{ltb, eqb}
use borrow.Author.Tests.{eqb-true, ltb-true, ltb-false, lt-ltb, le-ltb}
use Rattle.calendar.specs.Calendar.{leap_flag, months_of, total, before}
use Rattle.calendar.proofs.Years.{leap-is, by_row, year-length}

-- the days before a month, if February had 30
abbrev pub start : ℕ → ℕ
start month = (month * 489 + 8) / 16

-- a test holds of every number below one
abbrev all_below : (ℕ → Bool) → ℕ → Bool
all_below test zero = true
all_below test (suc n) = test n && all_below test n

at-below : (test : ℕ → Bool) (n : ℕ) → all_below test n ≡ true → (m : ℕ) → m < n → test m ≡ true
at-below test zero e m h = absurd (omega arith)
at-below test (suc n) e m h = go (test n) refl (ltb m n) refl e (λ f p. at-below test n f m p)
  where
    go : (last : Bool) → test n ≡ last → (below : Bool) → ltb m n ≡ below → (last && all_below test n) ≡ true
        → (all_below test n ≡ true → m < n → test m ≡ true) → test m ≡ true
    go false p below q f rest = cc
    go true p true q f rest = rest f (ltb-true m n q)
    go true p false q f rest = let same : m ≡ n = omega (arith, ltb-false m n q) in ap test same ∙ p

-- a month begins on the line, less what February lacks before it
abbrev is_on_line : List ℕ → ℕ → ℕ → Bool
is_on_line row flag m = eqb (before row m + cond (ltb m 2) flag 2) (start m + flag)

on_line : (year m : ℕ) → m ≤ 12 → before (months_of year) m + cond (ltb m 2) (leap_flag year) 2 ≡ start m + leap_flag year
on_line year m h =
    eqb-true _ _ (at-below (is_on_line (months_of year) (leap_flag year)) 13 (by_row (λ row flag. all_below (is_on_line row flag) 13 ≡ true) refl refl year) m (omega arith))

-- up to February, and from March on

pub starts-early : (year m : ℕ) → m < 2 → before (months_of year) m ≡ start m
starts-early year m h =
    let line = on_line year m (omega arith) in
    let early = ap (λ (b : Bool). cond b (leap_flag year) 2) (lt-ltb m 2 h) in
    omega arith

pub starts-late : (year m : ℕ) → 2 ≤ m → m ≤ 12 → before (months_of year) m + 2 ≡ start m + leap_flag year
starts-late year m from to =
    let line = on_line year m to in
    let late = ap (λ (b : Bool). cond b (leap_flag year) 2) (le-ltb m 2 from) in
    omega arith

-- A day of a year lies in the month of its 32nd part, or in the next.

pub not-before : (year day : ℕ) → day < total (months_of year) → (day / 32 < 12) × (before (months_of year) (day / 32) ≤ day)
not-before year day h = (short, go (ltb (day / 32) 2) refl)
  where
    short : day / 32 < 12
    short = omega (arith, year-length year, leap-is year)

    go : (b : Bool) → ltb (day / 32) 2 ≡ b → before (months_of year) (day / 32) ≤ day
    go true e = let early = ltb-true (day / 32) 2 e in omega (arith, starts-early year (day / 32) early)
    go false e = let late = ltb-false (day / 32) 2 e in omega (arith, starts-late year (day / 32) late (omega (arith, short)), leap-is year)

pub not_after : (year day : ℕ) → day / 32 + 1 + 1 ≤ 12 → day < before (months_of year) (day / 32 + 1 + 1)
not_after year day h = omega (arith, starts-late year (day / 32 + 1 + 1) (omega arith) h)

pub ruleset starts = (starts-early, starts-late)
