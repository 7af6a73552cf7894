-- Every second of the calendar lies on one day of one month of one year, and `date_of` is that day: by the laws of spans, at the years
-- and at the months. Assumes nothing.
use mathlib.Core.Path.{◌≡◌, ap}
use Prim.Native.Nat.{ℕ, ◌+◌, ◌-◌, ◌/◌, ◌%◌, ◌≤◌, ◌<◌}
use native.Mathlib.Nat.{add-sub_cancel_left}
use native.Mathlib.Omega.{arith}
use lib.ListN.{get_or}
use Rattle.calendar.specs.declared.WallTime.{WallTime}
use Rattle.calendar.specs.Calendar.{months_of, years, total, before, span_of, days_of, date_of, last_second}
use Rattle.calendar.proofs.Validity.{Valid}
use Rattle.calendar.proofs.Spans.{before-within, span_of-at, span_of-lies}
use Rattle.calendar.proofs.Years.{years-at, all-days, all-years, twelve}

-- day d of month m of year k, all counted from 0, and second t of that day
abbrev pub wall : ℕ → ℕ → ℕ → ℕ → WallTime
wall k m d t = record { year = 1988 + k; month = m + 1; day = d + 1; hour = t / 3600; minute = t % 3600 / 60; second = t % 60; ticks = 0 }

-- a day is found again by the year, the month and the day in which it lies
pub date-is : (s k m d : ℕ) → k < 112 → d < get_or (months_of (1988 + k)) m 0 →
    s / 86400 ≡ before years k + (before (months_of (1988 + k)) m + d) → date_of s ≡ wall k m d (s % 86400)
unfolding date_of
date-is s k m d hk hd at =
    let in_year : before (months_of (1988 + k)) m + d < get_or years k 0 =
    omega (arith, before-within (months_of (1988 + k)) m, years-at k hk) in
    simp (at, span_of-at years k _ in_year, add-sub_cancel_left, span_of-at (months_of (1988 + k)) m d hd)

-- where a second lies: day d of month m of year k
pub record Found (s : ℕ) : Type 0 where
  pub k : ℕ
  pub m : ℕ
  pub d : ℕ
  pub year : k < 112
  pub month : m < 12
  pub day : d < get_or (months_of (1988 + k)) m 0
  pub at : s / 86400 ≡ before years k + (before (months_of (1988 + k)) m + d)
  pub is : date_of s ≡ wall k m d (s % 86400)

pub found : (s : ℕ) → s ≤ last_second → Found s
found s h =
    let n = s / 86400 in
    let k = span_of years n in
    let a = span_of-lies years n (omega (arith, all-days)) in
    let hk : k < 112 = omega (arith, all-years) in
    let r = n - before years k in
    let row = months_of (1988 + k) in
    let m = span_of row r in
    let d = r - before row m in
    let b = span_of-lies row r (omega (arith, years-at k hk)) in
    let hd : d < get_or row m 0 = omega arith in
    let at : n ≡ before years k + (before row m + d) = omega arith in
    record { k = k; m = m; d = d; year = hk; month = omega (arith, twelve (1988 + k)); day = hd; at = at; is = date-is s k m d hk hd at }

-- the days of a valid wall time are not past the calendar
pub days-within : (w : WallTime) → Valid w → days_of w < 40908
days-within w v =
    let k = w.year - 1988 in
    let y : 1988 + k ≡ w.year = omega arith in
    omega (
      arith,
      before-within (months_of w.year) (w.month - 1),
      before-within years k,
      all-days,
      years-at k (omega arith),
      ap (λ (x : ℕ). total (months_of x)) y,
    )

-- equal parts make equal wall times
pub same-wall : {y y' m m' d d' h h' n n' s s' : ℕ} → y ≡ y' → m ≡ m' → d ≡ d' → h ≡ h' → n ≡ n' → s ≡ s' →
    ◌≡◌ {A = WallTime} (record { year = y; month = m; day = d; hour = h; minute = n; second = s; ticks = 0 })
    (record { year = y'; month = m'; day = d'; hour = h'; minute = n'; second = s'; ticks = 0 })
same-wall p q r u v x = λ i. record { year = p i; month = q i; day = r i; hour = u i; minute = v i; second = x i; ticks = 0 }

pub ruleset within = (days-within)
