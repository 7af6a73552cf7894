-- What is known of the calendar: seconds and valid wall times are inverse to one another over the whole range, ticks never count,
-- a day later is the next day, four years later is the same date. By where a second lies (Found.antt). Assumes nothing.
use mathlib.Core.Bool.{Bool, true, false, cond}
use mathlib.Core.List.{List, []}
use mathlib.Core.Path.{◌≡◌, refl, ap, sym, ◌∙◌}
use Prim.Native.Nat.{ℕ, zero, suc, ◌+◌, ◌-◌, ◌*◌, ◌%◌, ◌≤◌, ◌<◌}
use native.Mathlib.Nat.{add-sub_cancel, add-sub_cancel_left}
use native.Mathlib.Omega.{arith}
use Rattle.std.specs.Prelude.{Option, Some, None}
use lib.Dec.{leb, ltb}
use lib.ListN.{get_or}
use borrow.Author.Tests.{ltb-true, ltb-false, leb-true, leb-false}
use Rattle.calendar.specs.declared.WallTime.{WallTime}
use Rattle.calendar.specs.Calendar.{leap_flag, month_lengths, months_of, month_length, valid, before, seconds_of, last_second, date_of, instant_of, date_answer}
use Rattle.calendar.proofs.Years.{leap-is, before-years}
use Rattle.calendar.proofs.Validity.{facts-valid, valid-facts}
use Rattle.calendar.proofs.Found.{Found, found, wall, date-is, days-within, same-wall}
use Rattle.calendar.proofs.NextDay.{next-day, next-month, next-year}

-- Every second in range gives a valid date whose seconds it is.

pub date-valid : (s : ℕ) → s ≤ last_second → valid (date_of s) ≡ true
date-valid s h =
    let f = found s h in
    let long = ap (λ (x : ℕ). get_or (months_of (1988 + f.k)) x 0) (add-sub_cancel f.m 1) in
    ap valid f.is ∙ facts-valid (wall f.k f.m f.d (s % 86400)) (omega arith)

pub seconds-of-date : (s : ℕ) → s ≤ last_second → seconds_of (date_of s) ≡ s
unfolding seconds_of
seconds-of-date s h =
    let f = found s h in
    ap seconds_of f.is ∙ simp (add-sub_cancel_left, add-sub_cancel) (omega arith)

-- The ticks of a wall time never count.

abbrev pub with_ticks : ℕ → WallTime → WallTime
with_ticks n w = record { year = w.year; month = w.month; day = w.day; hour = w.hour; minute = w.minute; second = w.second; ticks = n }

pub valid-ticks : (n : ℕ) (w : WallTime) → valid (with_ticks n w) ≡ valid w
unfolding valid
valid-ticks n w = refl

pub seconds-ticks : (n : ℕ) (w : WallTime) → seconds_of (with_ticks n w) ≡ seconds_of w
unfolding seconds_of
seconds-ticks n w = refl

-- Every valid date comes back from its seconds, ticks apart, and those are in range.

pub date-of-seconds : (w : WallTime) → valid w ≡ true → date_of (seconds_of w) ≡ with_ticks 0 w
unfolding seconds_of
date-of-seconds w e =
    let v = valid-facts w e in
    let k = w.year - 1988 in
    let m = w.month - 1 in
    let d = w.day - 1 in
    let y : 1988 + k ≡ w.year = omega arith in
    let row = ap (λ (x : ℕ). before (months_of x) m) y in
    let long = ap (λ (x : ℕ). get_or (months_of x) m 0) y in
    date-is (seconds_of w) k m d (omega arith) (omega arith) (omega arith)
    ∙ same-wall y (omega arith) (omega arith) (omega arith) (omega arith) (omega arith)

pub seconds-in-range : (w : WallTime) → valid w ≡ true → seconds_of w ≤ last_second
unfolding seconds_of
seconds-in-range w e = let v = valid-facts w e in omega (arith, days-within w v)

-- So valid wall times of equal seconds are equal, ticks apart.

pub same-seconds : (v w : WallTime) → valid v ≡ true → valid w ≡ true → seconds_of v ≡ seconds_of w → with_ticks 0 v ≡ with_ticks 0 w
same-seconds v w p q e = sym (date-of-seconds v p) ∙ ap date_of e ∙ date-of-seconds w q

-- What each answer tells a caller.

pub record IsSecond (w : WallTime) (s : ℕ) : Type 0 where
  pub is-valid : valid w ≡ true
  pub is : s ≡ seconds_of w
  pub in-range : s ≤ last_second

pub second-answer : {i : Option ℕ} (w : WallTime) (s : ℕ) → i ≡ instant_of w → i ≡ Some s → IsSecond w s
second-answer w s p q = go (valid w) refl (sym q ∙ p)
  where
    go : (b : Bool) → valid w ≡ b → Some s ≡ cond b (Some (seconds_of w)) None → IsSecond w s
    go true v e = let same : s ≡ seconds_of w = cc in record { is-valid = v; is = same; in-range = omega (arith, seconds-in-range w v) }
    go false v e = let clash : ◌≡◌ {A = ℕ} 0 1 = cc in absurd (omega arith)

pub not-valid-answer : {i : Option ℕ} (w : WallTime) → i ≡ instant_of w → i ≡ None → valid w ≡ false
not-valid-answer w p q = go (valid w) (sym q ∙ p)
  where
    go : (b : Bool) → None ≡ cond b (Some (seconds_of w)) None → b ≡ false
    go true e = cc
    go false e = refl

pub record IsOn (s : ℕ) (w : WallTime) : Type 0 where
  pub in-range : s ≤ last_second
  pub is : w ≡ date_of s

pub on-answer : {d : Option WallTime} (s : ℕ) (w : WallTime) → d ≡ date_answer s → d ≡ Some w → IsOn s w
on-answer s w p q = go (leb s last_second) refl (sym q ∙ p)
  where
    go : (b : Bool) → leb s last_second ≡ b → Some w ≡ cond b (Some (date_of s)) None → IsOn s w
    go true h e = record { in-range = leb-true _ _ h; is = cc }
    go false h e = let clash : ◌≡◌ {A = ℕ} 0 1 = cc in absurd (omega arith)

pub past-answer : {d : Option WallTime} (s : ℕ) → d ≡ date_answer s → d ≡ None → last_second < s
past-answer s p q = go (leb s last_second) refl (sym q ∙ p)
  where
    go : (b : Bool) → leb s last_second ≡ b → None ≡ cond b (Some (date_of s)) None → last_second < s
    go true h e = let clash : ◌≡◌ {A = ℕ} 0 1 = cc in omega arith
    go false h e = leb-false _ _ h

-- A day later it is the next day of the month, else the first of the next month, else the first of the next year.

abbrev pub on : ℕ → ℕ → ℕ → WallTime → WallTime
on y m d w = record { year = y; month = m; day = d; hour = w.hour; minute = w.minute; second = w.second; ticks = w.ticks }

abbrev pub tomorrow : WallTime → WallTime
tomorrow w =
    cond (ltb w.day (month_length w.year w.month)) (on w.year w.month (w.day + 1) w)
    (cond (ltb w.month 12) (on w.year (w.month + 1) 1 w)
    (on (w.year + 1) 1 1 w))

pub day-later : (s : ℕ) → s + 86400 ≤ last_second → date_of (s + 86400) ≡ tomorrow (date_of s)
day-later s h = go (found s (omega arith))
  where
    step : (f : Found s) (a b : Bool) → ltb (f.d + 1) (get_or (months_of (1988 + f.k)) f.m 0) ≡ a → ltb (f.m + 1) 12 ≡ b →
        date_of (s + 86400)
        ≡ let w = wall f.k f.m f.d (s % 86400) in
        cond a (on w.year w.month (w.day + 1) w) (cond b (on w.year (w.month + 1) 1 w) (on (w.year + 1) 1 1 w))
    step f true b e u = next-day s f (ltb-true _ _ e)
    step f false true e u = next-month s f (ltb-false _ _ e) (ltb-true _ _ u)
    step f false false e u = next-year s f h (ltb-false _ _ e) (ltb-false _ _ u) ∙ same-wall (omega arith) refl refl refl refl refl

    go : Found s → date_of (s + 86400) ≡ tomorrow (date_of s)
    go f = rw (f.is, add-sub_cancel) (step f _ _ refl refl)

-- n days later

abbrev pub days_later : ℕ → WallTime → WallTime
days_later zero w = w
days_later (suc n) w = tomorrow (days_later n w)

pub days-later : (n s : ℕ) → n * 86400 + s ≤ last_second → date_of (n * 86400 + s) ≡ days_later n (date_of s)
days-later zero s h = ap date_of (omega arith)
days-later (suc n) s h =
    let one : suc n * 86400 + s ≡ n * 86400 + s + 86400 = omega arith in
    ap date_of one ∙ day-later (n * 86400 + s) (omega arith) ∙ ap tomorrow (days-later n s (omega arith))

-- The calendar repeats every four years, 126,230,400 seconds.

abbrev pub four_years_on : WallTime → WallTime
four_years_on w = on (w.year + 4) w.month w.day w

months-again : (k : ℕ) → months_of (1988 + (k + 4)) ≡ months_of (1988 + k)
unfolding months_of
months-again k =
    let flag : leap_flag (1988 + (k + 4)) ≡ leap_flag (1988 + k) = omega (arith, leap-is (1988 + (k + 4)), leap-is (1988 + k)) in
    ap (λ (f : ℕ). get_or month_lengths f []) flag

pub four-years-later : (s : ℕ) → s + 126230400 ≤ last_second → date_of (s + 126230400) ≡ four_years_on (date_of s)
four-years-later s h =
    let f = found s (omega arith) in
    let row = months-again f.k in
    let length = ap (λ (r : List ℕ). get_or r f.m 0) row in
    let first = ap (λ (r : List ℕ). before r f.m) row in
    let bound : f.k + 4 < 112 = omega (arith, before-years f.k (omega arith)) in
    date-is (s + 126230400) (f.k + 4) f.m f.d bound (omega arith)
    (omega (arith, before-years f.k (omega arith), before-years (f.k + 4) (omega arith)))
    ∙ same-wall (omega arith) (omega arith) (omega arith) (omega arith) (omega arith) (omega arith)
    ∙ sym (ap four_years_on f.is)
