-- The civil calendar of document 01, section Dates, sentence by sentence, but that the months' rows stand before the test that asks for them.
-- This file is what a reader must believe of dates; Cases.antt has document 01's worked ones.
-- Assumes nothing.
use Rattle.std.specs.Prelude.{Bool, true, cond, ◌&&◌, List, [], ◌∷◌, ℕ, zero, suc, ◌+◌, ◌-◌, ◌*◌, ◌/◌, ◌%◌, leb, ltb, eqb, get_or, take, Option, Some, None}
use Rattle.calendar.specs.declared.WallTime.{WallTime}

-- "Month lengths come from two rows of twelve, one for common and one for leap years"
abbrev pub month_lengths : List (List ℕ)
month_lengths =
    (31 ∷ 28 ∷ 31 ∷ 30 ∷ 31 ∷ 30 ∷ 31 ∷ 31 ∷ 30 ∷ 31 ∷ 30 ∷ 31 ∷ [])
    ∷ (31 ∷ 29 ∷ 31 ∷ 30 ∷ 31 ∷ 30 ∷ 31 ∷ 31 ∷ 30 ∷ 31 ∷ 30 ∷ 31 ∷ [])
    ∷ []

-- "every fourth year from 1988 is leap in this range": the row of a year (4 divides 1988)
abbrev pub leap_flag : ℕ → ℕ
leap_flag year = cond (eqb (year % 4) 0) 1 0

-- its months' lengths, January first
unfoldable pub months_of : ℕ → List ℕ
months_of year = get_or month_lengths (leap_flag year) []

-- "the month's length", of a month 1 to 12
abbrev pub month_length : ℕ → ℕ → ℕ
month_length year month = get_or (months_of year) (month - 1) 0

-- every test of a list holds
abbrev pub all_of : List Bool → Bool
all_of [] = true
all_of (b ∷ bs) = b && all_of bs

-- "the year is 1988 to 2099, the month 1 to 12, the day 1 to the month's length, hour to 23, minute to 59, second to 59"
abbrev pub tests : WallTime → List Bool
tests w =
    leb 1988 w.year ∷ leb w.year 2099
    ∷ leb 1 w.month ∷ leb w.month 12
    ∷ leb 1 w.day ∷ leb w.day (month_length w.year w.month)
    ∷ leb w.hour 23 ∷ leb w.minute 59 ∷ leb w.second 59 ∷ []

-- "It is valid when": all of those
unfoldable pub valid : WallTime → Bool
valid w = all_of (tests w)

-- the days of years or months that follow one another, all told
abbrev pub total : List ℕ → ℕ
total [] = 0
total (x ∷ xs) = x + total xs

-- the lengths of n years from a first one
abbrev pub years_from : ℕ → ℕ → List ℕ
years_from zero year = []
years_from (suc n) year = total (months_of year) ∷ years_from n (suc year)

-- the lengths of the 112 years 1988 to 2099
unfoldable pub years : List ℕ
unfolding months_of
years = years_from 112 1988

-- the days before year or month i, counted from 0
abbrev pub before : List ℕ → ℕ → ℕ
before lengths i = total (take i lengths)

-- "Seconds count from 1988-01-01 00:00:00": the days from then to a wall time's day
abbrev pub days_of : WallTime → ℕ
days_of w = before years (w.year - 1988) + before (months_of w.year) (w.month - 1) + (w.day - 1)

-- and the seconds, whatever the ticks field: set clock alone takes it
unfoldable pub seconds_of : WallTime → ℕ
seconds_of w = ((days_of w * 24 + w.hour) * 60 + w.minute) * 60 + w.second

-- the seconds of 2099-12-31 23:59:59
abbrev pub last_second : ℕ
last_second = 3534451199

-- the year or the month in which day n lies, counted from 0
abbrev pub span_of : List ℕ → ℕ → ℕ
span_of [] n = 0
span_of (len ∷ lengths) n = let later = span_of lengths (n - len) in cond (ltb n len) 0 (suc later)

-- the date at day n of the calendar and the time at second t of that day
abbrev pub date_at : ℕ → ℕ → WallTime
date_at n t =
    let year = 1988 + span_of years n in
    let in_year = n - before years (span_of years n) in
    let month = span_of (months_of year) in_year in
    record {
      year = year;
      month = month + 1;
      day = in_year - before (months_of year) month + 1;
      hour = t / 3600;
      minute = t % 3600 / 60;
      second = t % 60;
      ticks = 0;
    }

-- "Seconds to date is the inverse over the whole range" (`seconds-of-date` and `date-of-seconds` of proofs/Theorems.antt)
unfoldable pub date_of : ℕ → WallTime
date_of s = date_at (s / 86400) (s % 86400)

-- the answer for a wall time: its seconds, where it is valid
abbrev pub instant_of : WallTime → Option ℕ
instant_of w = cond (valid w) (Some (seconds_of w)) None

-- the answer for a second: its date, where it is in the range
abbrev pub date_answer : ℕ → Option WallTime
date_answer s = cond (leb s last_second) (Some (date_of s)) None
