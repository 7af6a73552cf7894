-- `calendar::date_in_range` meets its contract: the year, the month and the day that it finds are those in which the second lies.
-- Assumes nothing.
use native.Mathlib.Omega.{arith}
use mathlib.Core.Path.{◌≡◌, refl, ap, sym, ◌∙◌}
use Prim.Native.Nat.{ℕ, ◌+◌, ◌*◌, ◌/◌, ◌%◌}
use Rattle.calendar.proofs.Years.{InFour, in_four}
use Rattle.calendar.proofs.Found.{date-is, same-wall}
use Rattle.calendar.proofs.Turns.{Turns, too_often}
use Rattle.calendar.proofs.date_in_range.Code as code
use Rattle.calendar.proofs.date_in_range.Goals as goal
use Rattle.calendar.proofs.date_in_range.Goals.{After-year_day-of_year}

-- the year, in the four years in which the second lies
year-of : (c : After-year_day-of_year) → InFour (c.args.s / 126230400) c.year_day-of_year.result.year
year-of c = in_four (c.args.s / 126230400) c.year_day-of_year.result.year (omega arith) (omega arith)

pub month_day-of_month-requires : goal.month_day-of_month-requires
month_day-of_month-requires c = omega (arith, year-of (goal.at.month_day-of_month-requires c).After-year_day-of_year)

pub returns : goal.returns
returns c =
    let s = c.args.s in
    let four = year-of (goal.at.returns c).After-year_day-of_year in
    let time : s % 126230400 % 86400 ≡ s % 86400 = omega arith in
    let month = c.month_day-of_month in
    same-wall refl refl refl (ap (λ (t : ℕ). t / 3600) time) (ap (λ (t : ℕ). t % 3600 / 60) time) (ap (λ (t : ℕ). t % 60) time)
    ∙ sym (date-is s (s / 126230400 * 4 + c.year_day-of_year.result.year) month.result.month month.result.day four.year month.ensures.1 (omega arith))

-- it has no loop of its own
turns : Turns too_often "calendar::date_in_range" code.function
turns = omega arith
