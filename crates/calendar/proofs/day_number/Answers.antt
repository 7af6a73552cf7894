-- `calendar::day_number` meets its contract: the days before the year, before the month and before the day fit, since their sum is within
-- the calendar. Assumes nothing.
use native.Mathlib.Omega.{arith}
use Rattle.calendar.proofs.Validity.{valid-facts}
use Rattle.calendar.proofs.day_number.Goals as goal

pub overflow_sub-w : goal.overflow_sub-w
overflow_sub-w c = omega (arith, valid-facts c.args.w c.requires)

pub days_before_year-year_start-requires : goal.days_before_year-year_start-requires
days_before_year-year_start-requires c = omega (arith, valid-facts c.args.w c.requires)
