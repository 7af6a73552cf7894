-- `calendar::days_before_month` meets its contract: the days so far are those before month m. Assumes nothing.
use mathlib.Core.Path.{◌≡◌}
use Rattle.calendar.specs.Calendar.{months_of, before}
use Rattle.calendar.proofs.days_before_month.Given as goal

abbrev pub invariant-loop-m : goal.invariant-loop-m
invariant-loop-m l = l.days ≡ before (months_of l.year) l.m
