-- `calendar::year_day` has no loop of its own. Assumes nothing.
use native.Mathlib.Omega.{arith}
use Rattle.calendar.proofs.Turns.{Turns, too_often}
use Rattle.calendar.proofs.year_day.Code as code

turns : Turns too_often "calendar::year_day" code.function
turns = omega arith
