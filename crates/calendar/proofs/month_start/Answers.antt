-- `calendar::month_start` has no loop of its own. Assumes nothing.
use native.Mathlib.Omega.{arith}
use Rattle.calendar.proofs.Turns.{Turns, too_often}
use Rattle.calendar.proofs.month_start.Code as code

turns : Turns too_often "calendar::month_start" code.function
turns = omega arith
