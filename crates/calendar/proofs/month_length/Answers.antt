-- `calendar::month_length` has no loop of its own. Assumes nothing.
use native.Mathlib.Omega.{arith}
use Rattle.calendar.proofs.Turns.{Turns, too_often}
use Rattle.calendar.proofs.month_length.Code as code

turns : Turns too_often "calendar::month_length" code.function
turns = omega arith
