-- `calendar::leap_flag` has no loop of its own. Assumes nothing.
use native.Mathlib.Omega.{arith}
use Rattle.calendar.proofs.Turns.{Turns, too_often}
use Rattle.calendar.proofs.leap_flag.Code as code

turns : Turns too_often "calendar::leap_flag" code.function
turns = omega arith
