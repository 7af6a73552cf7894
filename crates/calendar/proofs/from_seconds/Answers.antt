-- `calendar::from_seconds` has no loop of its own. Assumes nothing.
use native.Mathlib.Omega.{arith}
use Rattle.calendar.proofs.Turns.{Turns, too_often}
use Rattle.calendar.proofs.from_seconds.Code as code

turns : Turns too_often "calendar::from_seconds" code.function
turns = omega arith
