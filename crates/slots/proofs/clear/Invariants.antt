-- `slots::clear`: after i turns the first i words are zero and the others as they were.
use Rattle.std.proofs.Common.{◌≡◌, ◌++◌, drop, replicate}
use Rattle.slots.proofs.clear.Given as goal

abbrev pub invariant-loop-i : goal.invariant-loop-i
invariant-loop-i l = l.t ≡ replicate l.i 0 ++ drop l.i l.fn.t
