-- The jobs before job i have their starts, and `ends` has the ticks of those ahead on each bench. Assumes nothing.
use Rattle.std.proofs.Common.{◌≡◌, ◌*◌, ◌≤◌, length}
use Rattle.planner.proofs.Proposing.{Proposing}
use Rattle.planner.proofs.propose.Given as goal

abbrev pub invariant-loop-i : goal.invariant-loop-i
invariant-loop-i l = (length l.jobs ≡ 2 * l.n) × (l.n ≤ 64) × Proposing l.jobs l.i l.starts l.ends
