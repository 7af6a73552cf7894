-- None of the jobs before job j overlaps p. Assumes nothing.
use Rattle.std.proofs.Common.{◌≡◌}
use Rattle.model.specs.Lists.{every}
use Rattle.plans.specs.Plans.{clear_of}
use Rattle.plans.specs.Parts.{booked_from}
use Rattle.plans.proofs.Plan.clear_of.Given as goal

abbrev pub invariant-loop-j : goal.invariant-loop-j
invariant-loop-j l = every (clear_of l.p) (booked_from l.self.jobs.now l.self.starts.now l.k) ≡ every (clear_of l.p) (booked_from l.self.jobs.now l.self.starts.now l.j)
