-- The jobs before job i are within their limits. Assumes nothing.
use Rattle.std.proofs.Common.{◌≡◌, ◌*◌, drop}
use Rattle.model.specs.Lists.{every}
use Rattle.plans.specs.Plans.{jobs_of, job_within}
use Rattle.plans.proofs.jobs_within.Given as goal

abbrev pub invariant-loop-i : goal.invariant-loop-i
invariant-loop-i l = every job_within (jobs_of l.jobs) ≡ every job_within (jobs_of (drop (2 * l.i) l.jobs))
