-- `planner::propose` meets its contract: the jobs before job i have their starts, and `ends` has the ticks of those ahead on each bench. A bench's
-- ticks are at most 1,000,000 a job, so that no sum wraps. Assumes nothing.
use Rattle.std.proofs.Common.{ℕ, ◌≡◌, ◌∙◌, length, take, ap, arith}
use Rattle.plans.specs.Plans.{jobs_of}
use Rattle.plans.proofs.Limits.{jobs-facts, job-facts}
use Rattle.planner.proofs.Proposing.{proposing, next, proposed}
use Rattle.planner.proofs.propose.Goals as goal

pub loop-i-init : goal.loop-i-init
loop-i-init c =
    let all = jobs-facts c.args.jobs.now c.requires in
    (omega arith, omega arith, proposing c.args.jobs.now)

pub loop-i-preserved : goal.loop-i-preserved
loop-i-preserved c =
    let l = c.loop-i in
    let ok = job-facts c.args.jobs.now l.i c.requires (omega arith) in
    (l.invariant.0, l.invariant.1, next c.args.jobs.now l.i l.starts l.ends l.invariant.2 ok (omega arith) (omega arith))

pub returns : goal.returns
returns c =
    let l = c.loop-i in
    let all : length (jobs_of c.args.jobs.now) ≡ l.i = omega (arith, jobs-facts c.args.jobs.now c.requires) in
    ap (λ (n : ℕ). take n l.starts) all ∙ proposed c.args.jobs.now l.i l.starts l.ends l.invariant.2 (omega arith)
