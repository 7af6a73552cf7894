-- The jobs that are not left are accepted, and none of a bench starts before what `earliest` has for it. Assumes nothing.
use Rattle.std.proofs.Common.{◌≡◌, ◌≤◌, true, length}
use Rattle.plans.specs.Plans.{accepts}
use Rattle.plans.specs.Parts.{booked_from}
use Rattle.plans.proofs.Checking.{Firsts}
use Rattle.plans.proofs.Plan.all_fit.Given as goal

abbrev pub invariant-loop-i : goal.invariant-loop-i
invariant-loop-i l =
    (l.i ≤ length l.self.starts.now) × (length l.earliest ≡ 5) × (accepts l.end (booked_from l.self.jobs.now l.self.starts.now l.i) ≡ true) × Firsts l.earliest (booked_from l.self.jobs.now l.self.starts.now l.i)
