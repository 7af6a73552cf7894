-- `plans::Plan::clear_of` meets its contract: none of the jobs before job j overlaps p. Assumes nothing.
use Rattle.std.proofs.Common.{◌∙◌, sym, ap, arith}
use Rattle.plans.specs.Plans.{overlap}
use Rattle.plans.specs.Parts.{booked_from}
use Rattle.plans.proofs.Limits.{pairs}
use Rattle.plans.proofs.Checking.{clear-of-later}
use Rattle.plans.proofs.Bookings.{from-here, from_end}
use Rattle.plans.proofs.Plan.clear_of.Goals as goal

pub returns-then-p-earliest : goal.returns-then-p-earliest
returns-then-p-earliest c =
    let a = c.args in
    sym (clear-of-later a.p a.earliest (booked_from a.self.jobs.now a.self.starts.now a.k) (omega arith) c.requires)

pub returns-then-overlaps : goal.returns-then-overlaps
returns-then-overlaps c =
    let l = c.loop-j in
    let hits = sym (c.overlaps.ensures ∙ ap (overlap c.args.p) c.booked_at.ensures) ∙ c.if-overlaps.true in
    sym (l.invariant ∙ rw (from-here c.args.self.jobs.now c.args.self.starts.now l.j (omega (arith, pairs c.args.self.jobs.now c.args.self.starts.now c.args.self.within c.args.self.one_each)) (omega arith), hits))

pub loop-j-preserved : goal.loop-j-preserved
loop-j-preserved c =
    let l = c.loop-j in
    let misses = sym (c.overlaps.ensures ∙ ap (overlap c.args.p) c.booked_at.ensures) ∙ c.if-overlaps.false in
    l.invariant ∙ rw (from-here c.args.self.jobs.now c.args.self.starts.now l.j (omega (arith, pairs c.args.self.jobs.now c.args.self.starts.now c.args.self.within c.args.self.one_each)) (omega arith), misses)

pub returns : goal.returns
returns c =
    let l = c.loop-j in
    sym (l.invariant ∙ rw (from_end c.args.self.jobs.now c.args.self.starts.now l.j (omega arith)))
