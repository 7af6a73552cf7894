-- `plans::jobs_within` meets its contract: the jobs before job i are within their limits. Assumes nothing.
use Rattle.std.proofs.Common.{◌≡◌, ◌*◌, ◌∙◌, true, false, [], drop, sym, ap, arith}
use lib.ListN.{drop_of_length-le}
use Rattle.plans.specs.Plans.{job_within}
use Rattle.plans.specs.Parts.{job_at}
use Rattle.plans.proofs.Limits.{not-jobs, facts-jobs, jobs-from, jobs-length}
use Rattle.laws.proofs.ListLaws.{clash}
use Rattle.plans.proofs.jobs_within.Goals as goal

pub returns-then-jobs-ne0 : goal.returns-then-jobs-ne0
returns-then-jobs-ne0 c = not-jobs _ (λ v. omega arith)

pub returns-then-jobs-gt-MOST_WORDS : goal.returns-then-jobs-gt-MOST_WORDS
returns-then-jobs-gt-MOST_WORDS c = not-jobs _ (λ v. omega arith)

pub returns-then-not-job_within : goal.returns-then-not-job_within
returns-then-not-job_within c =
    let words = c.args.jobs.now in
    let l = c.loop-i in
    let this = jobs-from words l.i (omega arith) in
    let fails : job_within (job_at words l.i) ≡ false = sym (ap job_within c.job_at.ensures) ∙ sym c.if-not-job_within.ensures in
    not-jobs words (λ v. clash (sym v.each ∙ l.invariant ∙ rw (this, fails)))

pub loop-i-preserved : goal.loop-i-preserved
loop-i-preserved c =
    let words = c.args.jobs.now in
    let l = c.loop-i in
    let this = jobs-from words l.i (omega arith) in
    let holds : job_within (job_at words l.i) ≡ true = sym (ap job_within c.job_at.ensures) ∙ sym c.if-not-job_within.ensures in
    l.invariant ∙ rw (this, holds)

pub returns : goal.returns
returns c =
    let words = c.args.jobs.now in
    let l = c.loop-i in
    let none : drop (2 * l.i) words ≡ [] = drop_of_length-le words {i = 2 * l.i} (omega arith) in
    let count = jobs-length words l.i (omega arith) in
    sym (facts-jobs words (record { pairs = omega arith; few = omega arith; each = l.invariant ∙ rw none }))
