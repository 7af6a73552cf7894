-- `planner::plan` meets its contract: each refusal is one of the planner's, and what the checker accepted is stored. Assumes nothing.
use Rattle.std.proofs.Common.{ℕ, ◌≡◌, ◌/◌, ◌∙◌, true, List, ◌++◌, length, take, drop, sym, ap, arith}
use lib.Seq.{length-take-le}
use Rattle.std.proofs.lemmas.Result.{err_from_is_err_and}
use Rattle.model.specs.declared.Status.{Status}
use Rattle.model.specs.Status.{number_of}
use Rattle.laws.proofs.StatusLaws.{not-zero}
use Rattle.plans.specs.Plans.{jobs_of, within_limits}
use Rattle.plans.specs.Checker.{checked}
use Rattle.plans.proofs.Limits.{limits-jobs}
use Rattle.plans.proofs.Verdicts.{unsatisfied}
use Rattle.planner.specs.Proposal.{proposal}
use Rattle.planner.specs.Planner.{exported}
use Rattle.planner.proofs.Theorems.{plan-outside, plan-short, plan-none, plan-some, refused, proposes, exactly, proposal-length}
use Rattle.planner.proofs.plan.Goals as goal

-- the words of jobs are two a job
halves : (words : List ℕ) (end : ℕ) → within_limits words end ≡ true → length words / 2 ≡ length (jobs_of words)
halves words end limits = omega (arith, limits-jobs words end limits)

-- what goes to the checker, and to the list, is the proposal
proposed : (words starts : List ℕ) (end : ℕ) → within_limits words end ≡ true → take (length (jobs_of words)) starts ≡ proposal words
    → take (length words / 2) starts ≡ proposal words
proposed words starts end limits e = ap (λ (n : ℕ). take n starts) (halves words end limits) ∙ e

pub returns-then-not-within_limits : goal.returns-then-not-within_limits
returns-then-not-within_limits c =
    let a = c.args in
    let status = plan-outside a.jobs.now a.end a.list.now (sym c.if-not-within_limits.ensures) in
    let e = exactly a.jobs.now a.end a.list.now _ (refused a.jobs.now a.end a.list.now 10 status (λ e. omega arith)) in
    record { outcome = e.0; exact = e.1 }

pub returns-then-list-n : goal.returns-then-list-n
returns-then-list-n c =
    let a = c.args in
    let limits = sym c.if-not-within_limits.ensures in
    let count = halves a.jobs.now a.end limits in
    let status = plan-short a.jobs.now a.end a.list.now limits (omega arith) in
    let e = exactly a.jobs.now a.end a.list.now _ (refused a.jobs.now a.end a.list.now 8 status (λ e. omega arith)) in
    record { outcome = e.0; exact = e.1 }

pub slice_bounds-proposal-end : goal.slice_bounds-proposal-end
slice_bounds-proposal-end c =
    sym (length-take-le _ _ (omega (arith, limits-jobs c.args.jobs.now c.args.end (sym c.if-not-within_limits.ensures))))

-- a refusal of the proposal is 13
with-13 : (words : List ℕ) (end : ℕ) (s : Status) → within_limits words end ≡ true → number_of s ≡ checked words end (proposal words)
    → (checked words end (proposal words) ≡ 0 → ⊥) × (number_of s ≡ 13)
with-13 words end s limits said =
    let no : checked words end (proposal words) ≡ 0 → ⊥ = λ e. not-zero s (said ∙ e) in
    (no, said ∙ unsatisfied words end (proposal words) limits (proposal-length words) no)

pub returns-in_err-check : goal.returns-in_err-check
returns-in_err-check c =
    let a = c.args in
    let limits = sym c.if-not-within_limits.ensures in
    let count = halves a.jobs.now a.end limits in
    let said = c.in_err-check.ensures ∙ ap (checked a.jobs.now a.end) (proposed a.jobs.now c.propose-starts.result a.end limits c.propose-starts.ensures) in
    let no = with-13 a.jobs.now a.end _ limits said in
    let status = plan-none a.jobs.now a.end a.list.now limits (omega arith) no.0 in
    let e = exactly a.jobs.now a.end a.list.now _ (ap (λ (n : ℕ). exported n a.list.now) no.1 ∙ refused a.jobs.now a.end a.list.now 13 status (λ e. omega arith)) in
    let p = err_from_is_err_and c.from_residual.result c.from_residual.ensures.1 in
    rw (p.1, p.2) (record { outcome = e.0; exact = e.1 })

pub returns : goal.returns
returns c =
    let a = c.args in
    let limits = sym c.if-not-within_limits.ensures in
    let count = halves a.jobs.now a.end limits in
    let same = proposed a.jobs.now c.propose-starts.result a.end limits c.propose-starts.ensures in
    let accepted = sym (c.in_ok-check.ensures ∙ ap (checked a.jobs.now a.end) same) in
    let status = plan-some a.jobs.now a.end a.list.now limits (omega arith) accepted in
    let stored = c.store.ensures ∙ ap (λ (l : List ℕ). l ++ drop (length l) a.list.now) same in
    let e = exactly a.jobs.now a.end a.list.now _ (ap (exported 0) stored ∙ proposes a.jobs.now a.end a.list.now status) in
    record { outcome = e.0; exact = e.1 }
