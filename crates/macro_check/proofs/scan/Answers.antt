-- `macro_check::scan` meets its contract: the limits, then the block that is the whole macro. Assumes nothing.
use Rattle.std.proofs.Common.{ℕ, ◌≤◌, ◌<◌, sym, ◌∙◌, subst}
use Rattle.macro_check.proofs.BlockLaws.{not-whole}
use Rattle.macro_check.proofs.ScanLaws.{scan-start}
use Rattle.macro_check.proofs.Scans.{scan-done, scan-short, scan-failed, scan-refused, scan-past}
use Rattle.macro_check.proofs.scan.Goals as goal
use Rattle.macro_check.proofs.scan.Goals.{then-not-is_whole-via-then-not-is_whole, then-not-is_whole-via-else-not-is_whole+then-steps-place}

pub returns-then-not-is_whole : goal.returns-then-not-is_whole
returns-then-not-is_whole c =
    elim c.then-not-is_whole.branch [
      | then-not-is_whole-via-then-not-is_whole w ↦ scan-refused _ _ (not-whole _ (sym w.if-not-is_whole.ensures))
      | then-not-is_whole-via-else-not-is_whole+then-steps-place w ↦
          scan-past _ _ (subst (λ (n : ℕ). n < c.args.place) c.step_count-steps.ensures w.if-steps-place.true)
    ]

pub check_block-requires : goal.check_block-requires
check_block-requires c = scan-start _ _

pub returns-in-Some : goal.returns-in-Some
returns-in-Some c =
    scan-done c.args.words.now c.args.place (sym c.if-not-is_whole.ensures) c.in-Some.end _ c.in-Some.ensures.0 c.in-Some.ensures.1
    (subst (λ (k : ℕ). c.args.place ≤ k) c.step_count-steps.ensures c.if-steps-place.false)
    (c.if-end-steps.true ∙ c.step_count-steps.ensures)

pub returns-in_default : goal.returns-in_default
returns-in_default c =
    scan-short c.args.words.now c.args.place (sym c.if-not-is_whole.ensures) c.in-Some.end _ c.in-Some.ensures.0 c.in-Some.ensures.1
    (λ z. c.if-end-steps.false (z ∙ sym c.step_count-steps.ensures))

pub returns-in_default-2 : goal.returns-in_default-2
returns-in_default-2 c = scan-failed c.args.words.now c.args.place (sym c.if-not-is_whole.ensures) c.in_default.ensures.0
