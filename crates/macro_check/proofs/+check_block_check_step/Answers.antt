-- `macro_check::check_block` and `macro_check::check_step` meet their contracts: a block hands each step on, and a repeat its block. Assumes nothing.
use Rattle.std.proofs.Common.{ℕ, ◌<◌, ◌≡◌, None, false, sym, ap, ◌∙◌, subst, arith, rules}
use Rattle.macro_steps.specs.declared.StepKind.TheVariants.{NoStep, Check, Repeat}
use Rattle.macro_steps.specs.StepKinds.{number_of}
use Rattle.macro_steps.proofs.KindLaws.{same_kind}
use Rattle.macro_check.proofs.StepChecks.{with-check, without-check, plain, too-deep, block-open, block-is, never-ended, block-ended}
use Rattle.macro_check.specs.Passed.{asks_check}
use Rattle.macro_check.proofs.+check_block_check_step.Goals as goal

pub check_block-loop-next-preserved-in-Wait : goal.check_block-loop-next-preserved-in-Wait
check_block-loop-next-preserved-in-Wait t c =
    let k = number_of c.kind_at-kind.result in
    let i = c.loop-next.invariant in
    let a : asks_check k ≡ false = search rules in
    let n0 : k ≡ 0 → ⊥ = search rules in
    let n5 : k ≡ 5 → ⊥ = search rules in
    let n6 : k ≡ 6 → ⊥ = search rules in
    let m = plain (subst (λ (n : ℕ). c.loop-next.next < n) c.step_count.ensures c.loop-next-test.true) c.kind_at-kind.ensures i.1.0 a n0 n5 n6 in
    (omega (arith, i, m), (m.1.0, i.1.1 ∙ m.1.1))

pub check_step-returns-in_default : goal.check_step-returns-in_default
check_step-returns-in_default t c =
    let p = c.requires in
    plain p.0 p.1.0.0 p.1.1 (sym c.if-asks_check.ensures) (λ z. c.in_default.not-NoStep (same_kind _ NoStep z))
    (λ z. c.in_default.not-Repeat (same_kind _ Repeat z)) p.1.0.1

pub check_step-returns-in-Repeat-2 : goal.check_step-returns-in-Repeat-2
check_step-returns-in-Repeat-2 t c =
    let p = c.requires in
    too-deep p.0 p.1.0.0 p.1.1 (ap number_of c.in-Repeat-2.is) c.if-depth-lt-MOST_DEEP.false

pub check_step-check_block-requires : goal.check_step-check_block-requires
check_step-check_block-requires t c =
    let p = c.requires in
    let h = p.0 in
    let l = c.if-depth-lt-MOST_DEEP.true in (
      omega (arith, h, l),
      block-open p.0 p.1.0.0 p.1.1 (sym c.if-asks_check.ensures) (ap number_of c.in-Repeat.is) l _ c.note.ensures,
    )

pub check_step-returns-then-end-step_count : goal.check_step-returns-then-end-step_count
check_step-returns-then-end-step_count t c =
    let p = c.requires in
    never-ended p.0 p.1.0.0 p.1.1 (sym c.if-asks_check.ensures) (ap number_of c.in-Repeat.is) c.if-depth-lt-MOST_DEEP.true _ _
    c.in_ok-end-in-Repeat.ensures.0 (c.if-end-step_count.true ∙ c.step_count.ensures)

pub check_step-returns-else-end-step_count : goal.check_step-returns-else-end-step_count
check_step-returns-else-end-step_count t c =
    let p = c.requires in
    block-ended p.0 p.1.0.0 p.1.1 (sym c.if-asks_check.ensures) (ap number_of c.in-Repeat.is) c.if-depth-lt-MOST_DEEP.true _ _ _
    c.in_ok-end-in-Repeat.ensures.0 c.in_ok-end-in-Repeat.ensures.1 (λ z. c.if-end-step_count.false (z ∙ sym c.step_count.ensures))
    c.note-in-Repeat.ensures

pub check_step-returns-in_err-end-in-Repeat : goal.check_step-returns-in_err-end-in-Repeat
check_step-returns-in_err-end-in-Repeat t c =
    let p = c.requires in
    let gone : c.from_residual.result ≡ None = grind arith in
    rw gone
    (block-is p.0 p.1.0.0 p.1.1 (sym c.if-asks_check.ensures) (ap number_of c.in-Repeat.is) c.if-depth-lt-MOST_DEEP.true
    ∙ c.in_err-end-in-Repeat.ensures.0)

pub check_step-returns-then-eq : goal.check_step-returns-then-eq
check_step-returns-then-eq t c =
    let p = c.requires in
    let e : c.kind_at.result ≡ Check = search rules in
    with-check p.0 p.1.0.0 p.1.1 (sym c.if-asks_check.ensures) (sym c.kind_at.ensures ∙ ap number_of e)

pub check_step-returns-then-asks_check : goal.check_step-returns-then-asks_check
check_step-returns-then-asks_check t c =
    let p = c.requires in
    let n : c.kind_at.result ≡ Check → ⊥ = search rules in
    without-check p.0 p.1.0.0 p.1.1 (sym c.if-asks_check.ensures) (λ z. n (same_kind _ Check (c.kind_at.ensures ∙ z)))
