-- `recording_writer::is_recording` meets its contract: each test that fails is one of the facts of a file that fits, and where none fails those all hold.
-- Assumes nothing.
use Rattle.std.proofs.Common.{ℕ, ◌≡◌, ◌*◌, ◌/◌, eqb, length, sym, ap, ◌∙◌, arith}
use borrow.Author.Tests.{leb-true, leb-false, eqb-true, eqb-false}
use Rattle.laws.proofs.ListLaws.{clash}
use Rattle.recording.specs.Format.{calls_rules, right}
use Rattle.recording_writer.proofs.Files.{not-fitting, out-of-limits, by-calls}
use Rattle.recording_writer.proofs.is_recording.Goals as goal
use Rattle.recording_writer.proofs.is_recording.Goals.{then-within_limits, else-within_limits, then-statuses, else-statuses}

pub returns-then-calls-statuses : goal.returns-then-calls-statuses
returns-then-calls-statuses c =
    let a = c.args in
    let calls = a.calls.now in
    elim c.if-statuses.branch [
      | then-statuses w ↦ elim c.if-within_limits.branch [
        | then-within_limits v ↦
            (let few = leb-true _ _ (sym v.value-is ∙ w.if-statuses.true) in
            let eleven = eqb-true _ _ (sym w.value-is ∙ c.if-calls-statuses.true) in
            let count : length calls / 11 ≡ length a.statuses.now = omega arith in
            let fits = c.calls_fit.ensures ∙ ap (λ (n : ℕ). eqb (right (calls_rules n calls) calls) (11 * n)) count in
            by-calls a.slots a.rate calls a.statuses.now (sym v.if-within_limits.ensures) few eleven fits)
        | else-within_limits v ↦ clash (sym w.if-statuses.true ∙ v.value-is ∙ v.if-within_limits.false)
      ]
      | else-statuses w ↦ clash (sym c.if-calls-statuses.true ∙ w.value-is ∙ w.if-statuses.false)
    ]

pub returns-else-calls-statuses : goal.returns-else-calls-statuses
returns-else-calls-statuses c =
    let a = c.args in
    let outside = not-fitting a.slots a.rate a.calls.now a.statuses.now in
    c.if-calls-statuses.false
    ∙ elim c.if-statuses.branch [
      | then-statuses w ↦ outside (λ f. eqb-false _ _ (sym w.value-is ∙ c.if-calls-statuses.false) f.eleven)
      | else-statuses w ↦ elim c.if-within_limits.branch [
        | then-within_limits v ↦ outside (λ f. let z = leb-false _ _ (sym v.value-is ∙ w.if-statuses.false) in omega (arith, f.few))
        | else-within_limits v ↦ out-of-limits a.slots a.rate a.calls.now a.statuses.now (sym v.if-within_limits.ensures)
      ]
    ]
