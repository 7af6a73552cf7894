-- `macros::step_value` meets its contract: the record is refused, or the manager is asked and the record moves. Assumes nothing.
use mathlib.Core.Path.{sym, ap, ◌∙◌}
use Rattle.macro_record.proofs.CountLaws.{says_not, says-ready, then-standing}
use Rattle.macros.specs.Stepping.{took}
use Rattle.macros.specs.declared.Stepped.{Stepped}
use Rattle.macros.proofs.StepLaws.{refused-is, acts}
use Rattle.macros.proofs.step_value.Goals as goal

pub returns-in_default : goal.returns-in_default
returns-in_default c =
    ap (λ (s : Stepped). took s.answer s.runner c.args.table.now) c.refused.ensures
    ∙ sym (refused-is _ _ _ _ (says_not _ _ c.in_default.ensures))

pub invariant_of-position : goal.invariant_of-position
invariant_of-position c = record { stands = then-standing _ _ c.in-Some.ensures }

pub returns : goal.returns
returns c =
    acts _ _ _ _ c.ask-answer.result _ _ _ _ _ _ (says-ready _ _ c.in-Some.ensures) c.step_at-step.ensures c.ask-answer.ensures c.status_of.ensures
    c.number_in.ensures c.sign_of.ensures c.after.ensures
