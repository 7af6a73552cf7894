-- `macro_c::hc_macro_step` meets its contract: a step on the record of the ten words. Assumes nothing.
use mathlib.Core.Path.{ap, ◌∙◌}
use Rattle.macro_record.specs.declared.Runner.{Runner}
use Rattle.macros.specs.Stepping.{stepped}
use Rattle.macro_c.specs.Exports.{exported}
use Rattle.macro_c.proofs.hc_macro_step.Goals as goal

pub returns : goal.returns
returns c =
    let a = c.args in
    c.give.ensures _ ∙ ap exported (c.step_value-stepped.ensures ∙ ap (λ (r : Runner). stepped a.party a.steps.now r a.table.now) c.runner_in.ensures)
