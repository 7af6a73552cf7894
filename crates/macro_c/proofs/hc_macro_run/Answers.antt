-- `macro_c::hc_macro_run` meets its contract: a run on the record of the ten words. Assumes nothing.
use mathlib.Core.Path.{ap, ◌∙◌}
use Rattle.macro_record.specs.declared.Runner.{Runner}
use Rattle.macros.specs.Runs.{ran_for}
use Rattle.macro_c.specs.Exports.{exported}
use Rattle.macro_c.proofs.hc_macro_run.Goals as goal

pub returns : goal.returns
returns c =
    let a = c.args in
    c.give.ensures _ ∙ ap exported (c.run-ran.ensures ∙ ap (λ (r : Runner). ran_for a.party a.steps.now a.budget r a.table.now) c.runner_in.ensures)
