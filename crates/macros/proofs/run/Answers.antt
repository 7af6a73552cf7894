-- `macros::run` meets its contract: what is left of the run is the same before and after a step. Assumes nothing.
use mathlib.Core.Path.{sym, ◌∙◌}
use Prim.Native.Nat.{◌-◌}
use native.Mathlib.Omega.{arith}
use borrow.Author.Rules.{rules}
use Rattle.macros.proofs.RunLaws.{run-over, run-stops, run_on}
use Rattle.macros.proofs.run.Goals as goal

pub returns-then-stops_at : goal.returns-then-stops_at
returns-then-stops_at c =
    let l = c.loop-turn in
    sym (l.invariant.1 ∙ run-stops _ _ l.at _ _ c.step_value-s.ensures (c.args.budget - l._turn) (omega arith) (sym c.stops_at.ensures ∙ c.if-stops_at.true))

pub loop-turn-preserved : goal.loop-turn-preserved
loop-turn-preserved c =
    let l = c.loop-turn in (
      search rules,
      l.invariant.1 ∙ run_on _ _ l.at _ _ c.step_value-s.ensures (c.args.budget - l._turn) _ (omega arith) (sym c.stops_at.ensures ∙ c.if-stops_at.false),
    )

pub returns : goal.returns
returns c =
    let l = c.loop-turn in sym (l.invariant.1 ∙ run-over _ _ l.at _ (c.args.budget - l._turn) (omega arith))
