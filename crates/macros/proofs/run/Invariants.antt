-- `macros::run` meets its contract: what is left of the run is the same before and after a step. Assumes nothing.
use Prim.Native.Nat.{◌-◌}
use mathlib.Core.Path.{◌≡◌}
use lib.ListN.{length}
use Rattle.macros.specs.Runs.{ran_for}
use Rattle.macros.proofs.run.Given as goal

abbrev pub invariant-loop-turn : goal.invariant-loop-turn
invariant-loop-turn l = (length l.table ≡ length l.initial.table) ×
    (ran_for l.party l.words l.budget l.initial.at l.initial.table ≡ ran_for l.party l.words (l.budget - l._turn) l.at l.table)
