-- `macro_record::Position::depth` meets its contract: no block before the depth reached is missing. Assumes nothing.
use Prim.Native.Nat.{ℕ, ◌<◌}
use mathlib.Core.Path.{◌≡◌}
use lib.ListN.{get_or}
use Rattle.macro_record.proofs.Position.depth.Given as goal

abbrev pub invariant-loop-depth : goal.invariant-loop-depth
invariant-loop-depth l = (j : ℕ) → j < l.depth → get_or l.self.blocks j 0 ≡ 0 → ⊥
