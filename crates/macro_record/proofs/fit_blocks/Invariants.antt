-- `macro_record::fit_blocks` meets its contract: what is to be tested from the start is what is to be tested from the depth reached. Assumes nothing.
use Prim.Native.Nat.{ℕ, ◌-◌}
use mathlib.Core.Path.{◌≡◌}
use mathlib.Core.Bool.{Bool}
use mathlib.Core.List.{List}
use lib.ListN.{get_or}
use Rattle.model.specs.Lists.{all_from}
use Rattle.macro_record.specs.Parts.{fits_block, fit_blocks}
use Rattle.macro_record.proofs.fit_blocks.Given as goal

abbrev pub fitting : List ℕ → List ℕ → List ℕ → ℕ → Bool
fitting ws blocks counts j = fits_block ws (get_or blocks j 0) (get_or counts j 0)

abbrev pub invariant-loop-depth : goal.invariant-loop-depth
invariant-loop-depth l = fit_blocks l.words l.blocks l.counts ≡ all_from (fitting l.words l.blocks l.counts) l.depth (8 - l.depth)
