-- `macro_record::fit_blocks` meets its contract: what is to be tested from the start is what is to be tested from the depth reached. Assumes nothing.
use Prim.Native.Nat.{ℕ, ◌-◌}
use mathlib.Core.Path.{◌≡◌, refl, sym, ◌∙◌}
use mathlib.Core.List.{List}
use native.Mathlib.Omega.{arith}
use Rattle.model.specs.Lists.{all_from}
use Rattle.macro_record.specs.Parts.{fit_blocks}
use Rattle.macro_record.proofs.CountLaws.{up-on}
use Rattle.macro_record.proofs.fit_blocks.Invariants.{fitting}
use Rattle.macro_record.proofs.fit_blocks.Goals as goal

all-eight : (ws blocks counts : List ℕ) → fit_blocks ws blocks counts ≡ all_from (fitting ws blocks counts) 0 (8 - 0)
unfolding fit_blocks
all-eight ws blocks counts = refl

pub loop-depth-init : goal.loop-depth-init
loop-depth-init c =
    let a = c.args in all-eight a.words.now a.blocks a.counts

pub loop-depth-preserved : goal.loop-depth-preserved
loop-depth-preserved c =
    let l = c.loop-depth in
    l.invariant ∙ up-on _ l.depth (omega arith) (sym c.fits_block.ensures ∙ c.if-not-fits_block.false)
