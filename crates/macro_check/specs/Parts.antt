-- What the block checker and the step checker promise each other. A reader need not believe this: no public contract uses it. Assumes nothing: these
-- are definitions.
use Rattle.std.specs.Prelude.{ℕ, ◌-◌, ◌≤◌, ◌<◌, ◌≡◌, false, List, length, Option, Some, None}
use Rattle.macro_steps.specs.Steps.{count, kind_at, kinds_from}
use Rattle.macro_check.specs.Passed.{fine}
use Rattle.macro_check.specs.Blocks.{opened, blocks_of}

-- the kinds from a place on
abbrev pub from : List ℕ → ℕ → List ℕ
from ws at = kinds_from ws at (count ws - at)

-- The pass stands at a place, inside so many repeats; the blocks are those that are open there, or at `place` where it has come past that.
pub record Scanning (ws : List ℕ) (at depth place : ℕ) (blocks : List ℕ) : Type 0 where
  pub within : at ≤ count ws
  pub few : depth ≤ 8
  pub deep : length (opened ws at) ≡ depth
  pub before : at ≤ place → blocks ≡ blocks_of (opened ws at)
  pub behind : place ≤ at → blocks ≡ blocks_of (opened ws place)

-- a place further on, up to which all is well; or all is not
abbrev pub Checked : ℕ → ℕ → ℕ → ℕ → List ℕ → List ℕ → Option ℕ → Type 0
Checked lo at depth place ws blocks (Some k) = (lo ≤ k) × (Scanning ws k depth place blocks × (fine depth (from ws at) ≡ fine depth (from ws k)))
Checked lo at depth place ws blocks None = fine depth (from ws at) ≡ false

-- a block reaches to an end step, or to the macro's end
abbrev pub AtEnd : List ℕ → Option ℕ → Type 0
AtEnd ws (Some k) = k < count ws → kind_at ws k ≡ 6
AtEnd ws None = Unit {0}
