-- What `readiness` finds, what `after` asks for, and what the private functions promise. Who uses crate `macros` need not believe this: no contract
-- there uses it. Assumes nothing: these are definitions.
use Rattle.std.specs.Prelude.{ℕ, ◌-◌, ◌≤◌, ◌≡◌, Bool, true, cond, List, [], ◌∷◌, get_or, eqb, leb, Option, Some, None}
use Rattle.calendar.specs.Calendar.{all_of}
use Rattle.model.specs.Lists.{all_from}
use Rattle.macro_steps.specs.Steps.{count}
use Rattle.macro_check.specs.Passed.{passed}
use Rattle.macro_check.specs.Blocks.{opened, blocks_of}
use Rattle.macro_record.specs.Record.{times_at, ready}
use Rattle.macro_record.specs.declared.Runner.{Runner}

-- a count fits the block that begins at `start`, or none where that is 0
abbrev pub fits_block : List ℕ → ℕ → ℕ → Bool
fits_block ws start c = cond (eqb start 0) (eqb c 0) (all_of (leb 1 c ∷ leb c (times_at ws (start - 1)) ∷ []))

unfoldable pub fit_blocks : List ℕ → List ℕ → List ℕ → Bool
fit_blocks ws blocks counts = all_from (λ j. fits_block ws (get_or blocks j 0) (get_or counts j 0)) 0 8

-- whether a step may be taken on a record, and then the blocks that are open at its place
abbrev pub readiness_of : List ℕ → Runner → Option (List ℕ)
readiness_of ws r = cond (ready ws r) (Some (blocks_of (opened ws r.place))) None

-- the place of a record is one of a macro that is passed, or its end, and these blocks are open there
pub record Standing (ws : List ℕ) (r : Runner) (blocks : List ℕ) : Type 0 where
  pub pass : passed ws ≡ true
  pub few : count ws ≤ 256
  pub within : r.place ≤ count ws
  pub opens : blocks ≡ blocks_of (opened ws r.place)
