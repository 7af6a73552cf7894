-- Document 02, item 11: which repeats a place of a macro is inside. Assumes nothing: these are definitions.
use Rattle.std.specs.Prelude.{ℕ, zero, suc, ◌+◌, ◌-◌, cond, ◌&&◌, List, [], ◌∷◌, ◌++◌, map, length, take, replicate, eqb, leb, Option, Some, None}
use Rattle.macro_steps.specs.Steps.{count, kind_at}
use Rattle.macro_check.specs.Passed.{passed}

-- the open repeats after a step of this kind at this place: a repeat opens one, an end closes the innermost. So a repeat's own place is outside it,
-- and its end's inside.
abbrev pub reopened : ℕ → ℕ → List ℕ → List ℕ
reopened kind place os = cond (eqb kind 5) (os ++ place ∷ []) (cond (eqb kind 6) (take (length os - 1) os) os)

-- the repeats that a place is inside, by their own places, the outermost first
unfoldable pub opened : List ℕ → ℕ → List ℕ
opened ws zero = []
opened ws (suc p) = reopened (kind_at ws p) p (opened ws p)

-- where the block of each of them begins, the step after the repeat; 0 for a depth at which none is open
unfoldable pub blocks_of : List ℕ → List ℕ
blocks_of os = map (λ p. p + 1) os ++ replicate (8 - length os) 0

-- what one pass finds: whether the macro is passed and has this place, or it is its end; and then the blocks that are open there
abbrev pub scanned_at : List ℕ → ℕ → Option (List ℕ)
scanned_at ws place = cond (passed ws && leb place (count ws)) (Some (blocks_of (opened ws place))) None
