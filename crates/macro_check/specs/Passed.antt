-- Document 02, item 11: which macros the checker passes. Assumes nothing: these are definitions.
use Rattle.std.specs.Prelude.{ℕ, ◌+◌, ◌-◌, ◌*◌, Bool, true, cond, not, ◌&&◌, ◌||◌, List, [], ◌∷◌, length, get_or, eqb, leb, ltb}
use Rattle.calendar.specs.Calendar.{all_of}
use Rattle.model.specs.Lists.{every}
use Rattle.macro_steps.specs.Steps.{count, kinds}

-- "every step has that form"
abbrev pub formed : ℕ → Bool
formed kind = not (eqb kind 0)

-- "A block holds steps and a repeat step holds a block, at most eight repeats deep": where so many repeats are open a repeat may stand if they are
-- fewer than eight, and an end if there is one to close
abbrev pub allowed : ℕ → ℕ → Bool
allowed kind depth = cond (eqb kind 5) (ltb depth 8) (cond (eqb kind 6) (ltb 0 depth) true)

-- how many are open after the step
abbrev pub deeper : ℕ → ℕ → ℕ
deeper kind depth = cond (eqb kind 5) (depth + 1) (cond (eqb kind 6) (depth - 1) depth)

-- "blocks are well nested": these are the kinds of the steps that follow where so many repeats are open; "a block may be empty"
unfoldable pub nested : ℕ → List ℕ → Bool
nested depth [] = eqb depth 0
nested depth (k ∷ ks) = allowed k depth && nested (deeper k depth) ks

-- "every arm or cancel is followed at once by a check"
abbrev pub asks_check : ℕ → Bool
asks_check k = eqb k 1 || eqb k 2

abbrev pub followed : ℕ → List ℕ → Bool
followed k ks = not (asks_check k) || eqb (get_or ks 0 0) 4

unfoldable pub guarded : List ℕ → Bool
guarded [] = true
guarded (k ∷ ks) = followed k ks && guarded ks

-- all three, of steps inside so many open repeats
abbrev pub fine : ℕ → List ℕ → Bool
fine depth ks = all_of (every formed ks ∷ nested depth ks ∷ guarded ks ∷ [])

-- "A macro is 1 to 256 steps of five 32-bit words"
abbrev pub whole : List ℕ → Bool
whole ws = all_of (eqb (length ws) (5 * count ws) ∷ leb 1 (count ws) ∷ leb (count ws) 256 ∷ [])

-- "The checker passes a macro exactly if" so
unfoldable pub passed : List ℕ → Bool
passed ws = whole ws && fine 0 (kinds ws)
