-- What C gives and gets, in numbers, as the header names them: computed from the definitions. Assumes nothing.
use Prim.Native.Nat.{ℕ}
use mathlib.Core.Path.{◌≡◌, refl}
use mathlib.Core.Bool.{true, false}
use mathlib.Core.List.{List, [], ◌∷◌, map}
use lib.ListN.{replicate}
use Rattle.macro_check.specs.Passed.{passed}
use Rattle.std.specs.Prelude.{Some, None}
use Rattle.macro_library.specs.declared.Found.TheVariants.{Own, Shared}
use Rattle.macro_library.specs.Library.{stretch}
use Rattle.macro_record.specs.Record.{runner_of, fresh}
use Rattle.macros.specs.Stepping.{taken_as}
use Rattle.macro_c.specs.Exports.{check_status, runner_in, words_of, exported_as, exported, located_at, located}

-- a macro that is passed, and one that is not
pub passed-is-0 : (ws : List ℕ) → passed ws ≡ true → check_status ws ≡ 0
passed-is-0 ws e = rw e

pub not-passed-is-10 : (ws : List ℕ) → passed ws ≡ false → check_status ws ≡ 10
not-passed-is-10 ws e = rw e

-- the record's ten words: place, eight counts, last status; a fresh one is all zero
pub record-words : runner_in (5 ∷ 1 ∷ 2 ∷ 3 ∷ 4 ∷ 6 ∷ 7 ∷ 8 ∷ 9 ∷ 14 ∷ []) ≡ runner_of 5 (1 ∷ 2 ∷ 3 ∷ 4 ∷ 6 ∷ 7 ∷ 8 ∷ 9 ∷ []) 14
record-words = refl

pub words-record : words_of (runner_of 5 (1 ∷ 2 ∷ 3 ∷ 4 ∷ 6 ∷ 7 ∷ 8 ∷ 9 ∷ []) 14) ≡ 5 ∷ 1 ∷ 2 ∷ 3 ∷ 4 ∷ 6 ∷ 7 ∷ 8 ∷ 9 ∷ 14 ∷ []
words-record = refl

pub zeros-are-fresh : runner_in (replicate 10 0) ≡ fresh
zeros-are-fresh = refl

-- what comes of a step or a run: status, answer, the record's words, table
pub comes : exported (taken_as 10 (1 ∷ []) (runner_of 5 (1 ∷ 2 ∷ 3 ∷ 4 ∷ 6 ∷ 7 ∷ 8 ∷ 9 ∷ []) 14) (8 ∷ []))
    ≡ exported_as 10 1 (5 ∷ 1 ∷ 2 ∷ 3 ∷ 4 ∷ 6 ∷ 7 ∷ 8 ∷ 9 ∷ 14 ∷ []) (8 ∷ [])
comes = refl

-- HC_MACRO_OWN, HC_MACRO_SHARED, HC_MACRO_NOWHERE
pub libraries : map located (Some (Own (stretch 2 5)) ∷ Some (Shared (stretch 7 10)) ∷ None ∷ []) ≡ located_at 1 2 5 ∷ located_at 2 7 10 ∷ located_at 0 0 0 ∷ []
libraries = refl
