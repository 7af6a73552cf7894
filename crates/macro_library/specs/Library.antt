-- Document 02, item 11: where a macro's name is found, in the bench's own library or in the shared one. Assumes nothing: these are definitions.
use Rattle.std.specs.Prelude.{ℕ, zero, suc, ◌+◌, ◌*◌, cond, List, [], ◌∷◌, length, take, drop, eqb, leb, Option, Some, None}
use Rattle.std.specs.Borrow.{Bor}
use Rattle.macro_library.specs.declared.Stretch.{Stretch}
use Rattle.macro_library.specs.declared.Found.{Found}
use Rattle.macro_library.specs.declared.Found.TheVariants.{Own, Shared}

-- so many words from a place on
abbrev pub stretch : ℕ → ℕ → Stretch
stretch start words = record { start = start; words = words }

-- "A library is entries of name and step count, a word each, and the steps": "the steps of the first whole entry so named", by their place in the
-- library and how many words they are. The search stands at place i, with so many words of steps to pass over. An entry that is not whole ends the
-- library.
unfoldable pub sought : ℕ → ℕ → ℕ → List ℕ → Option Stretch
sought name i zero [] = None
sought name i zero (w ∷ []) = None
sought name i zero (w ∷ n ∷ ws) =
    cond (leb (5 * n) (length ws)) (cond (eqb w name) (Some (stretch (i + 2) (5 * n))) (sought name (i + 2) (5 * n) ws)) None
sought name i (suc k) [] = None
sought name i (suc k) (w ∷ ws) = sought name (suc i) k ws

-- the steps that a library has under a name
abbrev pub steps_in : List ℕ → ℕ → Option Stretch
steps_in library name = sought name 0 0 library

-- "A macro's name is sought in the bench's own library, then in the shared one"
abbrev pub in_shared : Option Stretch → Option Found
in_shared (Some s) = Some (Shared s)
in_shared None = None

abbrev pub in_own : Option Stretch → Option Found → Option Found
in_own (Some s) other = Some (Own s)
in_own None other = other

unfoldable pub found_in : List ℕ → List ℕ → ℕ → Option Found
found_in own shared name = in_own (steps_in own name) (in_shared (steps_in shared name))

-- a lent part: where it lies in memory, and its words
pub record Part : Type 0 where
  pub block : ℕ
  pub offset : ℕ
  pub words : List ℕ

abbrev pub part_of : Bor (List ℕ) → Part
part_of r = record { block = r.ref_ptr.0; offset = r.ref_ptr.1; words = r.now }

-- so many words of a library from a place on
abbrev pub words_from : List ℕ → ℕ → ℕ → List ℕ
words_from library a n = take n (drop a library)

-- where they lie, four bytes a word
abbrev pub stretch_of : Bor (List ℕ) → ℕ → ℕ → Part
stretch_of library a n = record { block = library.ref_ptr.0; offset = a * 4 + library.ref_ptr.1; words = words_from library.now a n }

-- "what comes back is that stretch of that library: .. or an empty part", which is that where our own library begins
abbrev pub stretch_at : Bor (List ℕ) → Bor (List ℕ) → Option Found → Part
stretch_at own shared (Some (Own s)) = stretch_of own s.start s.words
stretch_at own shared (Some (Shared s)) = stretch_of shared s.start s.words
stretch_at own shared None = record { block = own.ref_ptr.0; offset = own.ref_ptr.1; words = [] }

abbrev pub looked_up : Bor (List ℕ) → Bor (List ℕ) → ℕ → Part
looked_up own shared name = stretch_at own shared (found_in own.now shared.now name)
