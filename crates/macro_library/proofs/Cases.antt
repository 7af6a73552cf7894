-- Names that are in both libraries, in one, in neither, and under an entry that is not whole: computed from the definitions. Assumes nothing.
use Prim.Native.Nat.{ℕ, ◌+◌}
use mathlib.Core.Path.{◌≡◌, refl}
use mathlib.Core.List.{List, [], ◌∷◌, ◌++◌, map}
use lib.ListN.{replicate}
use denote.Ref.{Bor}
use Rattle.std.specs.Prelude.{Option, Some, None}
use Rattle.macro_library.specs.declared.Stretch.{Stretch}
use Rattle.macro_library.specs.declared.Found.{Found}
use Rattle.macro_library.specs.declared.Found.TheVariants.{Own, Shared}
use Rattle.macro_library.specs.Library.{stretch, sought, steps_in, found_in, words_from, Part, looked_up}

-- steps that are found, from a place on and so many words: in a library, in our own, in the shared one
abbrev at : ℕ → ℕ → Option Stretch
at start words = Some (stretch start words)

abbrev in_own : ℕ → ℕ → Option Found
in_own start words = Some (Own (stretch start words))

abbrev in_shared : ℕ → ℕ → Option Found
in_shared start words = Some (Shared (stretch start words))

abbrev step : List ℕ
step = 7 ∷ 0 ∷ 0 ∷ 0 ∷ 0 ∷ []

-- 5 with one step, 7 twice, 9 without a step, 8 with two steps of which one is there; after that nothing is found
abbrev library : List ℕ
library = 5 ∷ 1 ∷ (step ++ 7 ∷ 1 ∷ (step ++ 7 ∷ 2 ∷ (step ++ step ++ 9 ∷ 0 ∷ 8 ∷ 2 ∷ step)))

pub finds : map (steps_in library) (5 ∷ 7 ∷ 9 ∷ 8 ∷ 0 ∷ []) ≡ at 2 5 ∷ at 9 5 ∷ at 28 0 ∷ None ∷ None ∷ []
unfolding sought
finds = refl

-- a name of 0; an entry of more steps than a macro may have, which is whole all the same
pub finds-any : map (steps_in (0 ∷ 1 ∷ (step ++ 5 ∷ 0 ∷ []))) (0 ∷ 5 ∷ []) ++ (steps_in (6 ∷ 257 ∷ replicate 1285 7) 6 ∷ [])
    ≡ at 2 5 ∷ at 9 0 ∷ at 2 1285 ∷ []
unfolding sought
finds-any = refl

-- an entry behind one that is not whole; a head that is cut; no words
pub ends : map (λ l. steps_in l 5) ((8 ∷ 3 ∷ 5 ∷ 1 ∷ step) ∷ (5 ∷ []) ∷ [] ∷ (5 ∷ 0 ∷ []) ∷ []) ≡ None ∷ None ∷ None ∷ at 2 0 ∷ []
unfolding sought
ends = refl

-- an entry of which the last word is missing; a name whose lower half is another's
pub whole-or-not : steps_in (5 ∷ 1 ∷ 7 ∷ 0 ∷ 0 ∷ 0 ∷ []) 5 ∷ steps_in (65541 ∷ 0 ∷ 5 ∷ 0 ∷ []) 5 ∷ [] ≡ None ∷ at 4 0 ∷ []
unfolding sought
whole-or-not = refl

-- a name in both libraries, in one, in the other, in neither, and not whole in the first
abbrev own : List ℕ
own = 1 ∷ 1 ∷ (step ++ 2 ∷ 0 ∷ 4 ∷ 1 ∷ 7 ∷ 0 ∷ [])

abbrev shared : List ℕ
shared = 3 ∷ 0 ∷ 1 ∷ 0 ∷ 4 ∷ 1 ∷ step

pub looks : map (found_in own shared) (1 ∷ 2 ∷ 3 ∷ 5 ∷ 4 ∷ []) ≡ in_own 2 5 ∷ in_own 9 0 ∷ in_shared 2 0 ∷ None ∷ in_shared 6 5 ∷ []
unfolding sought found_in
looks = refl

-- the words of a stretch
pub stretches : words_from library 9 5 ∷ words_from library 28 0 ∷ words_from (1 ∷ 2 ∷ 3 ∷ 4 ∷ []) 1 2 ∷ [] ≡ step ∷ [] ∷ (2 ∷ 3 ∷ []) ∷ []
stretches = refl

-- a name in both libraries, without a step in the own one: it is found there
pub own-without-steps : found_in (3 ∷ 0 ∷ []) (3 ∷ 1 ∷ step) 3 ≡ in_own 2 0
unfolding sought found_in
own-without-steps = refl

-- a name of 0, and no words, in either library
pub name-0 : found_in [] (0 ∷ 1 ∷ step) 0 ∷ found_in (0 ∷ 1 ∷ step) [] 0 ∷ found_in [] [] 0 ∷ [] ≡ in_shared 2 5 ∷ in_own 2 5 ∷ None ∷ []
unfolding sought found_in
name-0 = refl

-- the part that comes back, in either library: which one, at which byte of it, and the words; and no words where neither has the name
abbrev part : ℕ → ℕ → List ℕ → Part
part block offset words = record { block = block; offset = offset; words = words }

pub parts : (o s : Bor (List ℕ)) → o.now ≡ own → s.now ≡ shared → map (looked_up o s) (1 ∷ 4 ∷ 2 ∷ 3 ∷ [])
    ≡ part o.ref_ptr.0 (8 + o.ref_ptr.1) step ∷ part s.ref_ptr.0 (24 + s.ref_ptr.1) step ∷ part o.ref_ptr.0 (36 + o.ref_ptr.1) [] ∷ part s.ref_ptr.0 (8 + s.ref_ptr.1) [] ∷ []
unfolding sought found_in
parts o s e f = rw (e, f)

pub no_part : (o s : Bor (List ℕ)) → o.now ≡ own → s.now ≡ shared → (looked_up o s 5).words ≡ []
unfolding sought found_in
no_part o s e f = rw (e, f)
