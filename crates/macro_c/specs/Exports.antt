-- What C gives and gets, in the macro runner's terms: the record as ten words, a step's outcome, a place in a library. Assumes nothing: these are
-- definitions.
use Rattle.std.specs.Prelude.{ℕ, cond, List, [], ◌∷◌, get_or, Option, Some, None}
use Rattle.model.specs.declared.Status.TheVariants.{InvalidNumber}
use Rattle.model.specs.Status.{number_of}
use Rattle.macro_check.specs.Passed.{passed}
use Rattle.macro_library.specs.declared.Found.{Found}
use Rattle.macro_library.specs.declared.Found.TheVariants.{Own, Shared}
use Rattle.macro_record.specs.declared.Runner.{Runner}
use Rattle.macro_record.specs.Record.{runner_of}
use Rattle.macros.specs.Stepping.{Taken}

-- 0 where the checker passes the macro, else 10
abbrev pub check_status : List ℕ → ℕ
check_status ws = cond (passed ws) 0 (number_of InvalidNumber)

-- the record of ten words: place, eight counts, last status
abbrev pub runner_in : List ℕ → Runner
runner_in ws =
    let w : ℕ → ℕ = λ i. get_or ws i 0 in runner_of (w 0) (w 1 ∷ w 2 ∷ w 3 ∷ w 4 ∷ w 5 ∷ w 6 ∷ w 7 ∷ w 8 ∷ []) (w 9)

-- and its words
abbrev pub words_of : Runner → List ℕ
words_of r =
    let c : ℕ → ℕ = λ i. get_or r.counts i 0 in r.place ∷ c 0 ∷ c 1 ∷ c 2 ∷ c 3 ∷ c 4 ∷ c 5 ∷ c 6 ∷ c 7 ∷ r.last ∷ []

-- what comes of a step or a run, with the record's words
pub record Exported : Type 0 where
  pub status : ℕ
  pub answer : List ℕ
  pub words : List ℕ
  pub table : List ℕ

abbrev pub exported_as : ℕ → ℕ → List ℕ → List ℕ → Exported
exported_as status answer words table = record { status = status; answer = answer ∷ []; words = words; table = table }

abbrev pub exported : Taken → Exported
exported k = record { status = k.status; answer = k.answer; words = words_of k.runner; table = k.table }

-- where a name was found: 1 in the bench's own library, 2 in the shared one, 0 in neither; the offset of its steps there, and how many words they are
pub record Located : Type 0 where
  pub library : ℕ
  pub offset : ℕ
  pub words : ℕ

abbrev pub located_at : ℕ → ℕ → ℕ → Located
located_at library offset words = record { library = library; offset = offset; words = words }

abbrev pub located : Option Found → Located
located (Some (Own s)) = located_at 1 s.start s.words
located (Some (Shared s)) = located_at 2 s.start s.words
located None = located_at 0 0 0
