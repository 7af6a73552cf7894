-- Document 02, item 8: a recording, as bytes, and what its reader answers. Assumes nothing: these are definitions.
use Rattle.std.specs.Prelude.{ℕ, zero, suc, ◌+◌, ◌-◌, ◌*◌, ◌/◌, ◌%◌, Bool, true, cond, ◌&&◌, List, [], ◌∷◌, ◌++◌, length, get_or, take, drop, replicate, leb, eqb, Result, Ok, Err}
use Rattle.model.specs.declared.Status.TheVariants.{InvalidNumber}
use Rattle.model.specs.Status.{number_of}
use Rattle.recording.specs.declared.Recording.{Recording}
use Rattle.recording.specs.declared.WrongWord.{WrongWord}

-- "A recording is little-endian 32-bit words": four bytes are a word, the lowest first; fewer at the end are none
unfoldable pub words_of : List ℕ → List ℕ
words_of [] = []
words_of (a ∷ []) = []
words_of (a ∷ b ∷ []) = []
words_of (a ∷ b ∷ c ∷ []) = []
words_of (a ∷ b ∷ c ∷ d ∷ bytes) = (a + 256 * b + 65536 * c + 16777216 * d) ∷ words_of bytes

-- the four bytes of each word
unfoldable pub bytes_of : List ℕ → List ℕ
bytes_of [] = []
bytes_of (w ∷ ws) = w % 256 ∷ w / 256 % 256 ∷ w / 65536 % 256 ∷ w / 16777216 ∷ bytes_of ws

-- ---- what each word has to be

abbrev pub Rule : Type 0
Rule = ℕ → Bool

abbrev pub within : ℕ → ℕ → Rule
within least most w = leb least w && leb w most

abbrev pub exactly : ℕ → Rule
exactly n = within n n

abbrev pub anything : Rule
anything w = true

-- "Calls are numbered by the list that opens document 01, create being 2 and get clock 12 (lay out isn't recorded), then 13 to 19: periodic start,
-- next due, initiate, the two server starts, serve, leap": the number of arguments of each, from call 2 on; a wall time is seven
abbrev pub argument_counts : List ℕ
argument_counts = 1 ∷ 1 ∷ 1 ∷ 1 ∷ 4 ∷ 10 ∷ 1 ∷ 1 ∷ 0 ∷ 7 ∷ 0 ∷ 4 ∷ 0 ∷ 0 ∷ 4 ∷ 10 ∷ 0 ∷ 1 ∷ []

unfoldable pub arguments : ℕ → ℕ
arguments number = get_or argument_counts (number - 2) 0

-- "eleven words each (call number, arguments in document 01's order, zeros to fill)"
unfoldable pub call_rules : ℕ → List Rule
call_rules number = within 2 19 ∷ (replicate (arguments number) anything ++ replicate (10 - arguments number) (exactly 0))

-- the rules of so many calls, whose words these are
unfoldable pub calls_rules : ℕ → List ℕ → List Rule
calls_rules zero ws = []
calls_rules (suc calls) ws = call_rules (get_or ws 0 0) ++ calls_rules calls (drop 11 ws)

-- "three sections, each after its count (2, calls, calls again): N and T; then at most 1,000 calls, eleven words each; then the expected statuses,
-- one a call"
unfoldable pub layout : List ℕ → List Rule
layout ws =
    let calls = get_or ws 3 0 in
    exactly 2 ∷ within 1 255 ∷ within 1 1000
    ∷ within 0 1000 ∷ (calls_rules calls (drop 4 ws)
    ++ (exactly calls ∷ replicate calls anything))

-- ---- the answer

-- how many words at the front are as their rules say: the position, from 0, of the first that is not, or is missing
unfoldable pub right : List Rule → List ℕ → ℕ
right [] ws = 0
right (rule ∷ rules) [] = 0
right (rule ∷ rules) (w ∷ ws) = cond (rule w) (suc (right rules ws)) 0

-- the status; the position of the first wrong word, 0 where none is; and, of a recording that is taken, N, T and the number of its calls
pub record Read : Type 0 where
  pub status : ℕ
  pub position : ℕ
  pub slots : ℕ
  pub rate : ℕ
  pub calls : ℕ

abbrev pub taken_with : ℕ → ℕ → ℕ → Read
taken_with slots rate calls = record { status = 0; position = 0; slots = slots; rate = rate; calls = calls }

-- "is refused with 10 and, in place of demand 1's zero, the position"
abbrev pub refused_at : ℕ → Read
refused_at p = record { status = number_of InvalidNumber; position = p; slots = 0; rate = 0; calls = 0 }

-- "A wrong count, N or T outside its limits, an unknown call, a fill word not zero, or a missing, partial or surplus word is refused with 10 and ..
-- the position, from 0, of the first such word": taken are words that are all right, of so many bytes as end where they do
unfoldable pub reading_of : ℕ → List ℕ → Read
reading_of size ws =
    let p = right (layout ws) ws in
    cond (eqb p (length (layout ws)) && eqb size (4 * p)) (taken_with (get_or ws 1 0) (get_or ws 2 0) (get_or ws 3 0)) (refused_at p)

abbrev pub reading : List ℕ → Read
reading bytes = reading_of (length bytes) (words_of bytes)

-- the reader's two cases in these numbers
abbrev pub given : Result Recording WrongWord → Read
given (Ok r) = taken_with r.slots r.rate r.calls
given (Err w) = refused_at w.position

-- ---- what a recording that is taken holds

-- the words of its calls, and its statuses
abbrev pub calls_in : List ℕ → List ℕ
calls_in ws = take (11 * get_or ws 3 0) (drop 4 ws)

abbrev pub statuses_in : List ℕ → List ℕ
statuses_in ws = drop (5 + 11 * get_or ws 3 0) ws
