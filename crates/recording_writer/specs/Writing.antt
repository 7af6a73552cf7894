-- Document 02, item 9: the bytes of a recording, and what its writer answers and leaves. Assumes nothing: these are definitions.
use Rattle.std.specs.Prelude.{ℕ, ◌*◌, Bool, cond, not, ◌&&◌, List, [], ◌∷◌, ◌++◌, length, get_or, drop, ltb, eqb}
use Rattle.model.specs.declared.Status.TheVariants.{InvalidNumber, InvalidSize}
use Rattle.model.specs.Status.{Refusal, when, first_of}
use Rattle.model.specs.declared.Status.{Status}
use Rattle.std.specs.declared.result.Result.{Result}
use Rattle.answers.specs.Answers.{status_of, answer_of}
use Rattle.recording.specs.Format.{bytes_of, reading}

-- "From lay-out numbers, calls and statuses write that file": its three sections, each after its count
abbrev pub file_words : ℕ → ℕ → List ℕ → List ℕ → List ℕ
file_words slots rate calls statuses = 2 ∷ slots ∷ rate ∷ length statuses ∷ (calls ++ (length statuses ∷ statuses))

unfoldable pub file_of : ℕ → ℕ → List ℕ → List ℕ → List ℕ
file_of slots rate calls statuses = bytes_of (file_words slots rate calls statuses)

-- the reader would take it, and the calls are eleven words for each status
unfoldable pub fitting : ℕ → ℕ → List ℕ → List ℕ → Bool
fitting slots rate calls statuses = eqb (reading (file_of slots rate calls statuses)).status 0 && eqb (length calls) (11 * length statuses)

-- "Refused exactly if the reader would refuse it or the calls aren't eleven words for each status (10), then if the buffer is too short (8)"
abbrev pub write_rules : ℕ → ℕ → List ℕ → List ℕ → List ℕ → List Refusal
write_rules slots rate calls statuses buffer =
    when InvalidNumber (not (fitting slots rate calls statuses)) ∷ when InvalidSize (ltb (length buffer) (length (file_of slots rate calls statuses))) ∷ []

-- the status, the answer, which no paper names: the file's length in bytes, 0 on a refusal; and the buffer
pub record Output : Type 0 where
  pub status : ℕ
  pub answer : ℕ
  pub buffer : List ℕ

abbrev pub output : ℕ → ℕ → List ℕ → Output
output status answer buffer = record { status = status; answer = answer; buffer = buffer }

-- the status of an answer and its number, which is the length
abbrev pub output_of : Result ℕ Status → List ℕ → Output
output_of r buffer = output (status_of r) (get_or (answer_of r) 0 0) buffer

-- "the buffer then stays, as do bytes past the file"
unfoldable pub writing : ℕ → ℕ → List ℕ → List ℕ → List ℕ → Output
writing slots rate calls statuses buffer =
    let file = file_of slots rate calls statuses in
    let status = first_of (write_rules slots rate calls statuses buffer) in
    cond (eqb status 0) (output 0 (length file) (file ++ drop (length file) buffer)) (output status 0 buffer)
