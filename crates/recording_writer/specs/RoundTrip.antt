-- Item 9's two claims about a recording that is written and read, or read and written, and a third, of its bytes. proofs/RoundTrip.antt proves them.
-- Assumes nothing: these are definitions.
use Rattle.std.specs.Prelude.{◌≡◌, ℕ, ◌≤◌, ◌<◌, List, length, get_or, take}
use Rattle.model.specs.Lists.{All}
use Rattle.recording.specs.Format.{words_of, taken_with, reading, calls_in, statuses_in}
use Rattle.recording_writer.specs.Writing.{Output, writing}

-- the bytes that a write put at the front of the buffer
abbrev pub file_in : Output → List ℕ
file_in o = take o.answer o.buffer

-- "What is written reads back as the same numbers, calls and statuses."
pub record Same (slots rate : ℕ) (calls statuses file : List ℕ) : Type 0 where
  pub numbers : reading file ≡ taken_with slots rate (length statuses)
  pub same-calls : calls_in (words_of file) ≡ calls
  pub same-statuses : statuses_in (words_of file) ≡ statuses

abbrev pub ReadsBack : Type 0
ReadsBack =
    (slots rate : ℕ) (calls statuses buffer : List ℕ) → (writing slots rate calls statuses buffer).status ≡ 0
    → Same slots rate calls statuses (file_in (writing slots rate calls statuses buffer))

-- "Every recording the reader takes is written again to the same words."
pub record Again (bytes : List ℕ) (o : Output) : Type 0 where
  pub accepted : o.status ≡ 0
  pub same-words : words_of (file_in o) ≡ words_of bytes
  pub same_length : length (file_in o) ≡ length bytes

abbrev pub WrittenAgain : Type 0
WrittenAgain =
    (bytes buffer : List ℕ) → (reading bytes).status ≡ 0 → length bytes ≤ length buffer
    → let ws = words_of bytes in Again bytes (writing (get_or ws 1 0) (get_or ws 2 0) (calls_in ws) (statuses_in ws) buffer)

-- and to the same bytes: each byte of the file is below 256
abbrev pub SameBytes : Type 0
SameBytes =
    (bytes buffer : List ℕ) → All (λ b. b < 256) bytes → (reading bytes).status ≡ 0 → length bytes ≤ length buffer
    → let ws = words_of bytes in file_in (writing (get_or ws 1 0) (get_or ws 2 0) (calls_in ws) (statuses_in ws) buffer) ≡ bytes
