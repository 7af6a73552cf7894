-- Recordings to be written, at both sides of each edge, in a table under one statement that is computed from the definitions. Assumes nothing.
use mathlib.Core.Path.{◌≡◌, refl}
use Prim.Native.Nat.{ℕ, ◌≤◌, ◌<◌}
use mathlib.Core.List.{List, [], ◌∷◌, ◌++◌, map}
use lib.ListN.{length, get_or, take, replicate}
use Rattle.model.specs.Lists.{All}
use Rattle.recording.specs.Format.{words_of, bytes_of, arguments, call_rules, calls_rules, layout, right, taken_with, reading_of, reading, calls_in, statuses_in}
use Rattle.recording_writer.specs.Writing.{file_of, fitting, Output, writing}
use Rattle.recording_writer.specs.RoundTrip.{ReadsBack, WrittenAgain, SameBytes}

-- what is to be written and the buffer, with what comes of it
pub record Case : Type 0 where
  pub slots : ℕ
  pub rate : ℕ
  pub calls : List ℕ
  pub statuses : List ℕ
  pub buffer : List ℕ
  pub outcome : Output

abbrev case : ℕ → ℕ → List ℕ → List ℕ → List ℕ → ℕ → ℕ → List ℕ → Case
case slots rate calls statuses buffer status answer after =
    record { slots = slots; rate = rate; calls = calls; statuses = statuses; buffer = buffer; outcome = record { status = status; answer = answer; buffer = after } }

-- a refusal leaves the buffer
abbrev refused : ℕ → ℕ → List ℕ → List ℕ → List ℕ → ℕ → Case
refused slots rate calls statuses buffer status = case slots rate calls statuses buffer status 0 buffer

-- create, with a name of four different bytes
abbrev create : List ℕ
create = 2 ∷ 67305985 ∷ replicate 9 0

-- N 255, T 1,000, that call, status 513: its 68 bytes
abbrev file : List ℕ
file =
    2 ∷ 0 ∷ 0 ∷ 0 ∷ 255 ∷ 0 ∷ 0 ∷ 0 ∷ 232 ∷ 3 ∷ 0 ∷ 0
    ∷ 1 ∷ 0 ∷ 0 ∷ 0 ∷ 2 ∷ 0 ∷ 0 ∷ 0 ∷ 1 ∷ 2 ∷ 3 ∷ 4 ∷ (replicate 36 0
    ++ 1 ∷ 0 ∷ 0 ∷ 0 ∷ 1 ∷ 2 ∷ 0 ∷ 0 ∷ [])

abbrev cases : List Case
cases =
    -- a buffer of 99 bytes, 69, 68 and 67
    case 255 1000 create (513 ∷ []) (replicate 99 5) 0 68 (file ++ replicate 31 5)
    ∷ case 255 1000 create (513 ∷ []) (replicate 69 5) 0 68 (file ++ 5 ∷ [])
    ∷ case 255 1000 create (513 ∷ []) (replicate 68 5) 0 68 file
    ∷ refused 255 1000 create (513 ∷ []) (replicate 67 5) 8
    -- no call: 20 bytes
    ∷ case 1 1 [] [] (replicate 21 5) 0 20 (2 ∷ 0 ∷ 0 ∷ 0 ∷ 1 ∷ 0 ∷ 0 ∷ 0 ∷ 1 ∷ replicate 11 0 ++ 5 ∷ [])
    ∷ refused 1 1 [] [] (replicate 19 5) 8
    -- ten words for a status, twelve, none, and eleven for two
    ∷ refused 255 1000 (2 ∷ replicate 9 0) (7 ∷ []) (replicate 99 5) 10
    ∷ refused 255 1000 (2 ∷ replicate 11 0) (7 ∷ []) (replicate 99 5) 10
    ∷ refused 255 1000 [] (7 ∷ []) (replicate 99 5) 10
    ∷ refused 255 1000 create (7 ∷ 7 ∷ []) (replicate 199 5) 10
    -- words that would read as a recording, were the sections not where they are: ten words, whose status is the count
    ∷ refused 255 1000 (10 ∷ replicate 9 0) (0 ∷ []) (replicate 99 5) 10
    ∷ refused 255 1000 (10 ∷ replicate 10 0 ++ 1 ∷ []) (1 ∷ []) (replicate 99 5) 10
    -- numbers outside their limits, an unknown call, a fill word; a short buffer besides
    ∷ refused 0 1 create (7 ∷ []) (replicate 99 5) 10
    ∷ refused 256 1 create (7 ∷ []) (replicate 99 5) 10
    ∷ refused 1 0 create (7 ∷ []) (replicate 99 5) 10
    ∷ refused 1 1001 create (7 ∷ []) (replicate 99 5) 10
    ∷ refused 1 1 (1 ∷ replicate 10 0) (7 ∷ []) (replicate 99 5) 10
    ∷ refused 1 1 (20 ∷ replicate 10 0) (7 ∷ []) (replicate 99 5) 10
    ∷ refused 1 1 (2 ∷ 9 ∷ 1 ∷ replicate 8 0) (7 ∷ []) (replicate 99 5) 10
    ∷ refused 1 1 (2 ∷ 9 ∷ 1 ∷ replicate 8 0) (7 ∷ []) [] 10
    ∷ []

pub written : map (λ (c : Case). writing c.slots c.rate c.calls c.statuses c.buffer) cases ≡ map (λ (c : Case). c.outcome) cases
unfolding words_of arguments call_rules calls_rules layout right reading_of bytes_of file_of fitting writing
written = refl

-- ---- what the claims say of a recording

pub told : ReadsBack → (slots rate : ℕ) (calls statuses buffer : List ℕ) → let o = writing slots rate calls statuses buffer in o.status ≡ 0
    → let file = take o.answer o.buffer in
    (reading file ≡ taken_with slots rate (length statuses)) × (calls_in (words_of file) ≡ calls) × (statuses_in (words_of file) ≡ statuses)
told h slots rate calls statuses buffer e = let s = h slots rate calls statuses buffer e in (s.numbers, s.same-calls, s.same-statuses)

pub told-again : WrittenAgain → (bytes buffer : List ℕ) → (reading bytes).status ≡ 0 → length bytes ≤ length buffer → let ws = words_of bytes in
    let o = writing (get_or ws 1 0) (get_or ws 2 0) (calls_in ws) (statuses_in ws) buffer in
    (o.status ≡ 0) × (words_of (take o.answer o.buffer) ≡ ws) × (length (take o.answer o.buffer) ≡ length bytes)
told-again h bytes buffer e f = let s = h bytes buffer e f in (s.accepted, s.same-words, s.same_length)

pub told-bytes : SameBytes → (bytes buffer : List ℕ) → All (λ b. b < 256) bytes → (reading bytes).status ≡ 0 → length bytes ≤ length buffer
    → let ws = words_of bytes in
    let o = writing (get_or ws 1 0) (get_or ws 2 0) (calls_in ws) (statuses_in ws) buffer in take o.answer o.buffer ≡ bytes
told-bytes h bytes buffer small e f = h bytes buffer small e f
