-- Item 9's claims, proved: words to bytes and back is nothing, as are bytes to words and back, and the sections of a file are where the reader looks
-- for them. Assumes nothing.
use mathlib.Core.Path.{◌≡◌, refl, sym, ap, ◌∙◌, subst}
use Prim.Native.Nat.{ℕ, suc, ◌+◌, ◌-◌, ◌*◌, ◌/◌, ◌%◌, ◌≤◌, ◌<◌}
use native.Mathlib.Omega.{arith}
use mathlib.Core.Bool.{true}
use mathlib.Core.List.{List, [], ◌∷◌, ◌++◌, append_assoc}
use lib.ListN.{length, get_or, drop, length-append, length-drop, take-append-drop}
use lib.Seq.{take_at, drop_at, drop-cons, drop-drop, length-take-le}
use lib.Dec.{eqb}
use borrow.Author.Tests.{eq-eqb}
use Rattle.model.specs.Lists.{All}
use Rattle.laws.proofs.ListLaws.{and_both}
use Rattle.recording.specs.Format.{words_of, bytes_of, reading_of, reading, calls_in, statuses_in}
use Rattle.recording.proofs.Right.{right-at, within-true}
use Rattle.recording.proofs.Reach.{numbers}
use Rattle.recording.proofs.ByteWords.{words-length}
use Rattle.recording.proofs.TakenFacts.{Took, took}
use Rattle.recording_writer.specs.Writing.{file_words, file_of, Output, output, fitting, writing}
use Rattle.recording_writer.specs.RoundTrip.{file_in, Same, ReadsBack, WrittenAgain, SameBytes}
use Rattle.recording_writer.proofs.Files.{Fitting, fitting-facts, file-taken, wrote, writes}
use Rattle.recording_writer.proofs.Stores.{bytes-length, words-bytes}

-- ---- what is written reads back

module _ (slots rate : ℕ) (calls statuses : List ℕ) where
  abbrev ws : List ℕ
  ws = file_words slots rate calls statuses

  abbrev n : ℕ
  n = length statuses

  calls-there : length calls ≡ 11 * n → calls_in ws ≡ calls
  calls-there e = take_at calls (n ∷ statuses) (11 * n) e

  statuses-there : length calls ≡ 11 * n → statuses_in ws ≡ statuses
  statuses-there e =
      let l = length-append calls (n ∷ []) in
      ap (λ (xs : List ℕ). drop (5 + 11 * n) (2 ∷ slots ∷ rate ∷ n ∷ xs)) (sym (append_assoc calls (n ∷ []) statuses))
      ∙ drop_at (2 ∷ slots ∷ rate ∷ n ∷ (calls ++ n ∷ [])) statuses (5 + 11 * n) (omega arith)

  file-same : Fitting slots rate calls statuses → Same slots rate calls statuses (file_of slots rate calls statuses)
  unfolding file_of
  file-same f = record {
    numbers = file-taken slots rate calls statuses f;
    same-calls = ap calls_in (words-bytes ws) ∙ calls-there f.eleven;
    same-statuses = ap statuses_in (words-bytes ws) ∙ statuses-there f.eleven;
  }

pub reads-back : ReadsBack
reads-back slots rate calls statuses buffer e =
    let file = file_of slots rate calls statuses in
    let w = wrote slots rate calls statuses buffer e in
    let front : file_in (writing slots rate calls statuses buffer) ≡ file =
    ap file_in w.is ∙ take_at file (drop (length file) buffer) (length file) refl in
    subst (Same slots rate calls statuses) (sym front) (file-same slots rate calls statuses (fitting-facts slots rate calls statuses w.fits))

-- ---- what was read is written again

module _ (bytes : List ℕ) (e : (reading bytes).status ≡ 0) where
  abbrev words : List ℕ
  words = words_of bytes

  abbrev c : ℕ
  c = get_or words 3 0

  k : Took (length bytes) words
  k = took (length bytes) words e

  long : length words ≡ 5 + 12 * c
  long = let l = words-length bytes in let s = k.sized in omega arith

  count : length (statuses_in words) ≡ c
  count = let l = length-drop (5 + 11 * c) words in let m = long in omega arith

  two : 2 ≡ get_or words 0 0
  two = let t = within-true 2 2 (get_or words 0 0) (right-at numbers words k.numbered 0 (omega arith)) in omega arith

  front : words ≡ get_or words 0 0 ∷ get_or words 1 0 ∷ get_or words 2 0 ∷ c ∷ drop 4 words
  front =
      let l = long in
      drop-cons words 0 0 (omega arith)
      ∙ ap (λ (xs : List ℕ). get_or words 0 0 ∷ xs) (drop-cons words 1 0 (omega arith)
      ∙ ap (λ (xs : List ℕ). get_or words 1 0 ∷ xs) (drop-cons words 2 0 (omega arith)
      ∙ ap (λ (xs : List ℕ). get_or words 2 0 ∷ xs) (drop-cons words 3 0 (omega arith))))

  back : calls_in words ++ (c ∷ statuses_in words) ≡ drop 4 words
  back =
      let l = long in
      let next : suc (4 + 11 * c) ≡ 5 + 11 * c = omega arith in
      let rest : c ∷ statuses_in words ≡ drop (11 * c) (drop 4 words) =
      sym (drop-drop (11 * c) 4 words ∙ drop-cons words (4 + 11 * c) 0 (omega arith)
      ∙ (λ j. k.counted j ∷ drop (next j) words)) in
      ap (λ (xs : List ℕ). calls_in words ++ xs) rest ∙ take-append-drop (11 * c) (drop 4 words)

  again : file_words (get_or words 1 0) (get_or words 2 0) (calls_in words) (statuses_in words) ≡ words
  again =
      (λ j. two j ∷ get_or words 1 0 ∷ get_or words 2 0 ∷ count j ∷ (calls_in words ++ (count j ∷ statuses_in words)))
      ∙ ap (λ (xs : List ℕ). get_or words 0 0 ∷ get_or words 1 0 ∷ get_or words 2 0 ∷ c ∷ xs) back ∙ sym front

  eleven : length (calls_in words) ≡ 11 * length (statuses_in words)
  eleven =
      let l = long in
      let m = count in
      let d = length-drop 4 words in
      let t = length-take-le (11 * c) (drop 4 words) (omega arith) in
      omega arith

  abbrev file : List ℕ
  file = file_of (get_or words 1 0) (get_or words 2 0) (calls_in words) (statuses_in words)

  spelled : words_of file ≡ words
  unfolding file_of
  spelled = words-bytes (file_words (get_or words 1 0) (get_or words 2 0) (calls_in words) (statuses_in words)) ∙ again

  sized : length file ≡ length bytes
  unfolding file_of
  sized =
      let l = bytes-length (file_words (get_or words 1 0) (get_or words 2 0) (calls_in words) (statuses_in words)) in
      let m = ap length again in
      let n = long in
      let o = k.sized in
      omega arith

  fits : fitting (get_or words 1 0) (get_or words 2 0) (calls_in words) (statuses_in words) ≡ true
  unfolding fitting
  fits =
      let taken : (reading file).status ≡ 0 = (λ j. (reading_of (sized j) (spelled j)).status) ∙ e in
      and_both (eqb (reading file).status 0) (eqb (length (calls_in words)) (11 * length (statuses_in words))) (eq-eqb (reading file).status 0 taken)
      (eq-eqb (length (calls_in words)) (11 * length (statuses_in words)) eleven)

  -- into a buffer that is long enough
  module _ (buffer : List ℕ) (h : length bytes ≤ length buffer) where
    abbrev done : Output
    done = writing (get_or words 1 0) (get_or words 2 0) (calls_in words) (statuses_in words) buffer

    done-is : done ≡ output 0 (length file) (file ++ drop (length file) buffer)
    done-is =
        let s = sized in
        sym (writes (get_or words 1 0) (get_or words 2 0) (calls_in words) (statuses_in words) buffer (length file) (file ++ drop (length file) buffer) fits (omega arith)
        refl refl)

    at_front : file_in done ≡ file
    at_front = ap file_in done-is ∙ take_at file (drop (length file) buffer) (length file) refl

pub written-again : WrittenAgain
written-again bytes buffer e h =
    let front = at_front bytes e buffer h in
    record {
      accepted = ap (λ (x : Output). x.status) (done-is bytes e buffer h);
      same-words = ap words_of front ∙ spelled bytes e;
      same_length = ap length front ∙ sized bytes e;
    }

-- ---- to the same bytes

low : (a q : ℕ) → a < 256 → (a + 256 * q) % 256 ≡ a
low a q h = omega arith

bytes-words : (bs : List ℕ) (m : ℕ) → All (λ b. b < 256) bs → length bs ≡ 4 * m → bytes_of (words_of bs) ≡ bs
unfolding words_of bytes_of
bytes-words [] m h e = refl
bytes-words (a ∷ []) m h e = absurd (omega arith)
bytes-words (a ∷ b ∷ []) m h e = absurd (omega arith)
bytes-words (a ∷ b ∷ x ∷ []) m h e = absurd (omega arith)
bytes-words (a ∷ b ∷ x ∷ d ∷ bs) m h e =
    let w = a + 256 * b + 65536 * x + 16777216 * d in
    let ha = h.0 in
    let hb = h.1.0 in
    let hc = h.1.1.0 in
    let hd = h.1.1.1.0 in
    let ea : w % 256 ≡ a = omega arith in
    let qb : w / 256 ≡ b + 256 * (x + 256 * d) = omega arith in
    let qc : w / 65536 ≡ x + 256 * d = omega arith in
    let eb : w / 256 % 256 ≡ b = ap (λ (n : ℕ). n % 256) qb ∙ low b (x + 256 * d) hb in
    let ec : w / 65536 % 256 ≡ x = ap (λ (n : ℕ). n % 256) qc ∙ low x d hc in
    let ed : w / 16777216 ≡ d = omega arith in
    let ih = bytes-words bs (m - 1) h.1.1.1.1 (omega arith) in
    λ j. ea j ∷ eb j ∷ ec j ∷ ed j ∷ ih j

file-is : (bytes : List ℕ) (e : (reading bytes).status ≡ 0) → All (λ b. b < 256) bytes → file bytes e ≡ bytes
unfolding file_of
file-is bytes e small = ap bytes_of (again bytes e) ∙ bytes-words bytes (5 + 12 * c bytes e) small (k bytes e).sized

pub same_bytes : SameBytes
same_bytes bytes buffer small e h = at_front bytes e buffer h ∙ file-is bytes e small
