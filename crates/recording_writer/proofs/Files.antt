-- When the reader takes the file of numbers, calls and statuses, and each way out of the writer in one law. Assumes nothing.
use mathlib.Core.Path.{◌≡◌, refl, sym, ap, ◌∙◌}
use Prim.Native.Nat.{ℕ, ◌+◌, ◌*◌, ◌≤◌, ◌<◌}
use native.Mathlib.Omega.{arith}
use mathlib.Core.Bool.{Bool, true, false, true≢false, cond, not}
use mathlib.Core.List.{List, [], ◌∷◌, ◌++◌, append_assoc}
use lib.ListN.{length, get_or, drop, length-append}
use lib.Seq.{sets, get_or_at}
use lib.Dec.{leb, ltb, eqb}
use borrow.Author.Tests.{eqb-true, eqb-false, eq-eqb, lt-ltb, le-ltb, le-leb, leb-true}
use Rattle.calendar.specs.Calendar.{all_of}
use Rattle.calendar.proofs.Validity.{all-at}
use Rattle.model.specs.declared.Status.TheVariants.{InvalidNumber, InvalidSize}
use Rattle.model.specs.Status.{when, first_of}
use Rattle.laws.proofs.ListLaws.{cases, both, and_both}
use Rattle.recording.specs.Format.{Rule, bytes_of, calls_rules, right, Read, taken_with, reading_of, reading}
use Rattle.recording.proofs.Right.{right-at, right-front, within-true}
use Rattle.recording.proofs.Reach.{numbers, numbers-4, test-true, calls-length, calls-front}
use Rattle.recording.proofs.Answers.{few-calls, whole}
use Rattle.recording.proofs.TakenFacts.{took}
use Rattle.recording_writer.specs.Writing.{file_words, file_of, Output, output, fitting, writing}
use Rattle.recording_writer.proofs.Stores.{bytes-length, words-bytes, stored_on, stored-front}

-- ---- the words of a file

pub calls-right : (m : ℕ) (xs ys : List ℕ) → length xs ≡ 11 * m → right (calls_rules m (xs ++ ys)) (xs ++ ys) ≡ right (calls_rules m xs) xs
calls-right m xs ys h =
    let l = calls-length m xs in
    ap (λ (rules : List Rule). right rules (xs ++ ys)) (calls-front m xs ys (omega arith)) ∙ right-front (calls_rules m xs) xs ys (omega arith)

module _ (slots rate : ℕ) (calls statuses : List ℕ) where
  abbrev pub ws : List ℕ
  ws = file_words slots rate calls statuses

  abbrev c : ℕ
  c = length statuses

  pub file-reading : reading (file_of slots rate calls statuses) ≡ reading_of (4 * length ws) ws
  unfolding file_of
  file-reading = λ j. reading_of (bytes-length ws j) (words-bytes ws j)

  pub file-words : length ws ≡ 5 + length calls + c
  file-words = let l = length-append calls (c ∷ statuses) in omega arith

  pub file-count : length calls ≡ 11 * c → get_or ws (4 + 11 * c) 0 ≡ c
  file-count e = get_or_at (2 ∷ slots ∷ rate ∷ c ∷ calls) c statuses 0 (4 + 11 * c) (omega arith)

-- ---- when the reader takes the file

pub record Fitting (slots rate : ℕ) (calls statuses : List ℕ) : Type 0 where
  pub slots-least : 1 ≤ slots
  pub slots-most : slots ≤ 255
  pub rate-least : 1 ≤ rate
  pub rate-most : rate ≤ 1000
  pub few : length statuses ≤ 1000
  pub eleven : length calls ≡ 11 * length statuses
  pub all : right (calls_rules (length statuses) calls) calls ≡ 11 * length statuses

module _ (slots rate : ℕ) (calls statuses : List ℕ) where
  pub fitting-facts : fitting slots rate calls statuses ≡ true → Fitting slots rate calls statuses
  unfolding fitting
  fitting-facts e =
      let file = file_of slots rate calls statuses in
      let words = ws slots rate calls statuses in
      let n = length statuses in
      let t = both (eqb (reading file).status 0) (eqb (length calls) (11 * n)) e in
      let eleven = eqb-true (length calls) (11 * n) t.1 in
      let z = sym (ap (λ (r : Read). r.status) (file-reading slots rate calls statuses)) ∙ eqb-true (reading file).status 0 t.0 in
      let k = took (4 * length words) words z in
      let s = within-true 1 255 slots (right-at numbers words k.numbered 1 (omega arith)) in
      let r = within-true 1 1000 rate (right-at numbers words k.numbered 2 (omega arith)) in
      record {
        slots-least = s.0;
        slots-most = s.1;
        rate-least = r.0;
        rate-most = r.1;
        few = few-calls words k.numbered;
        eleven = eleven;
        all = sym (calls-right n calls (n ∷ statuses) eleven) ∙ k.called;
      }

  pub ruleset facts = (fitting-facts)

  pub file-taken : Fitting slots rate calls statuses → reading (file_of slots rate calls statuses) ≡ taken_with slots rate (length statuses)
  file-taken f =
      let words = ws slots rate calls statuses in
      let n = length statuses in
      let l = file-words slots rate calls statuses in
      let long : 5 + 12 * n ≤ length words = omega (arith, f.eleven) in
      let four = numbers-4 words (test-true words 0 (omega arith) 2 2 (omega arith) (omega arith))
      (test-true words 1 (omega arith) 1 255 f.slots-least f.slots-most)
      (test-true words 2 (omega arith) 1 1000 f.rate-least f.rate-most)
      (test-true words 3 (omega arith) 0 1000 (omega arith) f.few) in
      let again = file-count slots rate calls statuses f.eleven in
      let counted = test-true words (4 + 11 * n) (omega arith) n n (omega arith) (omega arith) in
      file-reading slots rate calls statuses
      ∙ sym (whole (4 * length words) words n refl (sym four) (calls-right n calls (n ∷ statuses) f.eleven ∙ f.all) counted long (5 + 12 * n) refl
      (omega (arith, f.eleven)))

  pub facts-fitting : Fitting slots rate calls statuses → fitting slots rate calls statuses ≡ true
  unfolding fitting
  facts-fitting f =
      let file = file_of slots rate calls statuses in
      let n = length statuses in
      and_both (eqb (reading file).status 0) (eqb (length calls) (11 * n)) (eq-eqb (reading file).status 0 (ap (λ (r : Read). r.status) (file-taken f)))
      (eq-eqb (length calls) (11 * n) f.eleven)

  pub not-fitting : (Fitting slots rate calls statuses → ⊥) → false ≡ fitting slots rate calls statuses
  not-fitting h = cases (fitting slots rate calls statuses) (λ e. absurd (h (fitting-facts e))) (λ e. sym e)

  -- N and T are within their limits
  abbrev limits : List Bool
  limits = leb 1 slots ∷ leb slots 255 ∷ leb 1 rate ∷ leb rate 1000 ∷ []

  pub out-of-limits : all_of limits ≡ false → false ≡ fitting slots rate calls statuses
  out-of-limits e =
      not-fitting (λ f. true≢false (sym (simp (
        le-leb 1 slots f.slots-least,
        le-leb slots 255 f.slots-most,
        le-leb 1 rate f.rate-least,
        le-leb rate 1000 f.rate-most,
      ))
      ∙ e))

  pub by-calls : all_of limits ≡ true → length statuses ≤ 1000 → length calls ≡ 11 * length statuses
      → {r : Bool} → r ≡ eqb (right (calls_rules (length statuses) calls) calls) (11 * length statuses) → r ≡ fitting slots rate calls statuses
  by-calls t f g r =
      let within = all-at limits t in
      let n = length statuses in
      let m = right (calls_rules n calls) calls in
      cases (eqb m (11 * n))
      (λ t. r ∙ t ∙ sym (facts-fitting (record {
        slots-least = leb-true 1 slots (within 0);
        slots-most = leb-true slots 255 (within 1);
        rate-least = leb-true 1 rate (within 2);
        rate-most = leb-true rate 1000 (within 3);
        few = f;
        eleven = g;
        all = eqb-true m (11 * n) t;
      })))
      (λ t. r ∙ t ∙ not-fitting (λ k. eqb-false m (11 * n) t k.all))

  -- ---- the writer's ways out

  pub file-length : length calls ≡ 11 * length statuses → length (file_of slots rate calls statuses) ≡ 4 * (5 + 12 * length statuses)
  unfolding file_of
  file-length e = let l = bytes-length (ws slots rate calls statuses) in let m = file-words slots rate calls statuses in omega arith

  module _ (buffer : List ℕ) where
    abbrev file : List ℕ
    file = file_of slots rate calls statuses

    abbrev whole-file : Output
    whole-file = output 0 (length file) (file ++ drop (length file) buffer)

    -- by the two tests
    by_tests : (b c : Bool) → fitting slots rate calls statuses ≡ b → ltb (length buffer) (length file) ≡ c
        → writing slots rate calls statuses buffer ≡ cond b (cond c (output 8 0 buffer) whole-file) (output 10 0 buffer)
    unfolding writing
    by_tests b c e f = (λ j. outcome (first_of (when InvalidNumber (not (e j)) ∷ when InvalidSize (f j) ∷ []))) ∙ by b c
      where
        outcome : ℕ → Output
        outcome status = cond (eqb status 0) whole-file (output status 0 buffer)

        by : (b c : Bool) → outcome (first_of (when InvalidNumber (not b) ∷ when InvalidSize c ∷ [])) ≡ cond b (cond c (output 8 0 buffer) whole-file) (output 10 0 buffer)
        by true true = refl
        by true false = refl
        by false c = refl

    pub refuses : fitting slots rate calls statuses ≡ false → output 10 0 buffer ≡ writing slots rate calls statuses buffer
    refuses e = sym (by_tests false (ltb (length buffer) (length file)) e refl)

    pub too_short : fitting slots rate calls statuses ≡ true → length buffer < length file → output 8 0 buffer ≡ writing slots rate calls statuses buffer
    too_short e h = sym (by_tests true true e (lt-ltb (length buffer) (length file) h))

    pub writes : (n : ℕ) (b : List ℕ) → fitting slots rate calls statuses ≡ true → length file ≤ length buffer → n ≡ length file
        → b ≡ file ++ drop (length file) buffer → output 0 n b ≡ writing slots rate calls statuses buffer
    writes n b e h m k = (λ j. output 0 (m j) (k j)) ∙ sym (by_tests true false e (le-ltb (length buffer) (length file) h))

    -- the sections stored one behind another
    pub stored : (b₁ b₂ b₃ b₄ : List ℕ) → length calls ≡ 11 * length statuses → length file ≤ length buffer
        → b₁ ≡ sets buffer 0 (bytes_of (2 ∷ slots ∷ rate ∷ length statuses ∷ [])) → b₂ ≡ sets b₁ 16 (bytes_of calls)
        → b₃ ≡ sets b₂ (4 * (4 + 11 * length statuses)) (bytes_of (length statuses ∷ []))
        → b₄ ≡ sets b₃ (4 * (4 + 11 * length statuses + 1)) (bytes_of statuses) → b₄ ≡ file ++ drop (length file) buffer
    unfolding file_of
    stored b₁ b₂ b₃ b₄ e h first second third fourth =
        let n = length statuses in
        let numbers : List ℕ = 2 ∷ slots ∷ rate ∷ n ∷ [] in
        let l = length-append calls (n ∷ []) in
        let two = stored_on buffer b₁ b₂ 0 16 numbers calls first second refl in
        let three = stored_on buffer b₂ b₃ 0 (4 * (4 + 11 * n)) (numbers ++ calls) (n ∷ []) two third (omega arith) in
        let four = stored_on buffer b₃ b₄ 0 (4 * (4 + 11 * n + 1)) (numbers ++ calls ++ n ∷ []) statuses three fourth (omega arith) in
        four ∙ ap (λ (xs : List ℕ). sets buffer 0 (bytes_of (2 ∷ slots ∷ rate ∷ n ∷ xs))) (append_assoc calls (n ∷ []) statuses) ∙ stored-front buffer file h

    -- a write that was accepted
    pub record Wrote : Type 0 where
      pub fits : fitting slots rate calls statuses ≡ true
      pub is : writing slots rate calls statuses buffer ≡ whole-file

    pub wrote : (writing slots rate calls statuses buffer).status ≡ 0 → Wrote
    wrote e =
        cases (fitting slots rate calls statuses)
        (λ t. cases (ltb (length buffer) (length file))
        (λ u. let z : 8 ≡ 0 = sym (ap (λ (o : Output). o.status) (by_tests true true t u)) ∙ e in absurd (omega arith))
        (λ u. record { fits = t; is = by_tests true false t u }))
        (λ t. let z : 10 ≡ 0 = ap (λ (o : Output). o.status) (refuses t) ∙ e in absurd (omega arith))
