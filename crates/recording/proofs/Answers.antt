-- Each way out of the reader in one law: where the words stop being right the answer is that position, and where they never do and the bytes
-- end there it is the recording's numbers. Assumes nothing.
use mathlib.Core.Path.{◌≡◌, refl, sym, ap, ◌∙◌}
use Prim.Native.Nat.{ℕ, ◌+◌, ◌*◌, ◌≤◌, ◌<◌}
use native.Mathlib.Omega.{arith}
use mathlib.Core.Bool.{Bool, true, false, cond, ◌&&◌}
use mathlib.Core.List.{List}
use lib.ListN.{length, get_or, drop}
use lib.Dec.{ltb, eqb}
use borrow.Author.Tests.{eq-eqb, ne_eqb}
use Rattle.laws.proofs.ListLaws.{and_both, clash}
use Rattle.recording.specs.Format.{words_of, within, calls_rules, layout, right, Read, taken_with, refused_at, reading_of}
use Rattle.recording.proofs.ByteWords.{words-length}
use Rattle.recording.proofs.Right.{right-at, right-rules, right-words, within-true}
use Rattle.recording.proofs.Reach.{numbers, layout-length, calls-length, at-numbers, at-calls, at_count, at-statuses, at-end, tested-there}

abbrev taken_of : List ℕ → Read
taken_of ws = taken_with (get_or ws 1 0) (get_or ws 2 0) (get_or ws 3 0)

and_left : (a b : Bool) → a ≡ false → (a && b) ≡ false
and_left true b e = clash e
and_left false b e = refl

and_right : (a b : Bool) → b ≡ false → (a && b) ≡ false
and_right true b e = e
and_right false b e = refl

-- ---- from how far the words are right

module _ (size : ℕ) (ws : List ℕ) where
  pub by-test : (b : Bool) (p : ℕ) → right (layout ws) ws ≡ p
      → (eqb p (length (layout ws)) && eqb size (4 * p)) ≡ b → reading_of size ws ≡ cond b (taken_of ws) (refused_at p)
  unfolding reading_of
  by-test b p e t =
      ap (λ (q : ℕ). cond (eqb q (length (layout ws)) && eqb size (4 * q)) (taken_of ws) (refused_at q)) e
      ∙ ap (λ (x : Bool). cond x (taken_of ws) (refused_at p)) t

  pub stops : (p : ℕ) → right (layout ws) ws ≡ p → p < 5 + 12 * get_or ws 3 0 → refused_at p ≡ reading_of size ws
  stops p e h =
      let l = layout-length ws in
      sym (by-test false p e (and_left (eqb p (length (layout ws))) (eqb size (4 * p)) (ne_eqb p (length (layout ws)) (λ f. omega arith))))

  pub runs_on : (p : ℕ) → right (layout ws) ws ≡ p → (size ≡ 4 * p → ⊥) → refused_at p ≡ reading_of size ws
  runs_on p e h =
      sym (by-test false p e (and_right (eqb p (length (layout ws))) (eqb size (4 * p)) (ne_eqb size (4 * p) h)))

  pub ends : (p : ℕ) → right (layout ws) ws ≡ p → p ≡ 5 + 12 * get_or ws 3 0 → size ≡ 4 * p
      → taken_of ws ≡ reading_of size ws
  ends p e f g =
      let l = layout-length ws in
      let h : p ≡ length (layout ws) = omega arith in
      sym (by-test true p e (and_both (eqb p (length (layout ws))) (eqb size (4 * p)) (eq-eqb p (length (layout ws)) h) (eq-eqb size (4 * p) g)))

-- ---- the reader's steps, with the number of calls that it found

pub all-numbers : (ws : List ℕ) (end : ℕ) → end ≡ right numbers ws → 4 ≤ end → right numbers ws ≡ 4
all-numbers ws end e h = let l = right-rules numbers ws in omega arith

pub wrong-number : (size : ℕ) (ws : List ℕ) (end : ℕ) → end ≡ right numbers ws → end < 4 → refused_at end ≡ reading_of size ws
wrong-number size ws end e h = stops size ws end (at-numbers ws (omega arith) ∙ sym e) (omega arith)

pub every_call : (calls : ℕ) (d : List ℕ) (end : ℕ) → end ≡ 4 + right (calls_rules calls d) d → 4 + 11 * calls ≤ end → right (calls_rules calls d) d ≡ 11 * calls
every_call calls d end e h = let l = right-rules (calls_rules calls d) d in let m = calls-length calls d in omega arith

pub few-calls : (ws : List ℕ) → right numbers ws ≡ 4 → get_or ws 3 0 ≤ 1000
few-calls ws n = (within-true 0 1000 (get_or ws 3 0) (right-at numbers ws n 3 (omega arith))).1

-- the four numbers are right, and so many calls are said to be there
pub few : (ws : List ℕ) (start calls : ℕ) → start ≡ right numbers ws → 4 ≤ start → calls ≡ get_or ws 3 0 → calls ≤ 1000
few ws start calls e h is = omega (arith, few-calls ws (all-numbers ws start e h), is)

-- the four numbers are there
pub front : (bytes : List ℕ) (start : ℕ) → start ≡ right numbers (words_of bytes) → 4 ≤ start → 16 ≤ length bytes
front bytes start e h = omega (arith, words-length bytes, right-words numbers (words_of bytes))

pub ruleset few_calls = (few, front)

module _ (size : ℕ) (ws : List ℕ) (calls : ℕ) (is : calls ≡ get_or ws 3 0) where
  abbrev found : ℕ → ℕ
  found m = right (calls_rules m (drop 4 ws)) (drop 4 ws)

  abbrev counted : ℕ → Bool
  counted m = ltb (4 + 11 * m) (length ws) && within m m (get_or ws (4 + 11 * m) 0)

  module _ (n : right numbers ws ≡ 4) where
    pub wrong-call : (end : ℕ) → end ≡ 4 + found calls → end < 4 + 11 * calls → refused_at end ≡ reading_of size ws
    wrong-call end e h =
        let f = ap found is in
        let g = at-calls ws n (omega arith) in
        stops size ws end (omega arith) (omega arith)

    module _ (h : found calls ≡ 11 * calls) where
      all-calls : found (get_or ws 3 0) ≡ 11 * get_or ws 3 0
      all-calls = let f = ap found is in omega arith

      pub wrong-count : counted calls ≡ false → refused_at (4 + 11 * calls) ≡ reading_of size ws
      wrong-count e =
          let g = at_count ws n all-calls (ap counted (sym is) ∙ e) in
          stops size ws (4 + 11 * calls) (omega arith) (omega arith)

      module _ (e : counted calls ≡ true) where
        recount : counted (get_or ws 3 0) ≡ true
        recount = ap counted (sym is) ∙ e

        pub few-statuses : length ws < 5 + 12 * calls → refused_at (length ws) ≡ reading_of size ws
        few-statuses k =
            let c = get_or ws 3 0 in
            let t = tested-there ws (4 + 11 * c) (within c c (get_or ws (4 + 11 * c) 0)) recount in
            let g = at-statuses ws n all-calls recount t (omega arith) in
            stops size ws (length ws) g (omega arith)

        module _ (k : 5 + 12 * calls ≤ length ws) (last : ℕ) (l : last ≡ 5 + 12 * calls) where
          pub surplus : (size ≡ 4 * last → ⊥) → refused_at last ≡ reading_of size ws
          surplus x = let g = at-end ws n all-calls recount (omega arith) in runs_on size ws last (omega arith) x

          pub whole : size ≡ 4 * last → taken_of ws ≡ reading_of size ws
          whole x = let g = at-end ws n all-calls recount (omega arith) in ends size ws last (omega arith) (omega arith) x
