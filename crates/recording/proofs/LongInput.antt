-- The first 48,024 bytes decide what the reader answers: the longest recording has 48,020, so that a word more is surplus whatever it is, and whatever
-- follows it. A program that reads no more than those reads enough. Assumes nothing.
use mathlib.Core.Path.{◌≡◌, refl, sym, ap, ◌∙◌}
use Prim.Native.Nat.{ℕ, zero, suc, ◌+◌, ◌*◌, ◌≤◌, ◌<◌}
use native.Mathlib.Omega.{arith}
use mathlib.Core.List.{List, [], ◌∷◌, ◌++◌}
use lib.ListN.{length, get_or, take, drop, length-drop, take-append-drop, get_or-append}
use lib.Seq.{take_all, take-nil, length-take-le, drop-append-le}
use lib.Dec.{ltb, leb}
use borrow.Author.Tests.{ltb-true, ltb-false, leb-true, leb-false}
use Rattle.laws.proofs.ListLaws.{cases}
use Rattle.recording.specs.Format.{Rule, words_of, calls_rules, layout, right, reading_of, reading}
use Rattle.recording.proofs.Right.{right-rules, right-front}
use Rattle.recording.proofs.Reach.{numbers, ending, calls-front, layout-length, at-numbers}
use Rattle.recording.proofs.Answers.{runs_on, few-calls, all-numbers}
use Rattle.recording.proofs.ByteWords.{words-length}

-- whole words at the front
words_take : (n : ℕ) (bs : List ℕ) → words_of (take (4 * n) bs) ≡ take n (words_of bs)
unfolding words_of
words_take zero bs = refl
words_take (suc n) [] = ap words_of (take-nil (4 * suc n))
words_take (suc n) (a ∷ []) = ap words_of (take_all (4 * suc n) (a ∷ []) (omega arith))
words_take (suc n) (a ∷ b ∷ []) = ap words_of (take_all (4 * suc n) (a ∷ b ∷ []) (omega arith))
words_take (suc n) (a ∷ b ∷ c ∷ []) = ap words_of (take_all (4 * suc n) (a ∷ b ∷ c ∷ []) (omega arith))
words_take (suc n) (a ∷ b ∷ c ∷ d ∷ bs) =
    let z : 4 * suc n ≡ suc (suc (suc (suc (4 * n)))) = omega arith in
    ap (λ (m : ℕ). words_of (take m (a ∷ b ∷ c ∷ d ∷ bs))) z ∙ ap {B = List ℕ} (λ l. (a + 256 * b + 65536 * c + 16777216 * d) ∷ l) (words_take n bs)

module _ (xs ys : List ℕ) (long : 12006 ≤ length xs) where
  same-calls : get_or xs 3 0 ≡ get_or (xs ++ ys) 3 0
  same-calls = sym (get_or-append xs ys 0 3 (omega arith))

  same_numbers : right numbers (xs ++ ys) ≡ right numbers xs
  same_numbers = right-front numbers xs ys (omega arith)

  -- words behind the longest recording change no rule that is reached
  same_layout : get_or xs 3 0 ≤ 1000 → layout (xs ++ ys) ≡ layout xs
  unfolding layout
  same_layout h =
      let l = length-drop 4 xs in
      let n = sym same-calls in
      let tail = ap (calls_rules (get_or xs 3 0)) (drop-append-le 4 xs ys (omega arith)) ∙ calls-front (get_or xs 3 0) (drop 4 xs) ys (omega arith) in
      (λ j. numbers ++ (calls_rules (n j) (drop 4 (xs ++ ys)) ++ ending (n j))) ∙ ap (λ (rules : List Rule). numbers ++ (rules ++ ending (get_or xs 3 0))) tail

  -- where it stops, which is before them
  pub record Stop : Type 0 where
    pub place : ℕ
    pub near : right (layout xs) xs ≡ place
    pub far : right (layout (xs ++ ys)) (xs ++ ys) ≡ place
    pub early : place ≤ 12005

  stop : Stop
  stop =
      cases (ltb (right numbers xs) 4)
      (λ t. let h = ltb-true (right numbers xs) 4 t in
      let e = same_numbers in
      record { place = right numbers xs; near = at-numbers xs h; far = at-numbers (xs ++ ys) (omega arith) ∙ e; early = omega arith })
      (λ t. let h = ltb-false (right numbers xs) 4 t in
      let n = all-numbers xs (right numbers xs) refl h in
      let c = few-calls xs n in
      let l = layout-length xs in
      let m = right-rules (layout xs) xs in
      record {
        place = right (layout xs) xs;
        near = refl;
        far = ap (λ (rules : List Rule). right rules (xs ++ ys)) (same_layout c) ∙ right-front (layout xs) xs ys (omega arith);
        early = omega arith;
      })

  pub both-refused : (m n : ℕ) → 48020 < m → 48020 < n → reading_of m xs ≡ reading_of n (xs ++ ys)
  both-refused m n g h =
      let s = stop in
      let e = s.early in
      sym (runs_on m xs s.place s.near (λ z. omega arith)) ∙ runs_on n (xs ++ ys) s.place s.far (λ z. omega arith)

-- what the reader answers
pub front-decides : (bytes : List ℕ) → reading (take 48024 bytes) ≡ reading bytes
front-decides bytes =
    cases (leb (length bytes) 48024)
    (λ t. ap reading (take_all 48024 bytes (leb-true (length bytes) 48024 t)))
    (λ t. let h = leb-false (length bytes) 48024 t in
    let ws = words_of bytes in
    let l = words-length bytes in
    let k = length-take-le 48024 bytes (omega arith) in
    let m = length-take-le 12006 ws (omega arith) in
    let apart = take-append-drop 12006 ws in
    (λ j. reading_of (k j) (words_take 12006 bytes j))
    ∙ both-refused (take 12006 ws) (drop 12006 ws) (omega arith) 48024 (length bytes) (omega arith) (omega arith)
    ∙ ap (reading_of (length bytes)) apart)
