-- The words of bytes: how many, and each from its four bytes. Assumes nothing.
use mathlib.Core.Path.{◌≡◌, refl, sym, ap, ◌∙◌}
use Prim.Native.Nat.{ℕ, zero, suc, ◌+◌, ◌-◌, ◌*◌, ◌/◌, ◌<◌}
use native.Mathlib.Omega.{arith}
use mathlib.Core.List.{List, [], ◌∷◌}
use lib.ListN.{length, get_or, take, drop, drop_of_length-le}
use Rattle.std.proofs.lemmas.List.{take_rest}
use mir.Syntax.{w32}
use Rattle.std.specs.Int.{from_le_bytes}
use Rattle.recording.specs.Format.{words_of}

pub words-length : (bs : List ℕ) → length (words_of bs) ≡ length bs / 4
unfolding words_of
words-length [] = refl
words-length (a ∷ []) = refl
words-length (a ∷ b ∷ []) = refl
words-length (a ∷ b ∷ c ∷ []) = refl
words-length (a ∷ b ∷ c ∷ d ∷ bs) = let ih = words-length bs in omega arith

-- the word of the four bytes from a place on
abbrev pub word_from : List ℕ → ℕ → ℕ
word_from bs at = get_or bs at 0 + 256 * get_or bs (at + 1) 0 + 65536 * get_or bs (at + 2) 0 + 16777216 * get_or bs (at + 3) 0

pub four-bytes : (a b c d : ℕ) → from_le_bytes w32 (a ∷ b ∷ c ∷ d ∷ []) ≡ a + 256 * b + 65536 * c + 16777216 * d
four-bytes a b c d = omega arith

past : (a b c d : ℕ) (bs : List ℕ) (m n : ℕ) → m ≡ suc (suc (suc (suc n))) → get_or (a ∷ b ∷ c ∷ d ∷ bs) m 0 ≡ get_or bs n 0
past a b c d bs m n e = ap (λ (i : ℕ). get_or (a ∷ b ∷ c ∷ d ∷ bs) i 0) e

pub word-is : (bs : List ℕ) (p : ℕ) → p < length (words_of bs) → get_or (words_of bs) p 0 ≡ word_from bs (4 * p)
unfolding words_of
word-is [] p h = absurd (omega arith)
word-is (a ∷ []) p h = absurd (omega arith)
word-is (a ∷ b ∷ []) p h = absurd (omega arith)
word-is (a ∷ b ∷ c ∷ []) p h = absurd (omega arith)
word-is (a ∷ b ∷ c ∷ d ∷ bs) zero h = refl
word-is (a ∷ b ∷ c ∷ d ∷ bs) (suc p) h =
    let at = past a b c d bs in
    word-is bs p (omega arith)
    ∙ sym (λ j. at (4 * suc p) (4 * p) (omega arith) j + 256 * at (4 * suc p + 1) (4 * p + 1) (omega arith) j
    + 65536 * at (4 * suc p + 2) (4 * p + 2) (omega arith) j + 16777216 * at (4 * suc p + 3) (4 * p + 3) (omega arith) j)

words-drop : (n : ℕ) (bs : List ℕ) → words_of (drop (4 * n) bs) ≡ drop n (words_of bs)
unfolding words_of
words-drop zero bs = refl
words-drop (suc n) [] = ap words_of (drop_of_length-le [] (omega arith))
words-drop (suc n) (a ∷ []) = ap words_of (drop_of_length-le (a ∷ []) (omega arith))
words-drop (suc n) (a ∷ b ∷ []) = ap words_of (drop_of_length-le (a ∷ b ∷ []) (omega arith))
words-drop (suc n) (a ∷ b ∷ c ∷ []) = ap words_of (drop_of_length-le (a ∷ b ∷ c ∷ []) (omega arith))
words-drop (suc n) (a ∷ b ∷ c ∷ d ∷ bs) =
    let z : 4 * suc n ≡ suc (suc (suc (suc (4 * n)))) = omega arith in
    ap (λ (m : ℕ). words_of (drop m (a ∷ b ∷ c ∷ d ∷ bs))) z ∙ words-drop n bs

-- the words of the bytes from a whole word on
pub words-from : (n : ℕ) (bs : List ℕ) → words_of (take (length bs - 4 * n) (drop (4 * n) bs)) ≡ drop n (words_of bs)
words-from n bs = ap words_of (take_rest bs (4 * n)) ∙ words-drop n bs

pub ruleset lengths = (words-length)
