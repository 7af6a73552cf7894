-- The bytes of words: how many, and their words again; and words stored one run behind another. Assumes nothing.
use mathlib.Core.Path.{◌≡◌, refl, sym, ap, ◌∙◌}
use Prim.Native.Nat.{ℕ, suc, ◌+◌, ◌*◌, ◌/◌, ◌%◌, ◌^◌, ◌<◌, ◌≤◌}
use native.Mathlib.Omega.{arith}
use mathlib.Core.List.{List, [], ◌∷◌, ◌++◌}
use lib.ListN.{length, set, drop}
use lib.Seq.{sets, sets-eq}
use mir.Syntax.{w32}
use Rattle.std.specs.Int.{to_le_bytes}
use Rattle.recording.specs.Format.{words_of, bytes_of}

pub bytes-length : (ws : List ℕ) → length (bytes_of ws) ≡ 4 * length ws
unfolding bytes_of
bytes-length [] = refl
bytes-length (w ∷ ws) = let ih = bytes-length ws in omega arith

pub bytes-append : (xs ys : List ℕ) → bytes_of (xs ++ ys) ≡ bytes_of xs ++ bytes_of ys
unfolding bytes_of
bytes-append [] ys = refl
bytes-append (w ∷ xs) ys = ap {B = List ℕ} (λ l. w % 256 ∷ w / 256 % 256 ∷ w / 65536 % 256 ∷ w / 16777216 ∷ l) (bytes-append xs ys)

word_bytes : (w : ℕ) → w % 256 + 256 * (w / 256 % 256) + 65536 * (w / 65536 % 256) + 16777216 * (w / 16777216) ≡ w
word_bytes w = omega arith

pub words-bytes : (ws : List ℕ) → words_of (bytes_of ws) ≡ ws
unfolding words_of bytes_of
words-bytes [] = refl
words-bytes (w ∷ ws) = λ j. word_bytes w j ∷ words-bytes ws j

-- ---- stores, one run after another

pub le-bytes : (w : ℕ) → w < 2 ^ 32 → to_le_bytes w32 w ≡ bytes_of (w ∷ [])
unfolding bytes_of
le-bytes w h =
    let e : w / 256 ^ 3 % 256 ≡ w / 16777216 = omega arith in
    ap {B = List ℕ} (λ (b : ℕ). w % 256 ∷ w / 256 % 256 ∷ w / 65536 % 256 ∷ b ∷ []) e

sets-on : (l : List ℕ) (a : ℕ) (vs us : List ℕ) → sets (sets l a vs) (a + length vs) us ≡ sets l a (vs ++ us)
sets-on l a [] us = ap (λ (n : ℕ). sets l n us) none
  where
    none : a + 0 ≡ a
    none = omega arith
sets-on l a (v ∷ vs) us = ap (λ (n : ℕ). sets (sets (set l a v) (suc a) vs) n us) shift ∙ sets-on (set l a v) (suc a) vs us
  where
    shift : a + suc (length vs) ≡ suc a + length vs
    shift = omega arith

pub stored-none : (l : List ℕ) (a : ℕ) → l ≡ sets l a (bytes_of [])
unfolding bytes_of
stored-none l a = refl

-- words stored behind words
pub stored_on : (l m n : List ℕ) (a b : ℕ) (xs ys : List ℕ) → m ≡ sets l a (bytes_of xs) → n ≡ sets m b (bytes_of ys) → b ≡ a + 4 * length xs
    → n ≡ sets l a (bytes_of (xs ++ ys))
stored_on l m n a b xs ys e f g =
    let at : b ≡ a + length (bytes_of xs) = omega (arith, bytes-length xs) in
    f ∙ (λ j. sets (e j) (at j) (bytes_of ys)) ∙ sets-on l a (bytes_of xs) (bytes_of ys) ∙ ap (sets l a) (sym (bytes-append xs ys))

-- words stored at the front
pub stored-front : (l bs : List ℕ) → length bs ≤ length l → sets l 0 bs ≡ bs ++ drop (length bs) l
stored-front l bs h = sets-eq bs l 0 (omega arith) ∙ ap (λ (n : ℕ). bs ++ drop n l) none
  where
    none : 0 + length bs ≡ length bs
    none = omega arith
