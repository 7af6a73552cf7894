-- Where the words of a call stand in the file. Assumes nothing.
use mathlib.Core.Path.{◌≡◌, refl, sym, ap, ◌∙◌}
use Prim.Native.Nat.{ℕ, suc, ◌+◌, ◌≤◌}
use native.Mathlib.Nat.{add-zero}
use native.Mathlib.Omega.{arith}
use mathlib.Core.List.{List, [], ◌∷◌}
use lib.ListN.{length, get_or, take, drop}
use lib.Seq.{drop-cons}

-- these words stand in the file, at this place and i words on, one after the other
abbrev pub Stand : List ℕ → ℕ → List ℕ → ℕ → Type 0
Stand ws at [] i = Unit {0}
Stand ws at (x ∷ xs) i = (x ≡ get_or ws (at + i) 0) × Stand ws at xs (suc i)

stand-from : (ws : List ℕ) (at : ℕ) (xs : List ℕ) (i : ℕ) → at + i + length xs ≤ length ws → Stand ws at xs i → xs ≡ take (length xs) (drop (at + i) ws)
stand-from ws at [] i h s = refl
stand-from ws at (x ∷ xs) i h s =
    let n : at + suc i ≡ suc (at + i) = omega arith in
    let later = stand-from ws at xs (suc i) (omega arith) s.1 ∙ ap (λ (m : ℕ). take (length xs) (drop m ws)) n in
    (λ j. s.0 j ∷ later j) ∙ sym (ap (take (suc (length xs))) (drop-cons ws (at + i) 0 (omega arith)))

pub stand : (ws : List ℕ) (at : ℕ) (x : ℕ) (xs : List ℕ) → at + suc (length xs) ≤ length ws → x ≡ get_or ws at 0 → Stand ws at xs 1
    → x ∷ xs ≡ take (suc (length xs)) (drop at ws)
stand ws at x xs h e s =
    let n = add-zero at in
    stand-from ws at (x ∷ xs) 0 (omega arith) (e ∙ ap (λ (m : ℕ). get_or ws m 0) (sym n), s) ∙ ap (λ (m : ℕ). take (suc (length xs)) (drop m ws)) n
