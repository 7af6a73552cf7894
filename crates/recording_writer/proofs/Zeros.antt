-- Words that are all zero, as the rules of a call ask it. Assumes nothing.
use mathlib.Core.Path.{◌≡◌, refl, sym, ap, ◌∙◌}
use mathlib.Core.Bool.{Bool, true, false, cond}
use mathlib.Core.List.{List, [], ◌∷◌}
use Prim.Native.Nat.{ℕ, zero, suc, ◌+◌}
use native.Mathlib.Omega.{arith}
use lib.ListN.{length, replicate}
use lib.Dec.{eqb}
use borrow.Author.Tests.{eq-eqb, ne_eqb}
use Rattle.std.specs.Prelude.{◌↔◌, IsTrue, All}
use Rattle.laws.proofs.ListLaws.{clash}
use Rattle.recording.specs.Format.{exactly, right}
use Rattle.recording.proofs.Right.{step-true, within-true}

-- how many of them are
abbrev pub zeros : List ℕ → ℕ
zeros ws = right (replicate (length ws) (exactly 0)) ws

all-right : (ws : List ℕ) → All (λ w. w ≡ 0) ws → zeros ws ≡ length ws
unfolding right
all-right [] h = refl
all-right (w ∷ ws) h =
    ap (λ (v : ℕ). cond (exactly 0 v) (suc (zeros ws)) 0) (h 0 0 (omega arith)) ∙ ap suc (all-right ws (λ k d i. h (suc k) d (omega arith)))

right-all : (ws : List ℕ) → zeros ws ≡ length ws → All (λ w. w ≡ 0) ws
unfolding right
right-all [] e k d i = absurd (omega arith)
right-all (w ∷ ws) e zero d i = let z = within-true 0 0 w (step-true (exactly 0 w) e).0 in omega arith
right-all (w ∷ ws) e (suc k) d i = right-all ws (step-true (exactly 0 w) e).1 k d (omega arith)

-- the test of all words is that of how many are, behind m others
pub by-all : (b : Bool) (ws : List ℕ) (n m : ℕ) → (IsTrue b ↔ All (λ w. w ≡ 0) ws) → n ≡ m + zeros ws → b ≡ eqb n (m + length ws)
by-all true ws n m h e = let z = all-right ws (h.0 refl) in sym (eq-eqb n (m + length ws) (omega arith))
by-all false ws n m h e = sym (ne_eqb n (m + length ws) (λ f. clash (sym (h.1 (right-all ws (omega arith))))))
