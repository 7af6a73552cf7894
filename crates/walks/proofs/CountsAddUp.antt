-- Sums over a range of numbers, and how often a number stands in a list: summed over the range, that is the list's length. By induction.
-- Assumes nothing.
use Prim.Native.Nat.{ℕ, zero, suc, ◌+◌, ◌≤◌, ◌<◌}
use mathlib.Core.Path.{◌≡◌, refl, sym, ap₂, ◌∙◌, subst}
use mathlib.Core.Bool.{cond}
use mathlib.Core.List.{List, [], ◌∷◌}
use native.Mathlib.Numerals.{lt_of_le_of_ne}
use native.Mathlib.Omega.{arith}
use lib.ListN.{length}
use lib.Dec.{eqb}
use borrow.Author.Tests.{eqb-true, eqb-false, ne_eqb}
use Rattle.model.specs.Lists.{count, All}
use Rattle.laws.proofs.ListLaws.{cases}

-- how often x stands in the list
abbrev pub times : ℕ → List ℕ → ℕ
times x l = count (λ j. eqb j x) l

abbrev pub sum_up : (ℕ → ℕ) → ℕ → ℕ → ℕ
sum_up f i zero = 0
sum_up f i (suc n) = f i + sum_up f (suc i) n

abbrev one : ℕ → ℕ → ℕ
one x j = cond (eqb x j) 1 0

pub sum_same : (f g : ℕ → ℕ) (i n : ℕ) → ((j : ℕ) → i ≤ j → j < i + n → f j ≡ g j) → sum_up f i n ≡ sum_up g i n
sum_same f g i zero h = refl
sum_same f g i (suc n) h = ap₂ ◌+◌ (h i (omega arith) (omega arith)) (sum_same f g (suc i) n (λ j a b. h j (omega arith) (omega arith)))

sum-le : (f g : ℕ → ℕ) (i n : ℕ) → ((j : ℕ) → i ≤ j → j < i + n → f j ≤ g j) → sum_up f i n ≤ sum_up g i n
sum-le f g i zero h = omega arith
sum-le f g i (suc n) h = omega (arith, h i (omega arith) (omega arith), sum-le f g (suc i) n (λ j a b. h j (omega arith) (omega arith)))

pub sum-few : (f : ℕ → ℕ) (i n : ℕ) → ((j : ℕ) → f j ≤ 1) → sum_up f i n ≤ n
sum-few f i zero h = omega arith
sum-few f i (suc n) h = omega (arith, h i, sum-few f (suc i) n h)

sum-add : (f g : ℕ → ℕ) (i n : ℕ) → sum_up (λ j. f j + g j) i n ≡ sum_up f i n + sum_up g i n
sum-add f g i zero = refl
sum-add f g i (suc n) = omega (arith, sum-add f g (suc i) n)

sum-none : (x i n : ℕ) → x < i → sum_up (one x) i n ≡ 0
sum-none x i zero h = refl
sum-none x i (suc n) h = rw (ne_eqb x i (λ e. omega arith)) (omega (arith, sum-none x (suc i) n (omega arith)))

sum_one : (x i n : ℕ) → i ≤ x → x < i + n → sum_up (one x) i n ≡ 1
sum_one x i zero a b = absurd (omega arith)
sum_one x i (suc n) a b =
    cases (eqb x i)
    (λ e. rw e (omega (arith, sum-none x (suc i) n (omega (arith, eqb-true x i e)))))
    (λ e. rw e (omega (arith, sum_one x (suc i) n (lt_of_le_of_ne a (λ q. eqb-false x i e (sym q))) (omega arith))))

sum-zero : (i n : ℕ) → sum_up (λ j. 0) i n ≡ 0
sum-zero i zero = refl
sum-zero i (suc n) = omega (arith, sum-zero (suc i) n)

-- every element is counted once
pub sum-times : (l : List ℕ) (i n : ℕ) → All (λ x. (i ≤ x) × (x < i + n)) l → sum_up (λ j. times j l) i n ≡ length l
sum-times [] i n h = sum-zero i n
sum-times (x ∷ xs) i n h =
    sum_same (λ j. times j (x ∷ xs)) (λ j. one x j + times j xs) i n (λ j a b. cases (eqb x j) (λ e. rw e (omega arith)) (λ e. rw e (omega arith)))
    ∙ sum-add (one x) (λ j. times j xs) i n
    ∙ omega (arith, sum_one x i n h.0.0 h.0.1, sum-times xs i n h.1)

-- two sums are equal and no term is greater: the terms are equal
pub sum-tight : (f g : ℕ → ℕ) (i n : ℕ) → ((j : ℕ) → i ≤ j → j < i + n → f j ≤ g j) → sum_up f i n ≡ sum_up g i n
    → (j : ℕ) → i ≤ j → j < i + n → f j ≡ g j
sum-tight f g i zero h e j a b = absurd (omega arith)
sum-tight f g i (suc n) h e j a b =
    let low = h i (omega arith) (omega arith) in
    let rest = sum-le f g (suc i) n (λ k p q. h k (omega arith) (omega arith)) in
    cases (eqb i j)
    (λ q. subst (λ (k : ℕ). f k ≡ g k) (eqb-true i j q) (omega arith))
    (λ q. sum-tight f g (suc i) n (λ k p r. h k (omega arith) (omega arith)) (omega arith) j (lt_of_le_of_ne a (eqb-false i j q)) (omega arith))

-- what does not hold of a number keeps it out of a list in which it holds of all
pub none-times : (P : ℕ → Type 0) (l : List ℕ) (x : ℕ) → All P l → (P x → ⊥) → times x l ≡ 0
none-times P [] x h n = refl
none-times P (y ∷ ys) x h n = rw (ne_eqb y x (λ e. n (subst P e h.0))) (none-times P ys x h.1 n)

-- what holds of all holds of a number that is among them
pub all-times : (P : ℕ → Type 0) (l : List ℕ) (x : ℕ) → All P l → 0 < times x l → P x
all-times P [] x h m = absurd (omega arith)
all-times P (y ∷ ys) x h m = cases (eqb y x) (λ e. subst P (eqb-true y x e) h.0) (λ e. all-times P ys x h.1 (rw e at m))
