-- `ceil a b` is the smallest whole number not below a / b; so that of equal fractions it is the same. Assumes nothing.
use Prim.Native.Nat.{ℕ, suc, ◌+◌, ◌-◌, ◌*◌, ◌/◌, ◌≤◌, ◌<◌}
use mathlib.Core.Path.{◌≡◌, sym, ap, ◌∙◌}
use native.Mathlib.Nat.{div-lt_iff_lt-mul, lt-div-mul-add, add-div_right, div-eq_of_lt, le_antisymm}
use native.Mathlib.Nat.{mul-le-mul_right, le_of_mul-le-mul_right, mul_right_comm, suc-mul}
use native.Mathlib.Omega.{arith}
use Rattle.delay.specs.Seconds.{ceil}

-- no whole number below it is not below a / b
pub ceil-least : (a b n : ℕ) → 0 < b → a ≤ n * b → ceil a b ≤ n
unfolding ceil
ceil-least a b n hb h =
    let more : suc n * b ≡ n * b + b = suc-mul n b in
    let below : (a + (b - 1)) / b < suc n = (div-lt_iff_lt-mul hb).1 (rw more (omega arith)) in
    omega arith

-- and it is not below a / b
pub ceil-enough : (a b : ℕ) → 0 < b → a ≤ ceil a b * b
unfolding ceil
ceil-enough a b hb =
    let below : a + (b - 1) < (a + (b - 1)) / b * b + b = lt-div-mul-add hb in
    omega arith

cross-le : (a b c d : ℕ) → 0 < b → 0 < d → a * d ≡ c * b → ceil a b ≤ ceil c d
cross-le a b c d hb hd e =
    ceil-least a b (ceil c d) hb (le_of_mul-le-mul_right {k = d} (rw (e, mul_right_comm (ceil c d) b d) (mul-le-mul_right b (ceil-enough c d hd))) hd)

-- a / b and c / d are equal fractions
pub ceil-same : (a b c d : ℕ) → 0 < b → 0 < d → a * d ≡ c * b → ceil a b ≡ ceil c d
ceil-same a b c d hb hd e = le_antisymm (cross-le a b c d hb hd e) (cross-le c d a b hd hb (sym e))

pub ceil-none : (a b : ℕ) → a ≡ 0 → 0 < b → ceil a b ≡ 0
unfolding ceil
ceil-none a b e hb = let below : a + (b - 1) < b = omega arith in div-eq_of_lt below

-- as the code works it out
pub ceil-some : (a b : ℕ) → 0 < a → 0 < b → ceil a b ≡ (a - 1) / b + 1
unfolding ceil
ceil-some a b ha hb =
    let sum : a + (b - 1) ≡ a - 1 + b = omega arith in
    ap (λ (n : ℕ). n / b) sum ∙ add-div_right (a - 1) hb
