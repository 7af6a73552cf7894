-- The ticks of q * 2 ^ k / 2 ^ n seconds, case by case as the code has them. Assumes nothing.
use Prim.Native.Nat.{ℕ, ◌+◌, ◌-◌, ◌*◌, ◌/◌, ◌^◌, ◌≤◌, ◌<◌}
use mathlib.Core.Path.{◌≡◌, refl, sym, ap, ◌∙◌}
use mathlib.Core.Bool.{Bool, true, false, cond, ◌&&◌}
use lib.Dec.{eqb}
use lib.Pow.{pow-add, pow_pos, pow_mono}
use native.Mathlib.Nat.{div-eq_of_lt, mul-le-mul_left, le_of_mul-le-mul_right, mul_assoc, mul_right_comm, mul-one, zero-mul}
use native.Mathlib.Omega.{arith}
use borrow.Author.Tests.{le-leb, lt-leb, eq-eqb, ne_eqb}
use Rattle.delay.specs.Seconds.{gives, refused, ceil, within, ticks_of_fraction}
use Rattle.delay.proofs.Ceilings.{ceil-enough, ceil-same, ceil-none, ceil-some}
use Rattle.delay.proofs.Values.{same-zero}

pub product-pos : (q rate : ℕ) → (q ≡ 0 → ⊥) → 1 ≤ rate → 0 < q * rate
product-pos q rate n h = let l : q * 1 ≤ q * rate = mul-le-mul_left q h in omega (arith, mul-one q)

pub product-below : (q rate : ℕ) → q < 2 ^ 53 → rate ≤ 1000 → q * rate < 2 ^ 63
product-below q rate h k = let l : q * rate ≤ q * 1000 = mul-le-mul_left q k in omega arith

module _ (s : Bool) (q k rate n : ℕ) where
  zero_is : eqb (q * 2 ^ k) 0 ≡ eqb q 0
  zero_is = same-zero (q * 2 ^ k) (2 ^ k) q 1 (pow_pos k) (omega arith) (mul-one (q * 2 ^ k))

  -- both zeros
  pub is_zero : q ≡ 0 → gives 0 ≡ ticks_of_fraction s (q * 2 ^ k) (2 ^ n) rate
  is_zero e =
      let none : q * 2 ^ k * rate ≡ 0 = ap (λ (m : ℕ). m * 2 ^ k * rate) e ∙ ap (λ (m : ℕ). m * rate) (zero-mul (2 ^ k)) ∙ zero-mul rate in
      sym (rw (zero_is, eq-eqb q 0 e, ceil-none (q * 2 ^ k * rate) (2 ^ n) none (pow_pos n)) (and_no s))
    where
      and_no : (s : Bool) → cond (s && false) refused (gives 0) ≡ gives 0
      and_no true = refl
      and_no false = refl

  module _ (some : q ≡ 0 → ⊥) where
    -- below zero
    pub is_negative : s ≡ true → refused ≡ ticks_of_fraction s (q * 2 ^ k) (2 ^ n) rate
    is_negative e = sym (simp (e, zero_is, ne_eqb q 0 some))

    module _ (plus : s ≡ false) (rated : 1 ≤ rate) where
      is_within : ticks_of_fraction s (q * 2 ^ k) (2 ^ n) rate ≡ within (ceil (q * 2 ^ k * rate) (2 ^ n))
      is_within = simp plus

      smaller : (j : ℕ) → k + j ≡ n → ceil (q * 2 ^ k * rate) (2 ^ n) ≡ ceil (q * rate) (2 ^ j)
      smaller j e =
          ceil-same (q * 2 ^ k * rate) (2 ^ n) (q * rate) (2 ^ j) (pow_pos n) (pow_pos j)
          (mul_right_comm (q * 2 ^ k) rate (2 ^ j)
          ∙ ap (λ (m : ℕ). m * rate) (mul_assoc q (2 ^ k) (2 ^ j) ∙ ap (λ (m : ℕ). q * m) (sym (pow-add 2 k j) ∙ ap (λ (m : ℕ). 2 ^ m) e))
          ∙ mul_right_comm q (2 ^ n) rate)

      is-ticks : (j : ℕ) → k + j ≡ n → ticks_of_fraction s (q * 2 ^ k) (2 ^ n) rate ≡ within ((q * rate - 1) / 2 ^ j + 1)
      is-ticks j e = is_within ∙ ap within (smaller j e ∙ ceil-some (q * rate) (2 ^ j) (product-pos q rate some rated) (pow_pos j))

      -- q seconds or more
      pub is-large : n ≤ k → 4294967296 ≤ q → refused ≡ ticks_of_fraction s (q * 2 ^ k) (2 ^ n) rate
      is-large h l =
          let up : q * 2 ^ n ≤ q * 2 ^ k = mul-le-mul_left q (pow_mono h) in
          let times : q * 2 ^ k * 1 ≤ q * 2 ^ k * rate = mul-le-mul_left (q * 2 ^ k) rated in
          let enough = ceil-enough (q * 2 ^ k * rate) (2 ^ n) (pow_pos n) in
          let least : q ≤ ceil (q * 2 ^ k * rate) (2 ^ n) = le_of_mul-le-mul_right {k = 2 ^ n} (omega (arith, mul-one (q * 2 ^ k))) (pow_pos n) in
          sym (is_within ∙ simp (lt-leb (ceil (q * 2 ^ k * rate) (2 ^ n)) 4294967295 (omega arith)))

      -- less than a tick
      pub is_one : (j : ℕ) → k + j ≡ n → q * rate < 2 ^ 63 → 63 ≤ j → gives 1 ≡ ticks_of_fraction s (q * 2 ^ k) (2 ^ n) rate
      is_one j e small far =
          let none : (q * rate - 1) / 2 ^ j ≡ 0 = div-eq_of_lt (omega (arith, pow_mono far)) in
          sym (is-ticks j e ∙ simp none)

      pub is_some : (j : ℕ) → k + j ≡ n → (q * rate - 1) / 2 ^ j + 1 ≤ 4294967295
          → gives ((q * rate - 1) / 2 ^ j + 1) ≡ ticks_of_fraction s (q * 2 ^ k) (2 ^ n) rate
      is_some j e h = sym (is-ticks j e ∙ simp (le-leb ((q * rate - 1) / 2 ^ j + 1) 4294967295 h))

      pub is-too-many : (j : ℕ) → k + j ≡ n → 4294967295 < (q * rate - 1) / 2 ^ j + 1 → refused ≡ ticks_of_fraction s (q * 2 ^ k) (2 ^ n) rate
      is-too-many j e h = sym (is-ticks j e ∙ simp (lt-leb ((q * rate - 1) / 2 ^ j + 1) 4294967295 h))
