-- The ticks of a number go by its value; and the value of a bit pattern, by its exponent. Assumes nothing.
use Prim.Native.Nat.{ℕ, zero, suc, ◌+◌, ◌-◌, ◌*◌, ◌/◌, ◌%◌, ◌^◌, ◌<◌}
use mathlib.Core.Path.{◌≡◌, refl, sym, ap, ◌∙◌}
use mathlib.Core.Bool.{Bool, true, false, cond, not, ◌&&◌}
use lib.Dec.{leb, eqb, eqb-suc-zero}
use lib.Pow.{pow_pos, field}
use lib.Ieee.{Float, nan, inf, fin, up, down, odd, binary64, of_bits, of_fields}
use lib.Ieee.Exact.{HasValue, odd_sign}
use lib.Ieee.Fits.{down_pos}
use native.Mathlib.Nat.{mul_right_comm, suc-mul, zero-mul}
use native.Mathlib.Omega.{arith}
use borrow.Author.Tests.{ne_eqb}
use Rattle.delay.specs.Seconds.{refused, within, ticks_of_fraction, ticks_of_value}
use Rattle.delay.proofs.Ceilings.{ceil-same}

-- a numerator is 0 in both of two equal fractions, or in neither
pub same-zero : (a b c d : ℕ) → 0 < b → 0 < d → a * d ≡ c * b → eqb a 0 ≡ eqb c 0
same-zero zero b zero d hb hd e = refl
same-zero zero b (suc c) d hb hd e = absurd (omega (arith, zero-mul d, suc-mul c b))
same-zero (suc a) b zero d hb hd e = absurd (omega (arith, zero-mul b, suc-mul a d))
same-zero (suc a) b (suc c) d hb hd e = eqb-suc-zero a ∙ sym (eqb-suc-zero c)

by_value : (x : Float) (s : Bool) (num den rate : ℕ) → HasValue x s num den → 0 < den → ticks_of_value x rate ≡ ticks_of_fraction s num den rate
unfolding ticks_of_value
by_value nan s num den rate h hd = absurd h
by_value (inf u) s num den rate h hd = absurd h
by_value (fin u m e) s num den rate h hd =
    let same : m * up e * rate * den ≡ num * rate * down e =
    rw (mul_right_comm (m * up e) rate den, h.1, mul_right_comm num (down e) rate) refl in
    rw (h.0, same-zero (m * up e) (down e) num den (down_pos e) hd h.1)
    (ap (λ (n : ℕ). cond (s && not (eqb num 0)) refused (within n)) (ceil-same (m * up e * rate) (down e) (num * rate) den (down_pos e) hd same))

module _ (s : Bool) (digits rate : ℕ) where
  special-by : (z : Bool) → eqb digits 0 ≡ z → ticks_of_value (of_fields binary64 s 2047 digits) rate ≡ refused
  unfolding of_fields ticks_of_value
  special-by true e = simp e
  special-by false e = simp e

  -- an infinity, or what is not a number
  pub special : (exponent : ℕ) → exponent ≡ 2047 → ticks_of_value (of_fields binary64 s exponent digits) rate ≡ refused
  special exponent e = ap (λ (n : ℕ). ticks_of_value (of_fields binary64 s n digits) rate) e ∙ special-by (eqb digits 0) refl

  pub subnormal : (exponent : ℕ) → exponent ≡ 0
      → ticks_of_value (of_fields binary64 s exponent digits) rate ≡ ticks_of_fraction s (digits * 2 ^ 0) (2 ^ 1074) rate
  unfolding of_fields
  subnormal exponent e =
      ap (λ (n : ℕ). ticks_of_value (of_fields binary64 s n digits) rate) e
      ∙ by_value (odd 53 s digits 0 1074) s (digits * 2 ^ 0) (2 ^ 1074) rate (odd_sign 53 s digits 0 1074) (pow_pos 1074)

  pub normal : (exponent : ℕ) → (exponent ≡ 0 → ⊥) → (exponent ≡ 2047 → ⊥)
      → ticks_of_value (of_fields binary64 s exponent digits) rate ≡ ticks_of_fraction s ((4503599627370496 + digits) * 2 ^ (exponent - 1)) (2 ^ 1074) rate
  unfolding of_fields
  normal zero z n = absurd (z refl)
  normal (suc x) z n =
      rw (ne_eqb (suc x) 2047 n)
      (by_value (odd 53 s (4503599627370496 + digits) x 1074) s ((4503599627370496 + digits) * 2 ^ x) (2 ^ 1074) rate
      (odd_sign 53 s (4503599627370496 + digits) x 1074) (pow_pos 1074)
      ∙ ap (λ (m : ℕ). ticks_of_fraction s ((4503599627370496 + digits) * 2 ^ m) (2 ^ 1074) rate) (let z : x ≡ suc x - 1 = omega arith in z))

-- the fields of a pattern, as the code takes them
pub fields : (bits : ℕ) → of_bits binary64 bits ≡ of_fields binary64 (leb 9223372036854775808 bits) (bits / 4503599627370496 % 2048) (bits % 4503599627370496)
unfolding of_bits
fields bits = rw (field bits 11 52) refl
