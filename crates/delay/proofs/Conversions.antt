-- Which numbers and which T a conversion refuses, rule by rule as the code has them; and a refusal has no ticks. Assumes nothing.
use Prim.Native.Nat.{ℕ, ◌*◌, ◌≤◌, ◌<◌}
use mathlib.Core.Path.{◌≡◌, refl, sym}
use mathlib.Core.Bool.{true, false, not, ◌&&◌}
use lib.Dec.{leb, eqb}
use lib.Ieee.{Float, nan, inf, fin, up, down, is_nan}
use borrow.Author.Tests.{le-leb, lt-leb}
use Rattle.laws.proofs.ListLaws.{cases, clash}
use Rattle.delay.specs.Seconds.{refused, ceil, within, ticks_of_value, converted}

module _ (x : Float) (rate : ℕ) where
  pub rate-low : rate < 1 → refused ≡ converted x rate
  unfolding converted
  rate-low h = sym (simp (lt-leb 1 rate h))

  pub rate-within : 1 ≤ rate → rate ≤ 1000 → ticks_of_value x rate ≡ converted x rate
  unfolding converted
  rate-within h k = sym (simp (le-leb 1 rate h, le-leb rate 1000 k))

  pub rate-high : 1 ≤ rate → 1000 < rate → refused ≡ converted x rate
  unfolding converted
  rate-high h k = sym (simp (le-leb 1 rate h, lt-leb rate 1000 k))

-- ---- what is not a number

nan-refused : (rate : ℕ) → ticks_of_value nan rate ≡ refused
unfolding ticks_of_value
nan-refused rate = refl

pub no_number : (x : Float) (rate : ℕ) → is_nan x ≡ true → refused ≡ ticks_of_value x rate
unfolding is_nan
no_number nan rate h = sym (nan-refused rate)
no_number (inf s) rate h = clash (sym h)
no_number (fin s m e) rate h = clash (sym h)

-- ---- a refusal has no ticks

within-refused : (n : ℕ) → eqb (within n).status 0 ≡ false → within n ≡ refused
within-refused n none = cases (leb n 4294967295) (λ f. clash (rw f at none)) (λ f. rw f)

value-refused : (x : Float) (rate : ℕ) → eqb (ticks_of_value x rate).status 0 ≡ false → ticks_of_value x rate ≡ refused
unfolding ticks_of_value
value-refused nan rate none = refl
value-refused (inf s) rate none = refl
value-refused (fin s m e) rate none =
    cases (s && not (eqb (m * up e) 0)) (λ f. rw f) (λ f. rw f (within-refused (ceil (m * up e * rate) (down e)) (rw f at none)))

pub no-ticks : (x : Float) (rate : ℕ) → eqb (converted x rate).status 0 ≡ false → converted x rate ≡ refused
unfolding converted
no-ticks x rate none = cases (leb 1 rate && leb rate 1000) (λ f. rw f (value-refused x rate (rw f at none))) (λ f. rw f)
