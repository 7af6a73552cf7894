-- A number below zero: with one added it fits, and what that is below zero fits, one less than how far the number is from zero. Assumes nothing.
use mathlib.Core.Path.{◌≡◌, refl, sym, ap}
use Prim.Native.Nat.{ℕ, zero, suc, ◌+◌, ◌<◌, ◌^◌}
use native.Mathlib.Omega.{arith}
use mathlib.Core.Bool.{true, false}
use lib.IntN.{ℤ, pos, negsuc, nat_abs, ◌+ℤ◌, ◌-ℤ◌}
use lib.Signed.{mag, lt_z, non_neg}
use lib.Dec.{T, ltb}
use Rattle.laws.proofs.ListLaws.{clash}
use borrow.Author.Tests.{ltb-true, lt-ltb}
use mir.Syntax.{w64}
use mir.Val.{Fits, SFits}

one_more : (n : ℕ) → negsuc (suc n) +ℤ pos 1 ≡ negsuc n
one_more n = rw (lt-ltb 1 (suc (suc n)) (omega arith)) (ap negsuc (omega arith))

pub next_fits : (z : ℤ) → SFits w64 z → lt_z z (pos 0) ≡ true → SFits w64 (z +ℤ pos 1)
next_fits (pos a) f e = absurd (omega (arith, ltb-true a 0 e))
next_fits (negsuc zero) f e = record { sfits = omega arith }
next_fits (negsuc (suc n)) f e = rw (one_more n) (record { sfits = omega (arith, f.sfits) })

-- turned round
pub turned : (z : ℤ) → lt_z z (pos 0) ≡ true → pos 0 -ℤ (z +ℤ pos 1) ≡ pos (mag z)
turned (pos a) e = absurd (omega (arith, ltb-true a 0 e))
turned (negsuc zero) e = refl
turned (negsuc (suc n)) e = rw (one_more n) (ap pos (omega arith))

pub far : (z : ℤ) → lt_z z (pos 0) ≡ true → mag z + 1 ≡ nat_abs z
far (pos a) e = absurd (omega (arith, ltb-true a 0 e))
far (negsuc n) e = omega arith

-- ---- not below zero

pub not-below : (z : ℤ) → SFits w64 z → lt_z z (pos 0) ≡ false → T (non_neg z) × Fits w64 (nat_abs z)
not-below (pos a) f e = (tt, record { fits = omega (arith, f.sfits) })
not-below (negsuc n) f e = clash e
