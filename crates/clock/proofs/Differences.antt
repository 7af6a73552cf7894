-- The difference of two numbers below 2^63 is a signed 64-bit number. Assumes nothing.
use mathlib.Core.Path.{◌≡◌, refl}
use Prim.Native.Nat.{ℕ, zero, suc, ◌<◌, ◌^◌}
use native.Mathlib.Omega.{arith}
use mathlib.Core.Bool.{Bool, true, false}
use lib.IntN.{pos, ◌-ℤ◌, sub_ℕ}
use lib.Signed.{mag}
use lib.Dec.{ltb}
use borrow.Author.Tests.{ltb-true}
use mir.Syntax.{w64}
use mir.Val.{SFits}

small : (a b : ℕ) (t : Bool) → ltb a (suc b) ≡ t → a < 2 ^ 63 → suc b < 2 ^ 63 → mag (sub_ℕ a (suc b)) < 2 ^ 63
small a b true e ha hb = simp e (let h : a < suc b = ltb-true a (suc b) e in omega arith)
small a b false e ha hb = simp e (omega arith)

pub difference-fits : (a b : ℕ) → a < 2 ^ 63 → b < 2 ^ 63 → SFits w64 (pos a -ℤ pos b)
difference-fits a zero ha hb = record { sfits = omega arith }
difference-fits a (suc b) ha hb = record { sfits = small a b (ltb a (suc b)) refl ha hb }
