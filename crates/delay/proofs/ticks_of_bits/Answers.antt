-- `delay::ticks_of_bits` meets its contract: the fields are those of the format, and each kind of exponent has its value. Assumes nothing.
use mathlib.Core.Path.{◌≡◌, sym, ap, ◌∙◌}
use Prim.Native.Nat.{◌/◌, ◌%◌}
use lib.Dec.{leb}
use lib.Ieee.{Float, binary64, of_bits, of_fields}
use Rattle.delay.specs.Seconds.{ticks_of_value}
use Rattle.delay.proofs.Values.{fields, special, subnormal, normal}
use Rattle.delay.proofs.ticks_of_bits.Goals as goal
use Rattle.delay.proofs.ticks_of_bits.Goals.{Start}

by-fields : (c : Start)
    → let a = c.args in
    ticks_of_value (of_bits binary64 a.bits) a.rate
    ≡ ticks_of_value (of_fields binary64 (leb 9223372036854775808 a.bits) (a.bits / 4503599627370496 % 2048) (a.bits % 4503599627370496)) a.rate
by-fields c = ap (λ (x : Float). ticks_of_value x c.args.rate) (fields c.args.bits)

pub returns-then-exponent-eq-SPECIAL : goal.returns-then-exponent-eq-SPECIAL
returns-then-exponent-eq-SPECIAL c = sym (by-fields (goal.at.returns-then-exponent-eq-SPECIAL c).Start ∙ special _ _ _ _ c.if-exponent-eq-SPECIAL.true)

pub returns-then-exponent-eq0 : goal.returns-then-exponent-eq0
returns-then-exponent-eq0 c = c.ticks_of_fraction.ensures ∙ sym (by-fields (goal.at.returns-then-exponent-eq0 c).Start ∙ subnormal _ _ _ _ c.if-exponent-eq0.true)

pub returns : goal.returns
returns c =
    c.ticks_of_fraction-2.ensures
    ∙ sym (by-fields (goal.at.returns c).Start ∙ normal _ _ _ _ c.if-exponent-eq0.false c.if-exponent-eq-SPECIAL.false)
