-- `delay::ticks_of_fraction` meets its contract, case by case: the product of the digits and T has at most 63 bits, so that more than 63 places leave less
-- than a tick. Assumes nothing.
use Prim.Native.Nat.{◌*◌, ◌-◌, ◌^◌, ◌<◌}
use native.Mathlib.Omega.{arith}
use Rattle.delay.proofs.Fractions.{is_zero, is-large, is_one, is_some, is-too-many, product-below}
use Rattle.delay.proofs.ticks_of_fraction.Goals as goal
use Rattle.delay.proofs.ticks_of_fraction.Goals.{Start}

below : (c : Start) → c.args.digits * c.args.rate < 2 ^ 63
below c = product-below c.args.digits c.args.rate c.requires.0 c.requires.1

pub returns-then-digits-eq0 : goal.returns-then-digits-eq0
returns-then-digits-eq0 c = let a = c.args in is_zero a.negative a.digits a.scale a.rate 1074 c.if-digits-eq0.true

pub returns-then-scale-gt-PLACES : goal.returns-then-scale-gt-PLACES
returns-then-scale-gt-PLACES c =
    let a = c.args in
    is-large a.negative a.digits a.scale a.rate 1074 c.if-digits-eq0.false c.if-negative.false c.requires.2 (omega arith)
    (omega (arith, c.requires.3 (omega arith)))

pub returns-then-shift-gt-PRODUCT_BITS : goal.returns-then-shift-gt-PRODUCT_BITS
returns-then-shift-gt-PRODUCT_BITS c =
    let a = c.args in
    is_one a.negative a.digits a.scale a.rate 1074 c.if-digits-eq0.false c.if-negative.false c.requires.2
    (1074 - a.scale) (omega arith) (below (goal.at.returns-then-shift-gt-PRODUCT_BITS c).Start) (omega arith)

pub returns-then-ticks-gt-MOST_TICKS : goal.returns-then-ticks-gt-MOST_TICKS
returns-then-ticks-gt-MOST_TICKS c =
    let a = c.args in
    is-too-many a.negative a.digits a.scale a.rate 1074 c.if-digits-eq0.false c.if-negative.false
    c.requires.2 (1074 - a.scale) (omega arith) (rw c.from.ensures at c.if-ticks-gt-MOST_TICKS.true)

pub returns : goal.returns
returns c =
    let a = c.args in
    rw c.from.ensures
    (is_some a.negative a.digits a.scale a.rate 1074 c.if-digits-eq0.false c.if-negative.false
    c.requires.2 (1074 - a.scale) (omega arith) (rw c.from.ensures at c.if-ticks-gt-MOST_TICKS.false))
