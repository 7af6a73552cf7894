-- `delay::seconds_to_ticks` meets its contract: what is not a number is refused, and any other is the number of its bits. Assumes nothing.
use mathlib.Core.Path.{sym, ap, ◌∙◌, subst}
use lib.Dec.{T}
use lib.Ieee.{Float, binary64}
use lib.Ieee.Bits.{of_bits-to_bits}
use Rattle.delay.specs.Seconds.{refused, conversion_of, ticks_of_value}
use Rattle.delay.proofs.Conversions.{rate-low, rate-within, rate-high, no_number}
use Rattle.delay.proofs.Exactness.{exactly}
use Rattle.delay.proofs.seconds_to_ticks.Goals as goal

pub returns-then-rate-lt1 : goal.returns-then-rate-lt1
returns-then-rate-lt1 c =
    let e = exactly _ _ refused (rate-low _ _ c.if-rate-lt1.true) in
    record { outcome = e.0; exact = e.1 }

pub returns-then-rate-gt-MOST_RATE : goal.returns-then-rate-gt-MOST_RATE
returns-then-rate-gt-MOST_RATE c =
    let e = exactly _ _ refused (rate-high _ _ c.if-rate-lt1.false c.if-rate-gt-MOST_RATE.true) in
    record { outcome = e.0; exact = e.1 }

pub returns-then-is_nan : goal.returns-then-is_nan
returns-then-is_nan c =
    let e = exactly _ _ refused (no_number _ _ (sym c.if-is_nan.ensures.value) ∙ rate-within _ _ c.if-rate-lt1.false c.if-rate-gt-MOST_RATE.false) in
    record { outcome = e.0; exact = e.1 }

pub returns : goal.returns
returns c =
    let a = c.args in
    let e =
    exactly a.seconds a.rate (conversion_of c.ticks_of_bits.result)
    (c.ticks_of_bits.ensures
    ∙ ap (λ (y : Float). ticks_of_value y a.rate) (of_bits-to_bits binary64 a.seconds (subst T (sym c.well_formed.0.1) tt))
    ∙ rate-within a.seconds a.rate c.if-rate-lt1.false c.if-rate-gt-MOST_RATE.false) in
    record { outcome = e.0; exact = e.1 }
