-- Numbers of seconds at both sides of each edge, in a table under a single statement that is computed from the definitions; and what a conversion is in
-- numbers. Assumes nothing.
use mathlib.Core.Path.{◌≡◌, refl}
use Prim.Native.Nat.{ℕ, suc}
use mathlib.Core.Bool.{true, false}
use mathlib.Core.List.{List, [], ◌∷◌, map}
use lib.Ieee.{Float, nan, inf, binary64, round, neg, of_bits, to_bits}
use Rattle.model.specs.declared.Status.TheVariants.{InvalidNumber}
use Rattle.std.specs.declared.result.Result.TheVariants.{Ok, Err}
use Rattle.delay.specs.Seconds.{Conversion, conversion, conversion_of, gives, refused, ceil, ticks_of_value, converted}

-- ---- a conversion in numbers: status and ticks, 0 and 10 as the document has them

pub numbers : (status ticks : ℕ) → conversion status ticks ≡ record { status = status; ticks = ticks }
numbers status ticks = refl

pub gives-ticks : (n : ℕ) → gives n ≡ conversion 0 n
gives-ticks n = refl

pub refused-with-10 : refused ≡ conversion 10 0
refused-with-10 = refl

-- of what the code answers
pub done : (n : ℕ) → conversion_of (Ok n) ≡ conversion 0 n
done n = refl

pub not_done : conversion_of (Err InvalidNumber) ≡ conversion 10 0
not_done = refl

-- ---- both sides of each edge

-- seconds, T, and what the conversion gives
pub record Case : Type 0 where
  pub seconds : Float
  pub rate : ℕ
  pub gives : Conversion

abbrev case : Float → ℕ → Conversion → Case
case seconds rate c = record { seconds = seconds; rate = rate; gives = c }

-- the binary64 number nearest to a / b; the next one above
abbrev nearest_to : ℕ → ℕ → Float
nearest_to a b = round binary64 false a b

abbrev next : Float → Float
next x = of_bits binary64 (suc (to_bits binary64 x))

-- the smallest number above zero
abbrev least : Float
least = of_bits binary64 1

abbrev pub cases : List Case
cases =
    -- the binary64 number nearest to 0.1 lies above it, that nearest to 0.3 below; 0.125 and 1.5 are themselves
    case (nearest_to 1 10) 10 (gives 2)
    ∷ case (nearest_to 1 10) 1000 (gives 101)
    ∷ case (nearest_to 1 10) 1 (gives 1)
    ∷ case (nearest_to 3 10) 10 (gives 3)
    ∷ case (nearest_to 1 8) 1000 (gives 125)
    ∷ case (nearest_to 3 2) 10 (gives 15)
    ∷ case (nearest_to 5 4) 10 (gives 13)
    ∷ case (nearest_to 5 4) 1 (gives 2)
    -- a whole number of ticks, the next number above, and the last one below
    ∷ case (nearest_to 1 1) 1 (gives 1)
    ∷ case (nearest_to 1 1) 1000 (gives 1000)
    ∷ case (next (nearest_to 1 1)) 1 (gives 2)
    ∷ case (next (nearest_to 1 1)) 1000 (gives 1001)
    ∷ case (of_bits binary64 0x3fefffffffffffff) 1000 (gives 1000)
    -- both zeros; the smallest number above zero, the largest that is not normal, and the smallest below
    ∷ case (of_bits binary64 0) 1000 (gives 0)
    ∷ case (of_bits binary64 0x8000000000000000) 1000 (gives 0)
    ∷ case least 1 (gives 1)
    ∷ case least 1000 (gives 1)
    ∷ case (of_bits binary64 0x000fffffffffffff) 1000 (gives 1)
    ∷ case (neg least) 1000 refused
    ∷ case (neg (nearest_to 1 1)) 10 refused
    -- not a number, and both infinities, as such and as bits; the largest number
    ∷ case nan 10 refused
    ∷ case (of_bits binary64 0x7ff8000000000000) 10 refused
    ∷ case (of_bits binary64 0xfff0000000000001) 10 refused
    ∷ case (inf false) 10 refused
    ∷ case (inf true) 10 refused
    ∷ case (of_bits binary64 0x7ff0000000000000) 10 refused
    ∷ case (of_bits binary64 0x7fefffffffffffff) 1 refused
    -- the largest that is taken, and the next number above
    ∷ case (nearest_to 4294967295 1) 1 (gives 4294967295)
    ∷ case (next (nearest_to 4294967295 1)) 1 refused
    ∷ case (nearest_to 4294967295 10) 10 (gives 4294967295)
    ∷ case (next (nearest_to 4294967295 10)) 10 refused
    ∷ case (nearest_to 4294967295 1000) 1000 (gives 4294967295)
    ∷ case (next (nearest_to 4294967295 1000)) 1000 refused
    ∷ case (nearest_to 4294967294 1) 1 (gives 4294967294)
    -- T is 1 to 1,000; outside, a zero is refused too
    ∷ case (nearest_to 1 1) 0 refused
    ∷ case (nearest_to 1 1) 1001 refused
    ∷ case (of_bits binary64 0) 0 refused
    ∷ case (of_bits binary64 0) 1001 refused
    ∷ case (nearest_to 1 1) 4294967295 refused
    ∷ []

pub as_said : map (λ c. converted c.seconds c.rate) cases ≡ map (λ c. c.gives) cases
unfolding round neg of_bits to_bits ceil ticks_of_value converted
as_said = refl
