-- Document 02, item 12: the ticks of a binary64 number of seconds, by its value. Assumes nothing: these are definitions.
use Rattle.std.specs.Prelude.{ℕ, ◌+◌, ◌-◌, ◌*◌, ◌/◌, Bool, cond, not, ◌&&◌, leb, eqb, Float}
use Rattle.std.specs.Float.{nan, inf, fin}
use Rattle.std.specs.Float.Ieee.{up, down}
use Rattle.model.specs.Outcome.{first_number}
use Rattle.model.specs.declared.Status.TheVariants.{InvalidNumber}
use Rattle.model.specs.Status.{number_of}
use Rattle.model.specs.declared.Status.{Status}
use Rattle.std.specs.declared.result.Result.{Result}
use Rattle.answers.specs.Answers.{status_of, answer_of}

-- what comes of a conversion: the status, and the ticks
pub record Conversion : Type 0 where
  pub status : ℕ
  pub ticks : ℕ

-- the conversion with this status and these ticks
abbrev pub conversion : ℕ → ℕ → Conversion
conversion status ticks = record { status = status; ticks = ticks }

-- the status of an answer and its number, which are the ticks
abbrev pub conversion_of : Result ℕ Status → Conversion
conversion_of r = conversion (status_of r) (first_number (answer_of r))

-- so many ticks are given
abbrev pub gives : ℕ → Conversion
gives n = conversion 0 n

-- "is refused with 10", and each refusal answers 0 besides
abbrev pub refused : Conversion
refused = conversion (number_of InvalidNumber) 0

-- the smallest whole number not below a / b (`Smallest`)
unfoldable pub ceil : ℕ → ℕ → ℕ
ceil a b = (a + (b - 1)) / b

-- "more than 4,294,967,295 ticks" is refused
abbrev pub within : ℕ → Conversion
within n = cond (leb n 4294967295) (gives n) refused

-- "the smallest whole number of ticks not below seconds times T, exactly", of a / b seconds with a sign: "below zero" is refused, "both zeros give
-- 0 ticks"
abbrev pub ticks_of_fraction : Bool → ℕ → ℕ → ℕ → Conversion
ticks_of_fraction negative a b rate = cond (negative && not (eqb a 0)) refused (within (ceil (a * rate) b))

-- "Not a number, infinite" are refused; the value of a finite number is m * 2 ^ e, which is the fraction m * up e / down e
unfoldable pub ticks_of_value : Float → ℕ → Conversion
ticks_of_value nan rate = refused
ticks_of_value (inf negative) rate = refused
ticks_of_value (fin negative m e) rate = ticks_of_fraction negative (m * up e) (down e) rate

-- "or, where the conversion is called alone, T outside its limits", 1 to 1,000
unfoldable pub converted : Float → ℕ → Conversion
converted seconds rate = cond (leb 1 rate && leb rate 1000) (ticks_of_value seconds rate) refused
