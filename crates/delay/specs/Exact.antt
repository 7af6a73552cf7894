-- Document 02, item 12: what a conversion says of the number, with no word of how the ticks are worked out. Assumes nothing: these are definitions.
use Rattle.std.specs.Prelude.{ℕ, ◌*◌, ◌≤◌, true, ◌≡◌, Float}
use Rattle.std.specs.Float.{nan, inf, fin}
use Rattle.std.specs.Float.Ieee.{up, down}
use Rattle.delay.specs.Seconds.{Conversion, gives, refused}

-- n is "the smallest whole number of ticks not below seconds times T", of a / b seconds
pub record Smallest (a b rate n : ℕ) : Type 0 where
  pub enough : a * rate ≤ n * b
  pub least : (m : ℕ) → a * rate ≤ m * b → n ≤ m

-- the same of a number; of none that is "not a number, infinite, below zero". Zero may have a sign.
abbrev pub TicksOf : Float → ℕ → ℕ → Type 0
TicksOf nan rate n = ⊥
TicksOf (inf negative) rate n = ⊥
TicksOf (fin negative m e) rate n = (negative ≡ true → m ≡ 0) × Smallest (m * up e) (down e) rate n

-- the number has n ticks, no "more than 4,294,967,295", and T is within "its limits"
pub record Taken (seconds : Float) (rate n : ℕ) : Type 0 where
  pub has : TicksOf seconds rate n
  pub few : n ≤ 4294967295
  pub low : 1 ≤ rate
  pub high : rate ≤ 1000

-- What is taken gives its ticks; what is not taken, for no number of ticks, is refused with 10.
pub record Exact (seconds : Float) (rate : ℕ) (c : Conversion) : Type 0 where
  pub takes : (n : ℕ) → Taken seconds rate n → c ≡ gives n
  pub refuses : ((n : ℕ) → Taken seconds rate n → ⊥) → c ≡ refused
