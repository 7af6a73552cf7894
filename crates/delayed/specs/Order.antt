-- Document 02, item 14, of lines with starts by a delay among them: two lines on two different ids "leave the same table and statuses in either order", with
-- the exception of the calls that they are on the table before both; and that it is no wider than it has to be. Assumes nothing: these are definitions.
use Rattle.std.specs.Prelude.{◌≡◌, ℕ, Bool, true, false, List}
use Rattle.order.specs.Order.{on_two_ids, SwapsBy, same_due}
use Rattle.delayed.specs.Lines.{Line, outcome_on, as_call}

-- "on two different ids"
abbrev pub lines_on_two_ids : List ℕ → Line → Line → Bool
lines_on_two_ids t k l = on_two_ids (as_call t k) (as_call t l)

-- "where both start timers that then stand due at the same tick, or at the same date"
abbrev pub lines_same_due : List ℕ → Line → Line → Bool
lines_same_due t k l = same_due t (as_call t k) (as_call t l)

-- every slice of words, sound or not, and every two lines
abbrev pub OrderOfStarts : Type 0
OrderOfStarts = (t : List ℕ) (k l : Line) → lines_on_two_ids t k l ≡ true → lines_same_due t k l ≡ false → SwapsBy outcome_on t k l

-- Wherever the exception holds, the tables differ.
abbrev pub StartsShow : Type 0
StartsShow = (t : List ℕ) (k l : Line) → lines_on_two_ids t k l ≡ true → lines_same_due t k l ≡ true
    → (outcome_on (outcome_on t k).table l).table ≡ (outcome_on (outcome_on t l).table k).table → ⊥
