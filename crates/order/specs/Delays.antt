-- Item 14's "any start" has a start by a delay among them (item 12): on each table that is a fire after or a fire when, and its ticks depend on the table's T
-- alone. So such a line is a call by T. Assumes nothing: these are definitions.
use Rattle.std.specs.Prelude.{◌≡◌, ℕ, true, false, List}
use Rattle.model.specs.Calls.{Call}
use Rattle.model.specs.Words.{ticks_per_second}
use Rattle.model.specs.Outcome.{Outcome, outcome}
use Rattle.order.specs.Order.{on_two_ids, SwapsBy, same_due}

-- what comes of a line that is a call by T
abbrev pub by_rate : List ℕ → (ℕ → Call) → Outcome
by_rate t c = outcome t (c (ticks_per_second t))

-- They "leave the same table and statuses in either order", with the exception of the calls that they are on the table before both.
abbrev pub OrderOfDelays : Type 0
OrderOfDelays = (t : List ℕ) (c d : ℕ → Call) → let rate = ticks_per_second t in on_two_ids (c rate) (d rate) ≡ true
    → same_due t (c rate) (d rate) ≡ false → SwapsBy by_rate t c d

-- Wherever that exception holds, the tables differ.
abbrev pub DelaysShow : Type 0
DelaysShow = (t : List ℕ) (c d : ℕ → Call) → let rate = ticks_per_second t in on_two_ids (c rate) (d rate) ≡ true
    → same_due t (c rate) (d rate) ≡ true → (by_rate (by_rate t c).table d).table ≡ (by_rate (by_rate t d).table c).table → ⊥
