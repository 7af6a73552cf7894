-- Searches over the words of the slots, as this crate's functions promise them. Assumes nothing: these are definitions.
use Rattle.std.specs.Prelude.{ℕ, zero, suc, ◌-◌, cond, List, Option, Some, None, eqb}
use Rattle.model.specs.Parties.{first_own, last_own}
use Rattle.model.specs.State.{index_of, names_own}
use Rattle.model.specs.Words.{field, read, slot_count, party_split}

-- the slot that a search of the model or of this file gives, as the code answers it: 0 is none
abbrev pub some_slot : ℕ → Option ℕ
some_slot zero = None
some_slot (suc n) = Some (suc n)

-- the lowest of m slots from i on whose word f is v; 0 if there is none
unfoldable pub lowest_with : List ℕ → ℕ → ℕ → ℕ → ℕ → ℕ
lowest_with t f v i zero = 0
lowest_with t f v i (suc m) = cond (eqb (field t i f) v) i (lowest_with t f v (suc i) m)

-- the lowest slot, of those from i to n, whose word f is v; 0 if there is none
unfoldable pub lowest_in : List ℕ → ℕ → ℕ → ℕ → ℕ → ℕ
lowest_in t f v i n = lowest_with t f v i (suc n - i)

-- the lowest slot of the party whose word f is v; 0 if it has none
abbrev pub lowest_own : List ℕ → ℕ → ℕ → ℕ → ℕ
lowest_own t party f v = lowest_in t f v (first_own (party_split t) party) (last_own (party_split t) (slot_count t) party)

-- the slot of the party's timer that an id names; 0 if it names none
unfoldable pub named_slot : List ℕ → ℕ → ℕ → ℕ
named_slot t party id = cond (names_own (read t) party id) (index_of id) 0
