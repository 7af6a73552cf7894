-- Document 02, item 4, of next due: on every sound table it answers the least ticks left over all waiting interval timers, 0 if none; and on any slice of
-- words it reads only the header and one slot, and changes nothing. Assumes nothing: these are definitions.
use Rattle.std.specs.Prelude.{◌≡◌, ℕ, zero, suc, ◌+◌, ◌≤◌, true, List, [], ◌∷◌, map, length}
use Rattle.model.specs.Lists.{keep, least}
use Rattle.model.specs.Calls.{ticks_left, next_due}
use Rattle.model.specs.Kinds.{ByTicks, waits_in}
use Rattle.model.specs.Parties.{owner_of}
use Rattle.model.specs.State.{id_base}
use Rattle.model.specs.Words.{slot_count, first_ticking, party_split, kind_of, wait_of}
use Rattle.model.specs.Sound.{sound}
use Rattle.model.specs.Outcome.{outcome_of, outcome, first_number}

-- n slots from i on
abbrev pub slots_up : ℕ → ℕ → List ℕ
slots_up i zero = []
slots_up i (suc n) = i ∷ slots_up (suc i) n

-- the slots whose timers wait for ticks
abbrev pub waiting_for_ticks : List ℕ → List ℕ
waiting_for_ticks t = keep (λ i. waits_in ByTicks (kind_of t i)) (slots_up 1 (slot_count t))

-- what ticks left answers the party that has slot i, for its timer
abbrev pub ticks_left_of : List ℕ → ℕ → ℕ
ticks_left_of t i = first_number (outcome t (ticks_left (owner_of (party_split t) i) (id_base + i))).answer

abbrev pub NextDueIsLeast : Type 0
NextDueIsLeast = (t : List ℕ) → sound t ≡ true → outcome t next_due ≡ outcome_of 0 (least (map (ticks_left_of t) (waiting_for_ticks t)) ∷ []) t []

-- the two slices are as long as one another, and have the same words 0 and 5, and in the slot that word 5 names, if there is one, the same kind and wait
pub record SameFirst (t u : List ℕ) : Type 0 where
  pub long : length t ≡ length u
  pub count : slot_count t ≡ slot_count u
  pub head : first_ticking t ≡ first_ticking u
  pub kind : 1 ≤ first_ticking t → first_ticking t ≤ slot_count t → kind_of t (first_ticking t) ≡ kind_of u (first_ticking u)
  pub wait : 1 ≤ first_ticking t → first_ticking t ≤ slot_count t → wait_of t (first_ticking t) ≡ wait_of u (first_ticking u)

abbrev pub NextDueReadsOneSlot : Type 0
NextDueReadsOneSlot = (t u : List ℕ) → SameFirst t u
    → ((outcome t next_due).status ≡ (outcome u next_due).status) × ((outcome t next_due).answer ≡ (outcome u next_due).answer)
    × ((outcome t next_due).table ≡ t) × ((outcome t next_due).list ≡ [])
