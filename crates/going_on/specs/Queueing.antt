-- How a server timer that is due goes to the back of the queue, as the functions of this crate promise it. Assumes nothing: these are
-- definitions.
use Rattle.std.specs.Prelude.{◌≡◌, ℕ, ◌≤◌, true, List}
use Rattle.model.specs.declared.Chain.{Chain}
use Rattle.model.specs.declared.Chain.TheVariants.{ByTicks, Queue}
use Rattle.model.specs.Kinds.{waits_in}
use Rattle.model.specs.State.{State, slot_at}
use Rattle.model.specs.Directives.{stopped, fired, inserted}
use Rattle.model.specs.Words.{read, kind_of, wait_of, previous_of}
use Rattle.links.specs.Places.{last_slot, IsSlot}

-- the timer of slot i fired, and is the last of the queue
abbrev pub queued : State → ℕ → State
queued s i = inserted Queue (stopped s i (fired (slot_at s.slots i))) i 0

-- slot i, of that kind, is a server timer's, the first of chain k and due, and slot `end` the last of the queue, 0 where that is empty
pub record Queues (k : Chain) (t : List ℕ) (i kind end : ℕ) : Type 0 where
  pub slot : IsSlot t i
  pub is : kind ≡ kind_of t i
  pub waits : waits_in k kind ≡ true
  pub low : 10 ≤ kind
  pub high : kind ≤ 11
  pub first : previous_of t i ≡ 0
  pub due : k ≡ ByTicks → wait_of t i ≡ 0
  pub last : end ≡ last_slot 0 (read t).queue
