-- The exception of item 14 as an editor can test it before either line runs: from the two lines and the table on which they are to run. Assumes nothing:
-- these are definitions.
use Rattle.std.specs.Prelude.{◌≡◌, ℕ, Bool, true, false, cond, ◌&&◌, List, eqb}
use Rattle.std.proofs.Math.Option.{Option, none, some}
use Rattle.calendar.specs.Calendar.{seconds_of}
use Rattle.model.specs.Calls.{Call, lay_out, create, ident, cancel, delete, fire_after, fire_when, fire_every, reset, ticks_left, tick, set_clock, get_clock, next_due, initiate_server, server_fire_after, server_fire_when, serve, leap}
use Rattle.model.specs.declared.Chain.{Chain}
use Rattle.model.specs.declared.Chain.TheVariants.{ByTicks, ByDate}
use Rattle.model.specs.Kinds.{same_chain, chain_for, last_mode}
use Rattle.model.specs.State.{State, slot_at, index_of}
use Rattle.model.specs.Words.{read}
use Rattle.model.specs.Outcome.{outcome}
use Rattle.order.specs.Order.{on_two_ids, same_due}

-- when a timer is due, by the chain that it waits in: in so many ticks, or at a date
pub record Deadline : Type 0 where
  pub chain : Chain
  pub number : ℕ

abbrev pub due : Chain → ℕ → Option Deadline
due k n = some (record { chain = k; number = n })

-- when the timer that an accepted call starts is due: a reset takes the stored ticks
abbrev pub deadline_of : State → Call → Option Deadline
deadline_of s (lay_out n t split) = none
deadline_of s (create party name) = none
deadline_of s (ident party name) = none
deadline_of s (cancel party id) = none
deadline_of s (delete party id) = none
deadline_of s (fire_after party id n r u) = due ByTicks n
deadline_of s (fire_when party id w r u) = due ByDate (seconds_of w)
deadline_of s (fire_every party id n r u) = due ByTicks n
deadline_of s (reset party id) = let x = slot_at s.slots (index_of id) in due (chain_for (last_mode x.kind)) x.interval
deadline_of s (ticks_left party id) = none
deadline_of s (tick list) = none
deadline_of s (set_clock w list) = none
deadline_of s get_clock = none
deadline_of s next_due = none
deadline_of s initiate_server = none
deadline_of s (server_fire_after party id n r u) = due ByTicks n
deadline_of s (server_fire_when party id w r u) = due ByDate (seconds_of w)
deadline_of s (serve party list) = none
deadline_of s (leap k list) = none

-- a refused call starts no timer
abbrev pub deadline_on : List ℕ → Call → Option Deadline
deadline_on t c = cond (eqb (outcome t c).status 0) (deadline_of (read t) c) none

-- both start a timer, due at the same tick or date
abbrev pub same_deadline : Option Deadline → Option Deadline → Bool
same_deadline none b = false
same_deadline (some x) none = false
same_deadline (some x) (some y) = same_chain x.chain y.chain && eqb x.number y.number

-- The exception is known before: it holds just where the two lines, each on the table before both, start timers with the same deadline.
abbrev pub KnownBefore : Type 0
KnownBefore = (t : List ℕ) (c d : Call) → on_two_ids c d ≡ true → same_due t c d ≡ same_deadline (deadline_on t c) (deadline_on t d)
