-- Document 02, item 14: "two calls out of any start, reset, cancel and delete, on two different ids, leave the same table and statuses in either order,
-- except where both start timers that then stand due at the same tick, or at the same date". That is `OrderOfLines`; `OrderShows` says that the exception
-- is no wider than it has to be. Assumes nothing: these are definitions.
use Rattle.std.specs.Prelude.{◌≡◌, ℕ, Bool, true, false, not, ◌&&◌, ◌||◌, List, [], ◌∷◌, eqb}
use Rattle.calendar.specs.Calendar.{all_of}
use Rattle.model.specs.Calls.{Call, lay_out, create, ident, cancel, delete, fire_after, fire_when, fire_every, reset, ticks_left, tick, set_clock, get_clock, next_due, initiate_server, server_fire_after, server_fire_when, serve, leap}
use Rattle.model.specs.declared.Chain.{Chain}
use Rattle.model.specs.declared.Chain.TheVariants.{ByTicks, ByDate}
use Rattle.model.specs.Kinds.{waits_in}
use Rattle.model.specs.State.{State, chain_of, slot_at, wait_at, index_of}
use Rattle.model.specs.Words.{read}
use Rattle.model.specs.Outcome.{Outcome, outcome}

-- what a call does as a line of a script: whether it starts or stops a timer, and the id of that
pub record Role : Type 0 where
  pub starts : Bool
  pub stops : Bool
  pub id : ℕ

abbrev pub starting : ℕ → Role
starting id = record { starts = true; stops = false; id = id }

abbrev pub stopping : ℕ → Role
stopping id = record { starts = false; stops = true; id = id }

abbrev pub neither : Role
neither = record { starts = false; stops = false; id = 0 }

-- "any start, reset, cancel and delete", of either party
abbrev pub line_of : Call → Role
line_of (lay_out n t split) = neither
line_of (create party name) = neither
line_of (ident party name) = neither
line_of (cancel party id) = stopping id
line_of (delete party id) = stopping id
line_of (fire_after party id n r u) = starting id
line_of (fire_when party id w r u) = starting id
line_of (fire_every party id n r u) = starting id
line_of (reset party id) = starting id
line_of (ticks_left party id) = neither
line_of (tick list) = neither
line_of (set_clock w list) = neither
line_of get_clock = neither
line_of next_due = neither
line_of initiate_server = neither
line_of (server_fire_after party id n r u) = starting id
line_of (server_fire_when party id w r u) = starting id
line_of (serve party list) = neither
line_of (leap k list) = neither

-- "two calls out of [these], on two different ids"
abbrev pub changes_timer : Call → Bool
changes_timer c = (line_of c).starts || (line_of c).stops

abbrev pub on_two_ids : Call → Call → Bool
on_two_ids c d = all_of (changes_timer c ∷ changes_timer d ∷ not (eqb (line_of c).id (line_of d).id) ∷ [])

-- the table that c and then d leave
abbrev pub left_by : List ℕ → Call → Call → List ℕ
left_by t c d = (outcome (outcome t c).table d).table

-- "leave the same table and statuses in either order", of two lines of any kind by what comes of a line
pub record SwapsBy {L : Type 0} (on : List ℕ → L → Outcome) (t : List ℕ) (c d : L) : Type 0 where
  pub tables : (on (on t c).table d).table ≡ (on (on t d).table c).table
  pub first-status : (on t c).status ≡ (on (on t d).table c).status
  pub second-status : (on (on t c).table d).status ≡ (on t d).status

-- of two calls
abbrev pub Swaps : List ℕ → Call → Call → Type 0
Swaps t c d = SwapsBy outcome t c d

-- "start timers": the start or reset is accepted
abbrev pub starts_timer : List ℕ → Call → Bool
starts_timer t c = (line_of c).starts && eqb (outcome t c).status 0

-- "stand due at the same" tick, in the interval chain, or date, in the dated one: both ids' timers wait there, with equal ticks left or dates
abbrev pub stands_in : Chain → State → ℕ → Bool
stands_in k s id = waits_in k (slot_at s.slots (index_of id)).kind

abbrev pub due_together : Chain → State → ℕ → ℕ → Bool
due_together k s i j = all_of (stands_in k s i ∷ stands_in k s j ∷ eqb (wait_at (index_of i) (chain_of k s)) (wait_at (index_of j) (chain_of k s)) ∷ [])

-- "where both start timers that then stand due at the same tick, or at the same date"
abbrev pub same_due : List ℕ → Call → Call → Bool
same_due t c d =
    let due : Chain → Bool = λ k. due_together k (read (left_by t c d)) (line_of c).id (line_of d).id in
    all_of (starts_timer t c ∷ starts_timer t d ∷ (due ByTicks || due ByDate) ∷ [])

-- every slice of words, sound or not, and every two calls
abbrev pub OrderOfLines : Type 0
OrderOfLines = (t : List ℕ) (c d : Call) → on_two_ids c d ≡ true → same_due t c d ≡ false → Swaps t c d

-- Wherever the exception holds, the tables differ.
abbrev pub OrderShows : Type 0
OrderShows = (t : List ℕ) (c d : Call) → on_two_ids c d ≡ true → same_due t c d ≡ true → left_by t c d ≡ left_by t d c → ⊥
