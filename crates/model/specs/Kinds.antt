-- Document 01, "Kinds", document 02, items 1 and 5, and the chains in which timers wait or are queued. Assumes nothing: these are definitions.
use Rattle.std.specs.Prelude.{ℕ, Bool, true, false, List, [], ◌∷◌, get_or}
use Rattle.std.proofs.Math.Option.{Option, none, some}
pub use Rattle.model.specs.declared.Chain.{Chain}
pub use Rattle.model.specs.declared.Chain.TheVariants.{ByTicks, ByDate, Queue}
pub use Rattle.model.specs.declared.Mode.{Mode}
pub use Rattle.model.specs.declared.Mode.TheVariants.{After, When, Every, ServerAfter, ServerWhen}

-- what a kind says of a timer: the chain that it is in, if any; its kind when it stops, and when it fires; how it was last started, if it was
pub record Kind : Type 0 where
  pub chain : Option Chain
  pub when_stopped : ℕ
  pub when_fired : ℕ
  pub last : Option Mode

abbrev pub kind_entry : Option Chain → ℕ → ℕ → Option Mode → Kind
kind_entry chain stopped fired last = record { chain = chain; when_stopped = stopped; when_fired = fired; last = last }

-- the kinds from 0 on
abbrev pub kinds : List Kind
kinds =
    -- 0 free; 1 never started
    kind_entry none 0 0 none ∷ kind_entry none 1 1 none
    -- 2 idle, last started by interval; 3 idle, last started by date
    ∷ kind_entry none 2 2 (some After) ∷ kind_entry none 3 3 (some When)
    -- 4 waiting for ticks; 5 waiting for a date
    ∷ kind_entry (some ByTicks) 2 2 (some After) ∷ kind_entry (some ByDate) 3 3 (some When)
    -- 6 waiting in the interval chain, periodic, where it still waits when it fired; 7 idle periodic
    ∷ kind_entry (some ByTicks) 7 6 (some Every) ∷ kind_entry none 7 7 (some Every)
    -- 8, 9 server timers, idle, by interval and by date; 10, 11 waiting, and queued when they fired; 12, 13 queued, and idle when they are served
    ∷ kind_entry none 8 8 (some ServerAfter) ∷ kind_entry none 9 9 (some ServerWhen)
    ∷ kind_entry (some ByTicks) 8 12 (some ServerAfter) ∷ kind_entry (some ByDate) 9 13 (some ServerWhen)
    ∷ kind_entry (some Queue) 8 8 (some ServerAfter) ∷ kind_entry (some Queue) 9 9 (some ServerWhen)
    ∷ []

-- what a kind says; a number that is no kind is in no chain and stays
abbrev pub kind_at : ℕ → Kind
kind_at kind = get_or kinds kind (kind_entry none kind kind none)

-- the chain in which a start waits, and the kind that it gives
abbrev pub chain_for : Mode → Chain
chain_for After = ByTicks
chain_for When = ByDate
chain_for Every = ByTicks
chain_for ServerAfter = ByTicks
chain_for ServerWhen = ByDate

abbrev pub waiting_kind : Mode → ℕ
waiting_kind After = 4
waiting_kind When = 5
waiting_kind Every = 6
waiting_kind ServerAfter = 10
waiting_kind ServerWhen = 11

-- the start fires again and again
abbrev pub is_periodic : Mode → Bool
is_periodic After = false
is_periodic When = false
is_periodic Every = true
is_periodic ServerAfter = false
is_periodic ServerWhen = false

-- it is queued where others fire
abbrev pub is_server : Mode → Bool
is_server After = false
is_server When = false
is_server Every = false
is_server ServerAfter = true
is_server ServerWhen = true

-- these two chains are the same
abbrev pub same_chain : Chain → Chain → Bool
same_chain ByTicks ByTicks = true
same_chain ByTicks ByDate = false
same_chain ByTicks Queue = false
same_chain ByDate ByTicks = false
same_chain ByDate ByDate = true
same_chain ByDate Queue = false
same_chain Queue ByTicks = false
same_chain Queue ByDate = false
same_chain Queue Queue = true

-- the interval of a start: its ticks, 0 for one by date
abbrev pub interval_in : Chain → ℕ → ℕ
interval_in ByTicks n = n
interval_in ByDate d = 0
interval_in Queue n = 0

-- the kind is of a timer in this chain
abbrev pub is_in : Chain → Option Chain → Bool
is_in k none = false
is_in k (some j) = same_chain k j

abbrev pub waits_in : Chain → ℕ → Bool
waits_in k kind = is_in k (kind_at kind).chain

-- it is of a timer in some chain
abbrev pub is_some : Option Chain → Bool
is_some none = false
is_some (some j) = true

abbrev pub linked : ℕ → Bool
linked kind = is_some (kind_at kind).chain

-- the timer was last started by interval
abbrev pub by_ticks : Option Mode → Bool
by_ticks none = false
by_ticks (some m) = same_chain ByTicks (chain_for m)

abbrev pub last_by_ticks : ℕ → Bool
last_by_ticks kind = by_ticks (kind_at kind).last

-- it is a server timer
abbrev pub for_server : Option Mode → Bool
for_server none = false
for_server (some m) = is_server m

-- how it was last started, where it was
abbrev pub mode_or_after : Option Mode → Mode
mode_or_after none = After
mode_or_after (some m) = m

abbrev pub last_mode : ℕ → Mode
last_mode kind = mode_or_after (kind_at kind).last
