-- The table without its links: slots, clock, and the chains as lists in firing order, with ticks left or dates; the queue, where they are 0.
-- Assumes nothing: these are definitions.
use Rattle.std.specs.Prelude.{ℕ, zero, suc, ◌+◌, ◌-◌, Bool, cond, not, ◌&&◌, List, [], ◌∷◌, length, get_or, set, leb, ltb, eqb}
use Rattle.calendar.specs.Calendar.{all_of}
use Rattle.model.specs.Lists.{keep}
use Rattle.model.specs.Kinds.{Chain, ByTicks, ByDate, Queue}
use Rattle.model.specs.Parties.{owns}

-- the words of a slot but for its wait and links
pub record Slot : Type 0 where
  pub kind : ℕ
  pub name : ℕ
  pub interval : ℕ
  pub routine : ℕ
  pub user_data : ℕ

-- a place in a chain: the slot, and its ticks left or its date
pub record Link : Type 0 where
  pub slot : ℕ
  pub wait : ℕ

-- T, whether the clock is set, its seconds, and the ticks into the second
pub record Clock : Type 0 where
  pub per_second : ℕ
  pub is_set : Bool
  pub second : ℕ
  pub ticks_into : ℕ

-- `split` is L; `server` says whether the timer server was initiated
pub record State : Type 0 where
  pub slots : List Slot
  pub clock : Clock
  pub ticking : List Link
  pub dated : List Link
  pub split : ℕ
  pub server : Bool
  pub queue : List Link

-- a chain of the state
abbrev pub chain_of : Chain → State → List Link
chain_of ByTicks s = s.ticking
chain_of ByDate s = s.dated
chain_of Queue s = s.queue

-- the state with other slots and another chain; with another clock
abbrev pub with_chain : Chain → State → List Slot → List Link → State
with_chain ByTicks s slots links =
    record { slots = slots; clock = s.clock; ticking = links; dated = s.dated; split = s.split; server = s.server; queue = s.queue }
with_chain ByDate s slots links =
    record { slots = slots; clock = s.clock; ticking = s.ticking; dated = links; split = s.split; server = s.server; queue = s.queue }
with_chain Queue s slots links =
    record { slots = slots; clock = s.clock; ticking = s.ticking; dated = s.dated; split = s.split; server = s.server; queue = links }

abbrev pub with_clock : State → Clock → State
with_clock s clock =
    record { slots = s.slots; clock = clock; ticking = s.ticking; dated = s.dated; split = s.split; server = s.server; queue = s.queue }

-- Kind 0: every other word zero.
abbrev pub free : Slot
free = record { kind = 0; name = 0; interval = 0; routine = 0; user_data = 0 }

-- Slot indexes run from 1. There is no slot 0: it is free, and a store to it does nothing.
abbrev pub slot_at : List Slot → ℕ → Slot
slot_at slots zero = free
slot_at slots (suc i) = get_or slots i free

abbrev pub put_at : List Slot → ℕ → Slot → List Slot
put_at slots zero x = slots
put_at slots (suc i) x = set slots i x

-- the lowest slot, counted from i, that passes the test of its index and its words; 0 if there is none
abbrev pub lowest : (ℕ → Slot → Bool) → ℕ → List Slot → ℕ
lowest p i [] = 0
lowest p i (x ∷ xs) = cond (p i x) i (lowest p (suc i) xs)

-- a chain without the slot i
abbrev pub without : ℕ → List Link → List Link
without i links = keep (λ w. not (eqb w.slot i)) links

-- the wait of the slot i in a chain, 0 if it is not there
abbrev pub wait_at : ℕ → List Link → ℕ
wait_at i [] = 0
wait_at i (w ∷ ws) = cond (eqb w.slot i) w.wait (wait_at i ws)

-- An id is 0x12010000 plus the index.
abbrev pub id_base : ℕ
id_base = 0x12010000

abbrev pub index_of : ℕ → ℕ
index_of id = id - id_base

-- An id names a timer when the index is 1 to N and the slot is not free. Ids are used again after a delete; a stale id then names the new timer.
abbrev pub names : State → ℕ → Bool
names s id = all_of (ltb id_base id ∷ leb (index_of id) (length s.slots) ∷ not (eqb (slot_at s.slots (index_of id)).kind 0) ∷ [])

-- it names one of the party's own timers
abbrev pub names_own : State → ℕ → ℕ → Bool
names_own s party id = names s id && owns s.split party (index_of id)

-- an entry of the fired list: id, routine, user data
pub record Fired : Type 0 where
  pub id : ℕ
  pub routine : ℕ
  pub user_data : ℕ

-- the entry of a timer that fires
abbrev pub listed : List Slot → Link → Fired
listed slots w = record { id = id_base + w.slot; routine = (slot_at slots w.slot).routine; user_data = (slot_at slots w.slot).user_data }
