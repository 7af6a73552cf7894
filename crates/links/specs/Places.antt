-- Where a timer goes in a chain, and what the functions of this crate ask of a table. Assumes nothing: these are definitions.
use Rattle.std.specs.Prelude.{ℕ, ◌≤◌, ◌<◌, ◌≡◌, true, false, cond, List, [], ◌∷◌, leb}
use Rattle.model.specs.declared.Chain.{Chain}
use Rattle.model.specs.declared.Chain.TheVariants.{ByTicks}
use Rattle.model.specs.Kinds.{kind_at, waits_in}
use Rattle.model.specs.State.{Link, State, chain_of, wait_at}
use Rattle.model.specs.Words.{read, difference, accumulated, slot_count, kind_of, wait_of, previous_of}
use Rattle.laws.proofs.WellFormed.{times_in, Holds}

-- the first links of a chain, whose wait is not above n, and the others
abbrev pub up_to : ℕ → List Link → List Link
up_to n [] = []
up_to n (w ∷ ws) = cond (leb w.wait n) (w ∷ up_to n ws) []

abbrev pub beyond : ℕ → List Link → List Link
beyond n [] = []
beyond n (w ∷ ws) = cond (leb w.wait n) (beyond n ws) (w ∷ ws)

-- the slot and the wait of the last link, p and b where there is none
abbrev pub last_slot : ℕ → List Link → ℕ
last_slot p [] = p
last_slot p (w ∷ ws) = last_slot w.slot ws

abbrev pub last_wait : ℕ → List Link → ℕ
last_wait b [] = b
last_wait b (w ∷ ws) = last_wait w.wait ws

-- the place of a timer of wait n in chain k: the slot before it, and its word
pub record At (k : Chain) (s : State) (n before wait : ℕ) : Type 0 where
  pub slot : before ≡ last_slot 0 (up_to n (chain_of k s))
  pub word : wait ≡ difference k (last_wait 0 (up_to n (chain_of k s))) n

-- slot i is one of the table's
pub record IsSlot (t : List ℕ) (i : ℕ) : Type 0 where
  pub low : 1 ≤ i
  pub high : i ≤ slot_count t

-- slot i is one of the table's, whose chains are in order
pub record InTable (t : List ℕ) (i : ℕ) : Type 0 where
  pub holds : Holds t (read t)
  pub low : 1 ≤ i
  pub high : i ≤ slot_count t

-- it waits in chain k, and stops as that kind
pub record Stops (t : List ℕ) (k : Chain) (i idle : ℕ) : Type 0 where
  pub in_table : InTable t i
  pub waits : waits_in k (kind_of t i) ≡ true
  pub kind : idle ≡ (kind_at (kind_of t i)).when_stopped

-- slot i waits in chain k, and stops as that kind; it is the first there, and due where it waits for ticks
pub record FirstStops (t : List ℕ) (k : Chain) (i idle : ℕ) : Type 0 where
  pub slot : IsSlot t i
  pub waits : waits_in k (kind_of t i) ≡ true
  pub kind : idle ≡ (kind_at (kind_of t i)).when_stopped
  pub first : previous_of t i ≡ 0
  pub due : k ≡ ByTicks → wait_of t i ≡ 0

-- it does not wait
pub record IdleInTable (t : List ℕ) (i : ℕ) : Type 0 where
  pub slot : IsSlot t i
  pub idle : (k : Chain) → waits_in k (kind_of t i) ≡ false

-- slot p is one of chain k, or 0 for the chain's start, and is due by the time that is `amount` behind it
pub record From (k : Chain) (t : List ℕ) (p amount : ℕ) : Type 0 where
  pub holds : Holds t (read t)
  pub there : 0 < p → 0 < times_in (chain_of k (read t)) p
  pub due : wait_at p (chain_of k (read t)) ≤ accumulated k (wait_at p (chain_of k (read t))) amount
