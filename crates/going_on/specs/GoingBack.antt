-- How the periodic timers that fired go back into the interval chain, as the functions of this crate promise it. Assumes nothing: these are
-- definitions.
use Rattle.std.specs.Prelude.{◌≡◌, ◌⊎◌, ℕ, zero, suc, ◌+◌, ◌-◌, ◌*◌, ◌≤◌, ◌<◌, cond, List, [], ◌∷◌, length, eqb}
use Rattle.model.specs.declared.Chain.TheVariants.{ByTicks}
use Rattle.model.specs.declared.Mode.TheVariants.{Every}
use Rattle.model.specs.Kinds.{waiting_kind}
use Rattle.model.specs.State.{State, slot_at, wait_at, id_base}
use Rattle.model.specs.Directives.{stored, became, inserted}
use Rattle.model.specs.Words.{word, read, written_over, slot_count, interval_of}
use Rattle.laws.proofs.WellFormed.{times_in}
use Rattle.links.specs.Places.{IsSlot, IdleInTable, From}

-- an idle periodic timer waits again, for its interval
abbrev pub waits_again : State → ℕ → State
waits_again s i =
    let x = slot_at s.slots i in
    inserted ByTicks (stored s i (became (waiting_kind Every) x)) i x.interval

-- slot i does not wait, and its interval is `left` more than the ticks left of slot p
pub record Again (t : List ℕ) (i p left : ℕ) : Type 0 where
  pub idle : IdleInTable t i
  pub from : From ByTicks t p left
  pub sum : wait_at p (read t).ticking + left ≡ interval_of t i

-- slot i waits again, if its timer is periodic and idle
abbrev pub went_back : State → ℕ → State
went_back s i = cond (eqb (slot_at s.slots i).kind 7) (waits_again s i) s

-- some slots, one after the other
abbrev pub back_all : List ℕ → State → State
back_all [] s = s
back_all (i ∷ is) s = back_all is (went_back s i)

-- the slots that a list's entries name, so many of them from entry `from` on
abbrev pub slots_in : List ℕ → ℕ → ℕ → List ℕ
slots_in list from zero = []
slots_in list from (suc number) = (word list (3 * from) - id_base) ∷ slots_in list (suc from) number

-- the entries from `from` on, up to n, name slots of the table
pub record Entries (t list : List ℕ) (from n : ℕ) : Type 0 where
  pub order : from ≤ n
  pub few : n < 256
  pub fits : 3 * n ≤ length list
  pub named : (j : ℕ) → from ≤ j → j < n → (id_base < word list (3 * j)) × (word list (3 * j) ≤ id_base + slot_count t)

-- the slot is one of the interval chain, with its ticks left, or 0 for the chain's start
pub record Marked (t : List ℕ) (slot ticks : ℕ) : Type 0 where
  pub there : 0 < slot → 0 < times_in (read t).ticking slot
  pub left : ticks ≡ wait_at slot (read t).ticking

-- the mark, or the chain's start, is due by the end of the interval
pub record Sought (slot ticks interval slot' ticks' : ℕ) : Type 0 where
  pub from : ((slot' ≡ slot) × (ticks' ≡ ticks)) ⊎ ((slot' ≡ 0) × (ticks' ≡ 0))
  pub due : ticks' ≤ interval

pub record GoesBack (t : List ℕ) (i slot ticks : ℕ) : Type 0 where
  pub here : IsSlot t i
  pub mark : Marked t slot ticks

pub record WentBack (t : List ℕ) (i slot ticks : ℕ) (t' : List ℕ) : Type 0 where
  pub table : t' ≡ written_over (went_back (read t) i) t
  pub mark : Marked t' slot ticks
