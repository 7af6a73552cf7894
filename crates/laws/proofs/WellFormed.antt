-- Soundness as it is seen on the state: what the proofs of the calls use of it, and keep. Assumes nothing: these are definitions.
use mathlib.Core.Path.{◌≡◌}
use Prim.Native.Nat.{ℕ, ◌+◌, ◌*◌, ◌≤◌, ◌<◌}
use mathlib.Core.Bool.{Bool, true, false, cond}
use mathlib.Core.List.{List, []}
use lib.ListN.{length}
use lib.Dec.{eqb}
use Rattle.model.specs.Lists.{count, All, Sorted}
use Rattle.model.specs.declared.Chain.{Chain}
use Rattle.model.specs.declared.Chain.TheVariants.{ByTicks, ByDate, Queue}
use Rattle.model.specs.Kinds.{waits_in, last_by_ticks}
use Rattle.model.specs.State.{Slot, Link, State, chain_of, slot_at}
use Rattle.calendar.specs.Calendar.{last_second}
use Rattle.model.specs.Words.{written_over}

-- how often the slot i stands in a chain
abbrev pub times_in : List Link → ℕ → ℕ
times_in l i = count (λ w. eqb w.slot i) l

-- no ticks left exceed the interval; a date has none to exceed; in the queue it is 0
abbrev pub Within : Chain → ℕ → ℕ → Type 0
Within ByTicks wait interval = wait ≤ interval
Within ByDate wait interval = Unit {0}
Within Queue wait interval = wait ≡ 0

-- a link fits its slot
abbrev pub Fits : Chain → List Slot → Link → Type 0
Fits k slots w = Within k w.wait (slot_at slots w.slot).interval

-- The chains are in order. This holds between the steps of a call too, where the first wait may be 0 and dates may be past.
pub record Chained (s : State) : Type 0 where
  pub few : length s.slots ≤ 255
  pub meets : (k : Chain) (i : ℕ) → times_in (chain_of k s) i ≡ cond (waits_in k (slot_at s.slots i).kind) 1 0
  pub rises : (k : Chain) → Sorted (λ w. w.wait) (chain_of k s)
  pub within : (k : Chain) → All (Fits k s.slots) (chain_of k s)

-- the words of one slot, links and wait apart, in a table whose server was initiated or not
pub record Shape (server : Bool) (x : Slot) : Type 0 where
  pub kinds : x.kind ≤ 13
  pub nameless : x.kind ≡ 0 → x.name ≡ 0
  pub named : 0 < x.kind → 0 < x.name
  pub blank : x.kind ≤ 1 → (x.interval ≡ 0) × (x.routine ≡ 0) × (x.user_data ≡ 0)
  pub used : 2 ≤ x.kind → 0 < x.routine
  pub by-ticks : last_by_ticks x.kind ≡ true → 0 < x.interval
  pub by-date : last_by_ticks x.kind ≡ false → x.interval ≡ 0
  pub by-server : 8 ≤ x.kind → server ≡ true

pub record WellFormed (s : State) : Type 0 where
  pub chained : Chained s
  pub some-slot : 1 ≤ length s.slots
  pub parted : s.split < length s.slots
  pub per-low : 1 ≤ s.clock.per_second
  pub per-high : s.clock.per_second ≤ 1000
  pub into : s.clock.ticks_into < s.clock.per_second
  pub second-high : s.clock.second ≤ last_second
  pub unset : s.clock.is_set ≡ false → (s.clock.second ≡ 0) × (s.clock.ticks_into ≡ 0) × (s.dated ≡ [])
  pub shape : (i : ℕ) → Shape s.server (slot_at s.slots i)
  pub ticks : All (λ w. 1 ≤ w.wait) s.ticking
  pub dates : All (λ w. (s.clock.second < w.wait) × (w.wait ≤ last_second)) s.dated

-- the words of t are those of s, and the chains of s are in order
pub record Holds (t : List ℕ) (s : State) : Type 0 where
  pub is : written_over s t ≡ t
  pub long : 10 + 8 * length s.slots ≤ length t
  pub chained : Chained s
