-- Document 02, item 7, its last sentence: a leap of a that does all a ticks without firing or queueing, followed by a leap of b, leaves the table,
-- list and count of one leap of a + b, where that sum is allowed, and the ticks done add up. And, on any slice of words, what demand 3 says of those
-- that calls lead to: its status, and that its table and list are those of that many single ticks (`Leaps`). Assumes nothing: these are definitions.
use Rattle.std.specs.Prelude.{◌≡◌, ℕ, suc, ◌+◌, ◌*◌, ◌≤◌, ◌<◌, cond, List, [], ◌∷◌, length, replicate, leb, ltb}
use Rattle.model.specs.Calls.{tick, leap}
use Rattle.model.specs.Kinds.{Queue}
use Rattle.model.specs.Directives.{most_leap}
use Rattle.model.specs.Words.{links, slot_count}
use Rattle.model.specs.Sound.{sound}
use Rattle.model.specs.Outcome.{Outcome, outcome_of, outcome, first_number, ticks_done, after}

-- a tick on the table t is accepted, answers that count, and leaves that list
pub record TickGives (t list : List ℕ) (count : ℕ) (left : List ℕ) : Type 0 where
  pub accepted : (outcome t (tick list)).status ≡ 0
  pub counts : (outcome t (tick list)).answer ≡ count ∷ []
  pub leaves : (outcome t (tick list)).list ≡ left

-- an empty tick: it neither fires nor queues a timer
abbrev pub EmptyTick : List ℕ → List ℕ → Type 0
EmptyTick t list = TickGives t list 0 list × (links Queue (outcome t (tick list)).table ≡ links Queue t)

-- What an accepted leap by k has to be on the table t: table, list and count are those of that many single ticks, one after the other, of which all
-- but the last are empty; it stops before k only where the last one fires or queues a timer.
pub record Leaps (t : List ℕ) (k : ℕ) (list : List ℕ) : Type 0 where
  pub count : ℕ
  pub done : ℕ
  pub answer : (outcome t (leap k list)).answer ≡ count ∷ done ∷ []
  pub table : (outcome t (leap k list)).table ≡ after t (replicate done (tick list))
  pub empty : (m : ℕ) → suc m < done → EmptyTick (after t (replicate m (tick list))) list
  pub last : (m : ℕ) → suc m ≡ done → TickGives (after t (replicate m (tick list))) list count (outcome t (leap k list)).list
  pub still : done ≡ 0 → (count ≡ 0) × ((outcome t (leap k list)).list ≡ list)
  pub within : done ≤ k
  pub stops : count ≡ 0 → links Queue (outcome t (leap k list)).table ≡ links Queue t → done ≡ k

-- what comes of a leap, with so many ticks done before it
abbrev pub with_ticks_before : ℕ → Outcome → Outcome
with_ticks_before n o = outcome_of o.status (first_number o.answer ∷ (n + ticks_done o.answer) ∷ []) o.table o.list

abbrev pub LeapsAdd : Type 0
LeapsAdd = (t list : List ℕ) (a b : ℕ) → a + b ≤ most_leap → let o = outcome t (leap a list) in
    o.status ≡ 0 → o.answer ≡ 0 ∷ a ∷ [] → links Queue o.table ≡ links Queue t
    → outcome t (leap (a + b) list) ≡ with_ticks_before a (outcome o.table (leap b o.list))

abbrev pub LeapTakes : Type 0
LeapTakes = (t : List ℕ) (k : ℕ) (list : List ℕ)
    → (outcome t (leap k list)).status ≡ cond (sound t) (cond (ltb (length list) (3 * slot_count t)) 101 (cond (leb k 1000000) 0 10)) 100

abbrev pub LeapIsItsTicks : Type 0
LeapIsItsTicks = (t : List ℕ) (k : ℕ) (list : List ℕ) → (outcome t (leap k list)).status ≡ 0 → Leaps t k list
