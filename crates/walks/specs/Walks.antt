-- The soundness check as the code makes it: one pass over the slots, in which each slot that stands in a chain pays for one step along it.
-- What is not tested follows from the rest (proofs/UntestedFollows.antt). The chains are one parameter. Assumes nothing: these are definitions.
use Rattle.std.specs.Prelude.{ℕ, zero, suc, ◌+◌, Bool, cond, not, ◌&&◌, ◌||◌, List, [], ◌∷◌, leb, eqb}
use Rattle.calendar.specs.Calendar.{all_of, last_second}
use Rattle.model.specs.Lists.{all_from}
use Rattle.model.specs.declared.Chain.{Chain}
use Rattle.model.specs.declared.Chain.TheVariants.{ByTicks, ByDate, Queue}
use Rattle.model.specs.Kinds.{waits_in}
use Rattle.model.specs.Words.{word, head_word, accumulated, seconds, first_ticking, first_dated, kind_of, interval_of, wait_of, next_of, previous_of}
use Rattle.word_checks.specs.Tested.{slot_tested}

-- the interval chain and the dated one do not begin at the same slot
abbrev pub heads_tested : List ℕ → Bool
heads_tested t = not (eqb (first_ticking t) (first_dated t)) || eqb (first_ticking t) 0

-- where a walk along a chain stands: the slot that comes next, the slot before it, and the ticks or the date reached there (0 in the queue)
pub record Stand : Type 0 where
  pub slot : ℕ
  pub before : ℕ
  pub reached : ℕ

abbrev pub standing : ℕ → ℕ → ℕ → Stand
standing slot before reached = record { slot = slot; before = before; reached = reached }

-- what a walk has reached before its first slot: no ticks; the first second that a date may be
abbrev pub origin : Chain → List ℕ → ℕ
origin ByTicks t = 0
origin ByDate t = suc (seconds t)
origin Queue t = 0

abbrev pub start : Chain → List ℕ → Stand
start k t = standing (word t (head_word k)) 0 (origin k t)

-- slot i is one of n, and slot p stands before it
abbrev pub link_tests : List ℕ → ℕ → ℕ → ℕ → List Bool
link_tests t n i p = leb 1 i ∷ leb i n ∷ eqb (previous_of t i) p ∷ []

unfoldable pub link_tested : List ℕ → ℕ → ℕ → ℕ → Bool
link_tested t n i p = all_of (link_tests t n i p)

-- Ticks left are 1 at least and not above the interval. A date is not below the one before it. In the queue the slot is queued, and its wait is 0.
abbrev pub wait_tested : Chain → List ℕ → ℕ → ℕ → Bool
wait_tested ByTicks t i b = leb 1 (b + wait_of t i) && leb (b + wait_of t i) (interval_of t i)
wait_tested ByDate t i b = leb b (wait_of t i)
wait_tested Queue t i b = waits_in Queue (kind_of t i) && eqb (wait_of t i) 0

-- the walk may step on to the slot that comes next
unfoldable pub step_tested : Chain → List ℕ → ℕ → Stand → Bool
step_tested k t n x = link_tested t n x.slot x.before && wait_tested k t x.slot x.reached

abbrev pub step : Chain → List ℕ → Stand → Stand
step k t x = standing (next_of t x.slot) x.slot (accumulated k x.reached (wait_of t x.slot))

-- the end of the chain; the last date, if there is one, is not past the last second
abbrev pub end_tested : Chain → Stand → Bool
end_tested ByTicks x = eqb x.slot 0
end_tested ByDate x = eqb x.slot 0 && (eqb x.before 0 || leb x.reached last_second)
end_tested Queue x = eqb x.slot 0

-- c steps, and then the end
unfoldable pub walk_tested : Chain → List ℕ → ℕ → ℕ → Stand → Bool
walk_tested k t n zero x = end_tested k x
walk_tested k t n (suc c) x = step_tested k t n x && walk_tested k t n c (step k t x)

-- how many of m slots from i on stand in chain k
unfoldable pub waiting : Chain → List ℕ → ℕ → ℕ → ℕ
waiting k t i zero = 0
waiting k t i (suc m) = cond (waits_in k (kind_of t i)) (suc (waiting k t (suc i) m)) (waiting k t (suc i) m)

-- What is left to test: m slots from i on, and a step along its chain for each of them that stands in one. The walks stand at x, y and z. Whether
-- server timers may occur is known beforehand.
unfoldable pub left_tested : Bool → List ℕ → ℕ → ℕ → ℕ → Stand → Stand → Stand → Bool
left_tested server t n i m x y z =
    all_from (slot_tested server t) i m
    && (walk_tested ByTicks t n (waiting ByTicks t i m) x && (walk_tested ByDate t n (waiting ByDate t i m) y && walk_tested Queue t n (waiting Queue t i m) z))
