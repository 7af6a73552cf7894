-- One tick, and many at once in which no timer is due, as the functions of this crate promise them. A reader need not believe these: the calls'
-- contracts speak of the model. Assumes nothing: these are definitions.
use Rattle.std.specs.Prelude.{◌≡◌, ℕ, zero, suc, ◌-◌, ◌*◌, ◌≤◌, min, true, List, [], ◌∷◌, map, length}
use Rattle.model.specs.State.{Link, Clock, State, with_clock, listed}
use Rattle.model.specs.Directives.{clock_step, leapt}
use Rattle.model.specs.Words.{read, written_over, slot_count}
use Rattle.model.specs.Sound.{sound}
use Rattle.model.specs.Outcome.{written}
use Rattle.firing.specs.Lists.{EndsAt}
use Rattle.firing.specs.Nearer.{nearer_by}

-- the clock goes on by m ticks
abbrev pub clock_on : ℕ → Clock → Clock
clock_on zero c = c
clock_on (suc m) c = clock_on m (clock_step c)

-- m ticks in which no timer is due
abbrev pub skipped : ℕ → State → State
skipped m s = with_clock (nearer_by m s) (clock_on m s.clock)

-- k ticks, or those until the first interval timer is due, if they are fewer; or until the clock comes to the first date
abbrev pub until_ticks : ℕ → List Link → ℕ
until_ticks k [] = k
until_ticks k (w ∷ ws) = min w.wait k

abbrev pub until_date : ℕ → Clock → List Link → ℕ
until_date k c [] = k
until_date k c (w ∷ ws) = min ((w.wait - c.second) * c.per_second - c.ticks_into) k

abbrev pub until_due : ℕ → State → ℕ
until_due k s = until_date (until_ticks k s.ticking) s.clock s.dated

-- the table is sound, the list has three words for each slot, and slot `end` is the last of the queue
pub record Ready (t list : List ℕ) (end : ℕ) : Type 0 where
  pub ok : sound t ≡ true
  pub long : 3 * slot_count t ≤ length list
  pub last : EndsAt t end

-- the words are those that a leap by k leaves; how many fired, and how many ticks were done
pub record LeapLeaves (t list : List ℕ) (k count done : ℕ) (u list' : List ℕ) : Type 0 where
  pub table : u ≡ written_over (leapt k (read t)).state t
  pub fired : count ≡ length (leapt k (read t)).fired
  pub ticks : done ≡ (leapt k (read t)).done
  pub entries : list' ≡ written (map (listed (read t).slots) (leapt k (read t)).fired) list
