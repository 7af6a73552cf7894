-- Interval timers come nearer, as `come_nearer` promises it. Assumes nothing: these are definitions.
use Rattle.std.specs.Prelude.{ℕ, ◌-◌, ◌≤◌, List, map}
use Rattle.model.specs.declared.Chain.TheVariants.{ByTicks}
use Rattle.model.specs.Lists.{All}
use Rattle.model.specs.State.{Link, State, with_chain}
use Rattle.model.specs.Words.{read}

-- every interval timer comes m ticks nearer
abbrev pub closer_by : ℕ → Link → Link
closer_by m w = record { slot = w.slot; wait = w.wait - m }

abbrev pub nearer_by : ℕ → State → State
nearer_by m s = with_chain ByTicks s s.slots (map (closer_by m) s.ticking)

-- no interval timer is nearer than m ticks
abbrev pub Nearable : List ℕ → ℕ → Type 0
Nearable t m = All (λ w. m ≤ w.wait) (read t).ticking
