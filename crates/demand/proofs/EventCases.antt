-- What lists of calls mean, in events: the order among equals, and the ticks of a leap. Cases, computed. Assumes nothing.
use mathlib.Core.Path.{◌≡◌, refl}
use mathlib.Core.Option.{some}
use mathlib.Core.List.{List, [], ◌∷◌, map}
use lib.ListN.{replicate}
use Rattle.model.specs.Calls.{Call, lay_out, create, fire_after, tick, leap}
use Rattle.model.specs.Sound.{header_sound, slot_sound, chain_sound, ticks_sound, dates_sound, queue_sound, sound}
use Rattle.model.specs.Outcome.{status_on, outcome}
use Rattle.model.specs.declared.Mode.TheVariants.{After, Every}
use Rattle.demand.specs.History.{start_of, laid_out_for, changes, one_tick, Placed, starts, nothing}
use Rattle.demand.specs.Demand.{accepted_in, events_after}
use Rattle.model.proofs.WorkedCases.{one, two, three}

-- ---- the order among equals

-- Every 2 ticks and, a tick later, once for 3: with the second tick the first goes back, and is behind the other.
pub turned : map (λ (g : Placed). g.begun.id)
    (starts (one_tick ∷ changes two (some (start_of two After 3 8 80)) ∷ one_tick ∷ changes one (some (start_of one Every 2 7 70)) ∷ laid_out_for 10 0 ∷ []))
    ≡ two ∷ one ∷ []
turned = refl

-- ---- leaps as their ticks

-- Each tick of an accepted leap counts as an accepted tick, of a refused one and of a leap by 0 none.
abbrev recorded : List Call
recorded = lay_out 1 10 0 ∷ create 1 1 ∷ fire_after 1 one 4 7 70 ∷ leap 3 three ∷ leap 4294967295 three ∷ leap 0 three ∷ leap 9 [] ∷ leap 9 three ∷ []

pub counted : accepted_in (replicate 18 0) recorded ≡ lay_out 1 10 0 ∷ create 1 1 ∷ fire_after 1 one 4 7 70 ∷ replicate 4 (tick three)
unfolding header_sound slot_sound chain_sound ticks_sound dates_sound queue_sound sound status_on outcome
counted = refl

pub events : events_after (replicate 18 0) recorded
    ≡ one_tick ∷ one_tick ∷ one_tick ∷ one_tick ∷ changes one (some (start_of one After 4 7 70)) ∷ nothing ∷ laid_out_for 10 0 ∷ []
unfolding header_sound slot_sound chain_sound ticks_sound dates_sound queue_sound sound status_on outcome
events = refl
