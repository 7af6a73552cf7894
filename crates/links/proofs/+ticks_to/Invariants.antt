-- `links::ticks_to`. The measure is the slot's position in the chain. Assumes nothing.
use Rattle.model.specs.Words.{read}
use Rattle.links.proofs.Positions.{position}
use Rattle.links.proofs.+ticks_to.Given as goal

abbrev pub decreases-ticks_to : goal.decreases-ticks_to
decreases-ticks_to l = position l.i (read l.t.now).ticking
