-- `links::find_place` meets its contract: the walk starts at the chain's start. Assumes nothing.
use Rattle.links.proofs.WalkToPlace.{from_start, at-start}
use Rattle.links.proofs.find_place.Goals as goal

pub place_from-requires : goal.place_from-requires
place_from-requires c = from_start _ _ _ c.requires

pub returns : goal.returns
returns c = at-start _ _ c.requires c.place_from.ensures
