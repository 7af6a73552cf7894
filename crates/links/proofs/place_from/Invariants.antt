-- `links::place_from`. The loop's invariant: the chain up to slot `p` is due by then, and slot `i` is the next one. The measure is what is
-- left and the links behind `p`. Assumes nothing.
use Rattle.model.specs.State.{chain_of, wait_at}
use Rattle.model.specs.Words.{read, accumulated}
use Rattle.links.proofs.WalkToPlace.{Walked, ahead}
use Rattle.links.proofs.place_from.Given as goal

abbrev pub invariant-loop-i : goal.invariant-loop-i
invariant-loop-i l = Walked l.chain l.t (accumulated l.chain (wait_at l.from (chain_of l.chain (read l.t))) l.amount) l.p l.left l.i

abbrev pub decreases-loop-i : goal.decreases-loop-i
decreases-loop-i l = ahead l.chain l.t l.p l.left
