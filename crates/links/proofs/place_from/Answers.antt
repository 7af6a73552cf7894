-- `links::place_from`: the walk begins at slot `from`, goes on while it meets slots that are due by then, and ends at the chain's end or at
-- one that is not. Assumes nothing.
use Rattle.std.proofs.Common.{arith}
use Rattle.links.proofs.WalkToPlace.{from-inside, walk_from, walk_end, walk_inside, walk-stop, walk-on, walk-falls}
use Rattle.links.proofs.place_from.Goals as goal

pub follower-i-requires : goal.follower-i-requires
follower-i-requires c = from-inside _ _ _ _ c.requires

pub loop-i-init : goal.loop-i-init
loop-i-init c = walk_from _ _ _ _ _ c.requires c.follower-i.ensures

pub get-w-requires : goal.get-w-requires
get-w-requires c = (omega arith, walk_inside c.loop-i.invariant c.if-i-eq0.false)

pub get-i-requires : goal.get-i-requires
get-i-requires c = (omega arith, walk_inside c.loop-i.invariant c.if-i-eq0.false)

pub loop-i-smaller : goal.loop-i-smaller
loop-i-smaller c =
    rw (c.behind-left.ensures, c.get-w.ensures) (walk-falls c.loop-i.invariant c.if-i-eq0.false (omega (arith, c.get-w.ensures)))

pub loop-i-preserved : goal.loop-i-preserved
loop-i-preserved c =
    rw (c.get-i.ensures, c.behind-left.ensures, c.get-w.ensures) (
    walk-on c.loop-i.invariant c.if-i-eq0.false (omega (arith, c.get-w.ensures)))

pub returns-then-i-eq0 : goal.returns-then-i-eq0
returns-then-i-eq0 c = walk_end c.loop-i.invariant c.if-i-eq0.true

pub returns-then-left-w : goal.returns-then-left-w
returns-then-left-w c = walk-stop c.loop-i.invariant c.if-i-eq0.false (omega (arith, c.get-w.ensures))
