-- `server::first_queued` meets its contract: a step of the walk is in QueueWalk. Assumes nothing.
use mathlib.Core.Path.{refl, ◌∙◌}
use native.Mathlib.Omega.{arith}
use Rattle.laws.proofs.SoundHolds.{sound-header, sound-holds}
use Rattle.server.proofs.QueueWalk.{walk_start, walk_end, walk_inside, walk-on, walk-falls}
use Rattle.server.proofs.first_queued.Goals as goal

pub bounds-t-7 : goal.bounds-t-7
bounds-t-7 c = omega (arith, sound-header _ c.args.t.is_sound)

pub bounds-t-9 : goal.bounds-t-9
bounds-t-9 c = omega (arith, sound-header _ c.args.t.is_sound)

pub loop-i-init : goal.loop-i-init
loop-i-init c = walk_start _ (sound-holds _ c.args.t.is_sound) refl

pub get-i-requires : goal.get-i-requires
get-i-requires c = (omega arith, walk_inside c.loop-i.invariant c.loop-i-test.true)

pub loop-i-smaller : goal.loop-i-smaller
loop-i-smaller c = rw c.get-i.ensures (walk-falls c.loop-i.invariant c.loop-i-test.true (λ o. c.if-owner-party.false (c.owner.ensures ∙ o)))

pub loop-i-preserved : goal.loop-i-preserved
loop-i-preserved c = rw c.get-i.ensures (walk-on c.loop-i.invariant c.loop-i-test.true (λ o. c.if-owner-party.false (c.owner.ensures ∙ o)))

pub returns : goal.returns
returns c = walk_end c.loop-i.invariant c.loop-i-test.false
