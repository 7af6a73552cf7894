-- `slots::find`: the slots before i are not what is sought, so that what is found from i on is what is found at all.
use Rattle.std.proofs.Common.{◌≡◌, ◌+◌, ◌-◌, ◌≤◌}
use Rattle.slots.specs.Search.{lowest_in}
use Rattle.slots.proofs.Sound.find.Given as goal

abbrev pub invariant-loop-i : goal.invariant-loop-i
invariant-loop-i l = (1 ≤ l.i) × (lowest_in l.self.words.now l.f l.v l.from l.to ≡ lowest_in l.self.words.now l.f l.v l.i l.to)

abbrev pub decreases-loop-i : goal.decreases-loop-i
decreases-loop-i l = l.to + 1 - l.i
