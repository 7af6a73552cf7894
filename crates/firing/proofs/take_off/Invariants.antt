-- `firing::take_off`. The loop's invariant is `Taking`: what is left to take off from here is all that is left from the start. The chain gets
-- shorter with each turn. Assumes nothing.
use Rattle.std.proofs.Common.{length}
use Rattle.model.specs.State.{chain_of}
use Rattle.model.specs.Words.{read}
use Rattle.links.specs.Tables.{SameWords}
use Rattle.firing.specs.Lists.{tally_of}
use Rattle.firing.proofs.TakingOff.{Taking}
use Rattle.firing.proofs.take_off.Given as goal

abbrev pub invariant-loop-counts : goal.invariant-loop-counts
invariant-loop-counts l =
    Taking l.chain l.initial.table.words.now l.initial.list l.limit l.from l.table.words.now l.list
    (tally_of l.counts.count l.counts.periodic l.counts.end l.counts.front)
    × SameWords l.initial.table l.table

abbrev pub decreases-loop-counts : goal.decreases-loop-counts
decreases-loop-counts l = length (chain_of l.chain (read l.table.words.now))
