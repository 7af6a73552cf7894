-- `going_on::put_back`. The loop's invariant is `Backing`: what is left to do from entry `j` on is all that is left from the start, in the same
-- slice. Assumes nothing.
use Rattle.going_on.proofs.GoingBack.{Backing}
use Rattle.links.specs.Tables.{SameWords}
use Rattle.going_on.proofs.put_back.Given as goal

abbrev pub invariant-loop-j : goal.invariant-loop-j
invariant-loop-j l =
    Backing l.initial.table.words.now l.list l.from l.n l.table.words.now l.mark.slot l.mark.ticks l.j × SameWords l.initial.table l.table
