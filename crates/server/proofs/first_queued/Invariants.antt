-- `server::first_queued` meets its contract. The loop's invariant: slot `i` is the next of the queue, and those before it are not the party's. The
-- measure is how many links there are from `i` on. Assumes nothing.
use Rattle.model.specs.Words.{read}
use Rattle.server.proofs.QueueWalk.{Passed, from}
use Rattle.server.proofs.first_queued.Given as goal

abbrev pub invariant-loop-i : goal.invariant-loop-i
invariant-loop-i l = Passed l.t.words.now l.party l.i

abbrev pub decreases-loop-i : goal.decreases-loop-i
decreases-loop-i l = from l.i (read l.t.words.now).queue
