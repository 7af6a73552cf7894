-- `going_on::queue` meets its contract: to stop and then to go behind the queue's last slot is to be queued. Assumes nothing.
use Rattle.std.proofs.Common.{refl}
use Rattle.going_on.proofs.Queueing.{queue-insertable, queue-now, queue_keeps}
use Rattle.going_on.proofs.queue.Goals as goal

pub insert-requires : goal.insert-requires
insert-requires c =
    let t = c.args.table.now in
    queue-insertable t.words.now t.in_order c.requires _ c.stop_first-next.ensures.table.is

pub returns-clause-table : goal.returns-clause-table
returns-clause-table c =
    let t = c.args.table.now in
    let stopped = c.stop_first-next.ensures.table in
    record {
      same_words = stopped.same_words;
      is = queue-now t.words.now t.in_order c.requires _ stopped.is refl c.insert.ensures c.put.ensures;
    }

pub invariant_of-table : goal.invariant_of-table
invariant_of-table c =
    let t = c.args.table.now in
    record { in_order = queue_keeps t.words.now t.in_order c.requires _ c.stop_first-next.ensures.table.is refl c.insert.ensures c.put.ensures }
