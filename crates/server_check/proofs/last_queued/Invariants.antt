-- The loop's invariant: the table is sound just where what is left to check is right, with the three walks where they stand, and what is ahead of the
-- queue's walk ends where the queue does. The measure is the slots ahead.
use Prim.Native.Nat.{◌+◌, ◌-◌}
use Rattle.walks.specs.Walks.{standing}
use Rattle.server_check.proofs.LastSlot.{Checking}
use Rattle.server_check.proofs.last_queued.Given as goal

abbrev pub invariant-loop-i : goal.invariant-loop-i
invariant-loop-i l =
    Checking l.t l.n l.i (standing l.tick_at l.tick_before l.ticks) (standing l.date_at l.date_before l.date) (standing l.queue_at l.queue_before 0)

abbrev pub decreases-loop-i : goal.decreases-loop-i
decreases-loop-i l = l.n + 1 - l.i
