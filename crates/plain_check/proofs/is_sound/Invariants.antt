-- The loop's invariant: the table is sound just where what is left to check is right, with both walks where they stand. The measure is the slots ahead.
use Prim.Native.Nat.{◌+◌, ◌-◌}
use mathlib.Core.Bool.{false}
use Rattle.model.specs.Words.{first_queued}
use Rattle.walks.specs.Walks.{standing}
use Rattle.walks.proofs.OnePass.{Passing}
use Rattle.plain_check.proofs.is_sound.Given as goal

abbrev pub invariant-loop-i : goal.invariant-loop-i
invariant-loop-i l =
    Passing false l.t l.n l.i (standing l.tick_at l.tick_before l.ticks) (standing l.date_at l.date_before l.date) (standing (first_queued l.t) 0 0)

abbrev pub decreases-loop-i : goal.decreases-loop-i
decreases-loop-i l = l.n + 1 - l.i
