-- `walks::queue_tested` meets its contract: where the link is right its slot is in the table. Assumes nothing.
use mathlib.Core.Path.{sym}
use native.Mathlib.Omega.{arith}
use Rattle.walks.proofs.StepTests.{in-link}
use Rattle.walks.proofs.queue_tested.Goals as goal

pub get-requires : goal.get-requires
get-requires c = omega (arith, in-link _ _ _ _ (sym c.if-not-link_tested.ensures))

pub get-requires-then-is_queued : goal.get-requires-then-is_queued
get-requires-then-is_queued c = omega (arith, in-link _ _ _ _ (sym c.if-not-link_tested.ensures))
