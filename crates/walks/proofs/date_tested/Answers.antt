-- `walks::date_tested` meets its contract: where the link is right its slot is in the table. Assumes nothing.
use mathlib.Core.Path.{sym}
use native.Mathlib.Omega.{arith}
use Rattle.walks.proofs.StepTests.{in-link}
use Rattle.walks.proofs.date_tested.Goals as goal

pub get-requires : goal.get-requires
get-requires c = omega (arith, in-link _ _ _ _ (sym c.if-link_tested.ensures))
