-- `soundness::is_sound` meets its contract: a header that fails fails the table, and else the check that word 8 calls for decides. Assumes nothing.
use mathlib.Core.Path.{sym}
use native.Mathlib.Omega.{arith}
use Rattle.word_checks.proofs.HeaderTests.{header-ranges}
use Rattle.walks.proofs.OnePass.{header-false}
use Rattle.soundness.proofs.VerdictLaws.{other-than}
use Rattle.soundness.proofs.is_sound.Goals as goal

pub returns-then-not-header_sound : goal.returns-then-not-header_sound
returns-then-not-header_sound c = header-false _ (sym c.if-not-header_sound.ensures)

pub bounds-t-8 : goal.bounds-t-8
bounds-t-8 c = omega (arith, header-ranges _ (sym c.if-not-header_sound.ensures))

pub last_queued-requires : goal.last_queued-requires
last_queued-requires c = let h = sym c.if-not-header_sound.ensures in (h, omega (arith, (header-ranges _ h).server))

pub returns-then-t-ne0 : goal.returns-then-t-ne0
returns-then-t-ne0 c = rw c.last_queued.ensures (other-than _)
