-- `soundness::checked` meets its contract: without a server the queue of a sound table is empty; with one, a header that fails fails the table, and
-- else the check with three walks decides. Assumes nothing.
use mathlib.Core.Path.{sym, ◌∙◌}
use native.Mathlib.Omega.{arith}
use Rattle.word_checks.proofs.HeaderTests.{header-ranges, out_of_range}
use Rattle.walks.proofs.OnePass.{header-false}
use Rattle.plain_check.proofs.NoQueue.{no-queue}
use Rattle.server_check.proofs.LastSlot.{begin-queue, ended-queue}
use Rattle.soundness.proofs.VerdictLaws.{says-unsound, says-sound, is-unsound}
use Rattle.soundness.proofs.checked.Goals as goal

pub returns-then-t-lt-HEADER : goal.returns-then-t-lt-HEADER
returns-then-t-lt-HEADER c = says-unsound _ (header-false _ (sym (out_of_range _ (λ r. omega arith))))

pub returns-then-is_sound : goal.returns-then-is_sound
returns-then-is_sound c =
    let t = c.args.t.now in
    let sound = sym c.if-is_sound.ensures in
    says-sound t 0 sound (ended-queue (begin-queue t) (no-queue t sound c.if-t-eq0.true))

pub returns-then-not-header_sound : goal.returns-then-not-header_sound
returns-then-not-header_sound c = says-unsound _ (header-false _ (sym c.if-not-header_sound.ensures))

pub last_queued-last-requires : goal.last_queued-last-requires
last_queued-last-requires c = let h = sym c.if-not-header_sound.ensures in (h, omega (arith, (header-ranges _ h).server))

pub returns-then-last-eq-UNSOUND : goal.returns-then-last-eq-UNSOUND
returns-then-last-eq-UNSOUND c = says-unsound _ (is-unsound _ (sym c.last_queued-last.ensures ∙ omega arith))
