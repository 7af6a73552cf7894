-- `word_checks::slot_tested` meets its contract: at each kind the tests that the definition has left are those that the code makes.
-- Assumes nothing.
use mathlib.Core.Path.{refl, ◌∙◌}
use mathlib.Core.Bool.{false}
use native.Mathlib.Omega.{arith}
use Rattle.model.specs.declared.Mode.TheVariants.{Every}
use Rattle.word_checks.proofs.SlotTests.{server-fails, new-slot, name-fails, routine-fails, waiting-ticks, waiting-date, waiting-every, idle, idle-low}
use Rattle.word_checks.proofs.slot_tested.Goals as goal

pub returns-then-kind-le-NEVER_STARTED : goal.returns-then-kind-le-NEVER_STARTED
returns-then-kind-le-NEVER_STARTED c = c.new_tested.ensures ∙ new-slot false _ _ c.get-kind.ensures (omega arith)

pub returns-then-get-lt1 : goal.returns-then-get-lt1
returns-then-get-lt1 c = name-fails false _ _ (omega arith) (omega arith)

pub returns-then-get-lt1-2 : goal.returns-then-get-lt1-2
returns-then-get-lt1-2 c = routine-fails false _ _ (omega arith) (omega arith)

pub returns-then-kind-eq-WAITING_TICKS : goal.returns-then-kind-eq-WAITING_TICKS
returns-then-kind-eq-WAITING_TICKS c = waiting-ticks false _ _ (omega arith) (omega arith) (omega arith)

pub returns-then-kind-eq-WAITING_DATE : goal.returns-then-kind-eq-WAITING_DATE
returns-then-kind-eq-WAITING_DATE c =
    rw c.get-then-kind-eq-WAITING_DATE.ensures (waiting-date false _ _ (omega arith) (omega arith) (omega arith))

pub returns-then-kind-le-IDLE_DATE : goal.returns-then-kind-le-IDLE_DATE
returns-then-kind-le-IDLE_DATE c =
    c.idle_tested.ensures ∙ idle-low false _ _ c.get-kind.ensures (omega arith) (omega arith) (omega arith) (omega arith)

pub returns-then-kind-eq-WAITING_EVERY : goal.returns-then-kind-eq-WAITING_EVERY
returns-then-kind-eq-WAITING_EVERY c = waiting-every false _ _ (omega arith) (omega arith) (omega arith)

pub returns-then-kind-eq-IDLE_EVERY : goal.returns-then-kind-eq-IDLE_EVERY
returns-then-kind-eq-IDLE_EVERY c =
    c.idle_tested-then-kind-eq-IDLE_EVERY.ensures ∙ idle false _ _ Every (omega arith) refl (omega arith) (omega arith)

pub returns : goal.returns
returns c = server-fails false _ _ refl (omega arith)
