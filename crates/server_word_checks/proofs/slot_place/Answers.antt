-- `server_word_checks::slot_place` meets its contract: at each kind the tests that the definition has left are those that the code makes, and the place
-- is the head word of the kind's chain. Assumes nothing.
use mathlib.Core.Path.{◌∙◌}
use native.Mathlib.Omega.{arith}
use Rattle.server_word_checks.proofs.ServerSlots.{new-place, no_name, no-routine, no_kind, ticking-place, dated-place, queued-ticks, queued-date, idle-low-place, idle-high-place}
use Rattle.server_word_checks.proofs.slot_place.Goals as goal

pub returns-then-kind-le-NEVER_STARTED : goal.returns-then-kind-le-NEVER_STARTED
returns-then-kind-le-NEVER_STARTED c = c.place_if.ensures ∙ rw c.new_tested.ensures (new-place _ _ c.get-kind.ensures (omega arith))

pub returns-then-get-lt1 : goal.returns-then-get-lt1
returns-then-get-lt1 c = no_name _ _ (omega arith) (omega arith)

pub returns-then-get-lt1-2 : goal.returns-then-get-lt1-2
returns-then-get-lt1-2 c = no-routine _ _ (omega arith) (omega arith)

pub returns-then-waits_for_ticks : goal.returns-then-waits_for_ticks
returns-then-waits_for_ticks c = ticking-place _ _ (omega arith) (omega arith) (cc)

pub returns-then-waits_for_date : goal.returns-then-waits_for_date
returns-then-waits_for_date c =
    c.place_if-then-waits_for_date.ensures
    ∙ rw c.get-then-waits_for_date.ensures (dated-place _ _ (omega arith) (omega arith) (cc) (cc))

pub returns-then-kind-eq-QUEUED_TICKS : goal.returns-then-kind-eq-QUEUED_TICKS
returns-then-kind-eq-QUEUED_TICKS c =
    c.place_if-then-kind-eq-QUEUED_TICKS.ensures
    ∙ rw c.get-then-kind-eq-QUEUED_TICKS.ensures (queued-ticks _ _ (omega arith) (omega arith) (omega arith))

pub returns-then-kind-eq-QUEUED_DATE : goal.returns-then-kind-eq-QUEUED_DATE
returns-then-kind-eq-QUEUED_DATE c =
    c.place_if-then-kind-eq-QUEUED_DATE.ensures
    ∙ rw c.get-then-kind-eq-QUEUED_DATE.ensures (queued-date _ _ (omega arith) (omega arith) (omega arith))

pub returns-then-kind-le-IDLE_DATE : goal.returns-then-kind-le-IDLE_DATE
returns-then-kind-le-IDLE_DATE c =
    c.place_if-then-kind-le-IDLE_DATE.ensures
    ∙ rw c.idle_tested.ensures
    (idle-low-place _ _ (omega arith) (omega arith) c.get-kind.ensures (omega arith) (omega arith))

pub returns-then-kind-le-SERVER_IDLE_DATE : goal.returns-then-kind-le-SERVER_IDLE_DATE
returns-then-kind-le-SERVER_IDLE_DATE c =
    c.place_if-then-kind-le-SERVER_IDLE_DATE.ensures
    ∙ rw c.idle_tested-then-kind-le-SERVER_IDLE_DATE.ensures
    (idle-high-place _ _ (omega arith) (omega arith) c.get-kind.ensures (omega arith) (omega arith) (cc) (cc))

pub returns : goal.returns
returns c = no_kind _ _ (omega arith) (cc) (cc) (λ e. omega arith) (λ e. omega arith)
