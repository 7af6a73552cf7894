-- `next_due::next_due` meets its contract: it reads the wait of the slot in word 5, if there is one. Assumes nothing.
use mathlib.Core.Path.{sym, ap, ◌∙◌}
use Rattle.model.specs.declared.Chain.TheVariants.{ByTicks}
use Rattle.model.specs.Kinds.{waits_in}
use Rattle.next_due.proofs.FirstTests.{refused-room, refused-above, refused-kind, refused-wait, none-waits, first-waits}
use Rattle.next_due.proofs.next_due.Goals as goal

pub returns-then-not-has_room : goal.returns-then-not-has_room
returns-then-not-has_room c = refused-room c.args.table.now (sym c.if-not-has_room.ensures)

pub returns-then-first-eq0 : goal.returns-then-first-eq0
returns-then-first-eq0 c = none-waits c.args.table.now (sym c.if-not-has_room.ensures) c.if-first-eq0.true

pub returns-then-table-first : goal.returns-then-table-first
returns-then-table-first c = refused-above c.args.table.now c.if-table-first.true

pub returns-then-not-waits_for_ticks : goal.returns-then-not-waits_for_ticks
returns-then-not-waits_for_ticks c =
    refused-kind c.args.table.now c.if-first-eq0.false (ap (waits_in ByTicks) (sym c.get.ensures) ∙ sym c.if-not-waits_for_ticks.ensures)

pub returns-then-wait-eq0 : goal.returns-then-wait-eq0
returns-then-wait-eq0 c = refused-wait c.args.table.now c.if-first-eq0.false (sym c.get-wait.ensures ∙ c.if-wait-eq0.true)

pub returns : goal.returns
returns c =
    first-waits c.args.table.now (sym c.if-not-has_room.ensures) c.if-first-eq0.false c.if-table-first.false
    (ap (waits_in ByTicks) (sym c.get.ensures) ∙ sym c.if-not-waits_for_ticks.ensures)
    c.get-wait.ensures c.if-wait-eq0.false
