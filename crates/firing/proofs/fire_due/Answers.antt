-- `firing::fire_due` meets its contract: where the chain is empty, or its first timer is still to come, none fires. Assumes nothing.
use Rattle.firing.proofs.BothRounds.{next-fires, first-slot, fires-later}
use Rattle.links.proofs.NextState.{next_start, next-holds}
use Rattle.firing.proofs.TakingOff.{space}
use Rattle.firing.proofs.fire_due.Goals as goal

pub get-wait-requires-clause-slot : goal.get-wait-requires-clause-slot
get-wait-requires-clause-slot c = first-slot (space c.args.table.now.in_order c.requires) c.first-front.ensures c.if-front-eq0.false

pub returns-then-limit-wait-clause-fires : goal.returns-then-limit-wait-clause-fires
returns-then-limit-wait-clause-fires c = fires-later (space c.args.table.now.in_order c.requires) c.first-front.ensures c.if-front-eq0.false c.get-wait.ensures c.if-limit-wait.true

pub invariant_of-table : goal.invariant_of-table
invariant_of-table c = record { in_order = next-holds (next-fires (next_start c.args.table.now.in_order) c.fire.ensures) }
