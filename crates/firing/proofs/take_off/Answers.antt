-- `firing::take_off` meets its contract: what is left to take off at a turn is the front and what is left at the next one. Assumes nothing.
use Rattle.std.proofs.Common.{arith, ◌∙◌}
use Rattle.laws.proofs.ReadBack.{slots_length}
use Rattle.firing.proofs.TakingOff.{taking-none, taking-front, taking-later, taking-turn, taking-less, taking-again}
use Rattle.firing.proofs.take_off.Goals as goal

pub get-w-requires-clause-slot : goal.get-w-requires-clause-slot
get-w-requires-clause-slot c =
    let f = c.loop-counts.invariant.0 in
    let at = taking-front f c.if-counts-eq0.false in
    record { low = at.low; high = omega (arith, at.high, slots_length c.loop-counts.table.words.now) }

pub turn-counts-requires : goal.turn-counts-requires
turn-counts-requires c = taking-turn c.loop-counts.invariant.0 c.if-counts-eq0.false c.get-w.ensures c.if-limit-w.false

pub loop-counts-smaller : goal.loop-counts-smaller
loop-counts-smaller c =
    taking-less c.loop-counts.invariant.0 c.if-counts-eq0.false c.get-w.ensures c.if-limit-w.false c.turn-counts.ensures.turned

pub loop-counts-preserved : goal.loop-counts-preserved
loop-counts-preserved c = (
  taking-again c.loop-counts.invariant.0 c.if-counts-eq0.false c.get-w.ensures c.if-limit-w.false c.turn-counts.ensures.turned,
  c.turn-counts.ensures.same ∙ c.loop-counts.invariant.1,
)

pub returns-then-counts-eq0-clause-off : goal.returns-then-counts-eq0-clause-off
returns-then-counts-eq0-clause-off c = taking-none c.loop-counts.invariant.0 c.if-counts-eq0.true

pub returns-then-limit-w-clause-off : goal.returns-then-limit-w-clause-off
returns-then-limit-w-clause-off c = taking-later c.loop-counts.invariant.0 c.if-counts-eq0.false c.get-w.ensures c.if-limit-w.true
