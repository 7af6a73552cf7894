-- `firing::set_clock` meets its contract: the chains stay in order. Assumes nothing.
use Rattle.firing.proofs.ClockWords.{set_keeps}
use Rattle.firing.proofs.set_clock.Goals as goal

pub invariant_of-table : goal.invariant_of-table
invariant_of-table c =
    let a = c.args in
    let t = a.table.now in
    record { in_order = set_keeps t.words.now t.in_order a.second a.ticks }
