-- `firing::step_clock` meets its contract: the chains stay in order. Assumes nothing.
use Rattle.firing.proofs.ClockWords.{step_keeps, step-within, step-next}
use Rattle.firing.proofs.step_clock.Goals as goal

pub invariant_of-table-then-ticks-words : goal.invariant_of-table-then-ticks-words
invariant_of-table-then-ticks-words c =
    let t = c.args.table.now in
    record { in_order = step_keeps t.words.now t.in_order (step-within t.words.now t.in_order c.if-words-ne1.false c.if-ticks-words.true) }

pub invariant_of-table-then-second-last : goal.invariant_of-table-then-second-last
invariant_of-table-then-second-last c =
    let t = c.args.table.now in
    record {
      in_order = step_keeps t.words.now t.in_order
          (step-next t.words.now t.in_order c.if-words-ne1.false c.if-ticks-words.false c.if-second-last.true);
    }
