-- `leaping::run_clock` meets its contract: the ticks into the second and those to come are whole seconds and a rest. Assumes nothing.
use Rattle.std.proofs.Common.{arith}
use Rattle.std.proofs.Math.ListN.{length-set}
use Rattle.leaping.proofs.ClockRuns.{run_long, run-rate, run_fits, run-second-fits, run-unset, run_on, run_ends}
use Rattle.leaping.proofs.run_clock.Goals as goal

pub bounds-t-2 : goal.bounds-t-2
bounds-t-2 c = omega (arith, run_long c.args.t.now c.requires.0 0)

pub returns-then-t-ne1 : goal.returns-then-t-ne1
returns-then-t-ne1 c = run-unset c.args.t.now c.requires.0 c.args.ticks c.if-t-ne1.true

pub bounds-t-4 : goal.bounds-t-4
bounds-t-4 c = omega (arith, run_long c.args.t.now c.requires.0 0)

pub overflow_add-into : goal.overflow_add-into
overflow_add-into c = omega (arith, run_fits c.args.t.now c.requires.0 c.args.ticks c.requires.1)

pub bounds-t-3 : goal.bounds-t-3
bounds-t-3 c = omega (arith, run_long c.args.t.now c.requires.0 0)

pub nonzero_div-reached : goal.nonzero_div-reached
nonzero_div-reached c = omega (arith, run-rate c.args.t.now c.requires.0 0)

pub overflow_add-reached : goal.overflow_add-reached
overflow_add-reached c = omega (arith, run-second-fits c.args.t.now c.requires.0 c.args.ticks c.requires.1)

pub overflow_sub-t : goal.overflow_sub-t
overflow_sub-t c = omega (arith, run-rate c.args.t.now c.requires.0 0)

pub bounds-t-4-then-reached-gt-LAST_SECOND : goal.bounds-t-4-then-reached-gt-LAST_SECOND
bounds-t-4-then-reached-gt-LAST_SECOND c = omega (arith, run_long c.args.t.now c.requires.0 0)

pub returns-then-reached-gt-LAST_SECOND : goal.returns-then-reached-gt-LAST_SECOND
returns-then-reached-gt-LAST_SECOND c =
    run_ends c.args.t.now c.requires.0 c.args.ticks c.if-t-ne1.false c.if-reached-gt-LAST_SECOND.true

pub nonzero_rem-t : goal.nonzero_rem-t
nonzero_rem-t c = omega (arith, run-rate c.args.t.now c.requires.0 0)

pub bounds-t-4-2 : goal.bounds-t-4-2
bounds-t-4-2 c = omega (arith, run_long c.args.t.now c.requires.0 0)

pub bounds-t-3-2 : goal.bounds-t-3-2
bounds-t-3-2 c = simp length-set (omega (arith, run_long c.args.t.now c.requires.0 0))

pub returns : goal.returns
returns c = run_on c.args.t.now c.requires.0 c.args.ticks c.if-t-ne1.false c.if-reached-gt-LAST_SECOND.false
