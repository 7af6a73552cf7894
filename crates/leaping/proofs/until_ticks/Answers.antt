-- `leaping::until_ticks` meets its contract: there is no interval timer, or the first one's wait is read. Assumes nothing.
use Rattle.std.proofs.Common.{arith}
use Rattle.leaping.proofs.ClockRuns.{run_long}
use Rattle.leaping.proofs.Soonest.{some-ticks, ticking-inside}
use Rattle.leaping.proofs.until_ticks.Goals as goal

pub bounds-t-5 : goal.bounds-t-5
bounds-t-5 c = omega (arith, run_long c.args.t.words.now c.args.t.is_sound 0)

pub get-w-requires : goal.get-w-requires
get-w-requires c = (omega arith, ticking-inside c.args.t.words.now c.args.t.is_sound c.if-i-eq0.false)

pub returns-then-w-most : goal.returns-then-w-most
returns-then-w-most c =
    omega (arith, some-ticks c.args.t.words.now c.args.t.is_sound c.args.most c.get-w.result c.if-i-eq0.false c.get-w.ensures, c.if-w-most.true)
