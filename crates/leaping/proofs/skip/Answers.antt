-- `leaping::skip` meets its contract: the clock first, then the interval timers. Assumes nothing.
use Rattle.std.proofs.Common.{rules}
use Rattle.leaping.proofs.Soonest.{skip-holds, skip-nearable, skip_is}
use Rattle.leaping.proofs.skip.Goals as goal

pub invariant_of-table : goal.invariant_of-table
invariant_of-table c = record { in_order = skip-holds c.args.t.now c.requires.0 c.args.ticks c.requires.2 c.run_clock.ensures }

pub come_nearer-requires : goal.come_nearer-requires
come_nearer-requires c = skip-nearable c.args.t.now c.requires.0 c.args.ticks c.requires.2 c.run_clock.ensures

pub returns : goal.returns
returns c = skip_is c.args.t.now c.requires.0 c.args.ticks c.requires.2 c.run_clock.ensures (search rules)
