-- `leaping::leap` meets its contract: the ticks in which no timer is due, at once; and one tick, if a timer is due then. Assumes nothing.
use Rattle.std.proofs.Common.{arith}
use Rattle.leaping.proofs.Leaping.{jump-far, jump-done, done-low, skip-few, skip-far, skipped-ready, leap-done}
use Rattle.leaping.proofs.leap.Goals as goal

pub skip-requires : goal.skip-requires
skip-requires c =
    let r = c.requires in
    (r.0.ok, r.1, jump-far _ c.args.list.now r.0 _ r.1 c.until_due-ticks.ensures c.if-most-ticks.true)

pub returns-then-most-ticks : goal.returns-then-most-ticks
returns-then-most-ticks c =
    let a = c.args in
    jump-done a.t.now a.list.now c.requires.0 a.most c.requires.1 c.until_due-ticks.ensures c.if-most-ticks.true c.skip.ensures

pub overflow_sub-ticks : goal.overflow_sub-ticks
overflow_sub-ticks c =
    let a = c.args in
    omega (arith, done-low a.t.now a.list.now c.requires.0 a.most c.requires.1 c.until_due-ticks.ensures c.if-most-ticks.false)

pub skip-requires-2 : goal.skip-requires-2
skip-requires-2 c =
    let a = c.args in
    let r = c.requires in (
      r.0.ok,
      skip-few a.t.now a.list.now r.0 a.most r.1 c.until_due-ticks.ensures c.if-most-ticks.false,
      skip-far a.t.now a.list.now r.0 a.most r.1 c.until_due-ticks.ensures c.if-most-ticks.false,
    )

pub tick-fired-requires : goal.tick-fired-requires
tick-fired-requires c =
    let a = c.args in
    skipped-ready a.t.now a.list.now c.requires.0 a.most c.requires.1 c.until_due-ticks.ensures c.if-most-ticks.false c.skip-2.ensures

pub returns : goal.returns
returns c =
    let a = c.args in
    leap-done a.t.now a.list.now c.requires.0 a.most c.requires.1 c.until_due-ticks.ensures c.if-most-ticks.false c.skip-2.ensures
    c.tick-fired.ensures
