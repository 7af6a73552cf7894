-- `leaping::until_date` meets its contract: there is no date to come, or the ticks until the first are reckoned. Assumes nothing.
use Rattle.std.proofs.Common.{arith}
use Rattle.laws.proofs.SoundHolds.{sound-header}
use Rattle.leaping.proofs.ClockRuns.{run_long}
use Rattle.leaping.proofs.Soonest.{no-date, some-date, dated-inside, date-later}
use Rattle.leaping.proofs.until_date.Goals as goal

pub bounds-t-6 : goal.bounds-t-6
bounds-t-6 c = omega (arith, run_long c.args.t.words.now c.args.t.is_sound 0)

pub returns-then-i-eq0 : goal.returns-then-i-eq0
returns-then-i-eq0 c = no-date c.args.t.words.now c.args.t.is_sound c.args.most c.if-i-eq0.true

pub get-date-requires : goal.get-date-requires
get-date-requires c = (omega arith, dated-inside c.args.t.words.now c.args.t.is_sound c.if-i-eq0.false)

pub overflow_sub-date : goal.overflow_sub-date
overflow_sub-date c = omega (arith, date-later c.args.t.words.now c.args.t.is_sound c.if-i-eq0.false, c.get-date.ensures)

pub ticks_away-ticks-requires : goal.ticks_away-ticks-requires
ticks_away-ticks-requires c =
    let h = sound-header c.args.t.words.now c.args.t.is_sound in
    let later = date-later c.args.t.words.now c.args.t.is_sound c.if-i-eq0.false in
    (omega (arith, later, c.get-date.ensures), omega (arith, h.per-high), omega (arith, h.into))

pub returns-then-ticks-from : goal.returns-then-ticks-from
returns-then-ticks-from c =
    omega (
      arith,
      some-date c.args.t.words.now c.args.t.is_sound c.args.most c.get-date.result c.ticks_away-ticks.result c.if-i-eq0.false c.get-date.ensures
          c.ticks_away-ticks.ensures,
      c.if-ticks-from.true,
      c.from.ensures,
    )

pub returns : goal.returns
returns c =
    omega (
      arith,
      some-date c.args.t.words.now c.args.t.is_sound c.args.most c.get-date.result c.ticks_away-ticks.result c.if-i-eq0.false c.get-date.ensures
          c.ticks_away-ticks.ensures,
      c.if-ticks-from.false,
      c.from.ensures,
    )
