-- `clock::get_clock` meets its contract: the seconds of a sound table are in the calendar, so that the date is always found. Assumes nothing.
use mathlib.Core.List.{List, []}
use mathlib.Core.Path.{ap, refl}
use Prim.Native.Nat.{ℕ}
use native.Mathlib.Omega.{arith}
use Rattle.model.specs.declared.Status.TheVariants.{NotDefined, NotSound}
use Rattle.laws.proofs.SoundHolds.{sound-header}
use Rattle.answers.proofs.Replies.{Tested, tested, not_same, refuses, done, same-table, clock-unset, clock-running}
use Rattle.clock.proofs.Clocks.{in-calendar, time-now}
use mathlib.Core.Bool.{not}
use Rattle.clock.proofs.get_clock.Goals as goal
use Rattle.clock.proofs.get_clock.Goals.{Else-not-is_sound}

-- ---- the table is sound

abbrev t : Else-not-is_sound → List ℕ
t b = b.args.table.now

sure : (b : Else-not-is_sound) → Tested (t b)
sure b = tested b.is_sound.ensures (ap not b.if-not-is_sound.false)

-- ---- the needs

pub returns-then-not-is_sound : goal.returns-then-not-is_sound
returns-then-not-is_sound c = refuses _ _ NotSound 0 tt (not_same c.is_sound.ensures (ap not c.if-not-is_sound.true)) refl

pub bounds-table-2 : goal.bounds-table-2
bounds-table-2 c = let h = sound-header _ (sure (goal.at.bounds-table-2 c).Else-not-is_sound).ok in omega arith

pub returns-then-table-ne1 : goal.returns-then-table-ne1
returns-then-table-ne1 c = let b = (goal.at.returns-then-table-ne1 c).Else-not-is_sound in refuses _ _ NotDefined 1 ((sure b).rule, tt) (clock-unset (t b) c.if-table-ne1.true) refl

pub bounds-table-3 : goal.bounds-table-3
bounds-table-3 c = let h = sound-header _ (sure (goal.at.bounds-table-3 c).Else-not-is_sound).ok in omega arith

pub returns-in_err-date : goal.returns-in_err-date
returns-in_err-date c =
    let b = (goal.at.returns-in_err-date c).Else-not-is_sound in
    absurd (in-calendar (t b) (sure b).ok c.from_seconds.ensures c.in_err-date.ensures.ok_part)

pub bounds-table-4 : goal.bounds-table-4
bounds-table-4 c = let h = sound-header _ (sure (goal.at.bounds-table-4 c).Else-not-is_sound).ok in omega arith

pub returns : goal.returns
returns c =
    let b = (goal.at.returns c).Else-not-is_sound in
    done _ _ _ _ [] ((sure b).rule, (clock-running (t b) c.if-table-ne1.false, tt))
    (time-now (t b) c.from_seconds.ensures c.in_ok-date.ensures.ok_part) (same-table _ (sure b).ok) refl
