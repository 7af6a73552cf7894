-- `starting::start_for_date` meets its contract: the slot that the id names starts to wait in the dated chain. Assumes nothing.
use borrow.Author.Tests.{eq-eqb, ne_eqb}
use mathlib.Core.Path.{refl}
use native.Mathlib.Omega.{arith}
use Rattle.std.proofs.Common.{rules}
use Rattle.model.specs.declared.Status.TheVariants.{InvalidId, InvalidAddress, NotDefined, InvalidClock}
use Rattle.laws.proofs.SoundHolds.{sound-header}
use Rattle.answers.proofs.Replies.{clock-unset, clock-running}
use Rattle.std.proofs.lemmas.Result.{err_from_is_err_and}
use Rattle.slots.proofs.Laws.{refused_as}
use Rattle.opening.proofs.Ids.{named, not_known}
use Rattle.starting.proofs.Dates.{not-a-date, past-date, later-date, dated-is}
use Rattle.links.proofs.Restart.{is_slot}
use Rattle.starting.proofs.Starts.{start-refuses, start-done}
use Rattle.starting.proofs.start_for_date.Goals as goal

pub bounds-table-2 : goal.bounds-table-2
bounds-table-2 c = let h = sound-header _ c.requires in omega arith

pub returns-then-table-ne1 : goal.returns-then-table-ne1
returns-then-table-ne1 c = start-refuses _ _ _ _ _ _ _ NotDefined 0 tt (clock-unset c.args.table.now c.if-table-ne1.true) refl

pub returns-then-routine-eq0 : goal.returns-then-routine-eq0
returns-then-routine-eq0 c =
    start-refuses _ _ _ _ _ _ _ InvalidAddress 1 (clock-running c.args.table.now (omega arith), tt) (eq-eqb _ 0 c.if-routine-eq0.true) refl

pub returns-in_err-date : goal.returns-in_err-date
returns-in_err-date c =
    let t = c.args.table.now in
    let p = err_from_is_err_and c.from_residual.result c.from_residual.ensures.1 in
    rw (p.1, p.2, refused_as _ c.in_err-date.ensures.value)
    (start-refuses _ _ _ _ _ _ _ InvalidClock 2 (clock-running t (omega arith), (ne_eqb _ 0 c.if-routine-eq0.false, tt))
    (not-a-date t _ c.to_seconds.ensures c.in_err-date.ensures.ok_part) refl)

pub bounds-table-3 : goal.bounds-table-3
bounds-table-3 c = let h = sound-header _ c.requires in omega arith

pub returns-then-date-table : goal.returns-then-date-table
returns-then-date-table c =
    let t = c.args.table.now in
    start-refuses _ _ _ _ _ _ _ InvalidClock 2 (clock-running t (omega arith), (ne_eqb _ 0 c.if-routine-eq0.false, tt))
    (past-date t _ c.to_seconds.ensures c.in_ok-date.ensures.ok_part (omega (arith, c.if-date-table.true))) refl

pub returns-in_err-i : goal.returns-in_err-i
returns-in_err-i c =
    let t = c.args.table.now in
    let later = later-date t _ c.to_seconds.ensures c.in_ok-date.ensures.ok_part (omega (arith, c.if-date-table.false)) in
    let p = err_from_is_err_and c.from_residual-in_err-i.result c.from_residual-in_err-i.ensures.1 in
    rw (p.1, p.2, refused_as _ c.in_err-i.ensures.value)
    (start-refuses _ _ _ _ _ _ _ InvalidId 3 (clock-running t (omega arith), (ne_eqb _ 0 c.if-routine-eq0.false, (later, tt)))
    (not_known _ _ _ c.named.ensures c.in_err-i.ensures.ok_part) refl)

pub invariant_of-timers : goal.invariant_of-timers
invariant_of-timers c = record { in_order = (named c.requires c.named.ensures c.in_ok-i.ensures.ok_part).place.holds }

pub start-requires : goal.start-requires
start-requires c = is_slot (named c.requires c.named.ensures c.in_ok-i.ensures.ok_part).place

pub returns : goal.returns
returns c =
    let a = c.args in
    let t = a.table.now in
    let later = later-date t _ c.to_seconds.ensures c.in_ok-date.ensures.ok_part (omega (arith, c.if-date-table.false)) in
    let at = named c.requires c.named.ensures c.in_ok-i.ensures.ok_part in
    start-done _ _ _ _ _ _ _ (clock-running t (omega arith), (ne_eqb _ 0 c.if-routine-eq0.false, (later, (at.rule, tt))))
    (dated-is t a.mode a.when a.routine a.user_data c.to_seconds.ensures c.in_ok-date.ensures.ok_part at.index (search rules))
