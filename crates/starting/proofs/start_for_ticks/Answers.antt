-- `starting::start_for_ticks` meets its contract: the slot that the id names starts to wait. Assumes nothing.
use borrow.Author.Tests.{eq-eqb, ne_eqb}
use mathlib.Core.Path.{refl}
use native.Mathlib.Omega.{arith}
use Rattle.std.proofs.Common.{rules}
use Rattle.model.specs.declared.Status.TheVariants.{InvalidId, InvalidAddress, InvalidNumber}
use Rattle.model.specs.Directives.{started}
use Rattle.model.specs.Words.{read}
use Rattle.std.proofs.lemmas.Result.{err_from_is_err_and}
use Rattle.slots.proofs.Laws.{refused_as}
use Rattle.opening.proofs.Ids.{named, not_known, at-index}
use Rattle.links.proofs.Restart.{is_slot}
use Rattle.starting.proofs.Starts.{start-refuses, start-done}
use Rattle.starting.proofs.start_for_ticks.Goals as goal

pub returns-then-ticks-eq0 : goal.returns-then-ticks-eq0
returns-then-ticks-eq0 c = start-refuses _ _ _ _ _ _ _ InvalidNumber 0 tt (eq-eqb _ 0 c.if-ticks-eq0.true) refl

pub returns-then-routine-eq0 : goal.returns-then-routine-eq0
returns-then-routine-eq0 c =
    start-refuses _ _ _ _ _ _ _ InvalidAddress 1 (ne_eqb _ 0 (omega arith), tt) (eq-eqb _ 0 c.if-routine-eq0.true) refl

pub returns-in_err-i : goal.returns-in_err-i
returns-in_err-i c =
    let p = err_from_is_err_and c.from_residual.result c.from_residual.ensures.1 in
    rw (p.1, p.2, refused_as _ c.in_err-i.ensures.value)
    (start-refuses _ _ _ _ _ _ _ InvalidId 2 (ne_eqb _ 0 c.if-ticks-eq0.false, (ne_eqb _ 0 c.if-routine-eq0.false, tt))
    (not_known _ _ _ c.named.ensures c.in_err-i.ensures.ok_part) refl)

pub invariant_of-timers : goal.invariant_of-timers
invariant_of-timers c = record { in_order = (named c.requires c.named.ensures c.in_ok-i.ensures.ok_part).place.holds }

pub start-requires : goal.start-requires
start-requires c = is_slot (named c.requires c.named.ensures c.in_ok-i.ensures.ok_part).place

pub returns : goal.returns
returns c =
    let a = c.args in
    let at = named c.requires c.named.ensures c.in_ok-i.ensures.ok_part in
    start-done _ _ _ _ _ _ _ (ne_eqb _ 0 c.if-ticks-eq0.false, (ne_eqb _ 0 c.if-routine-eq0.false, (at.rule, tt)))
    (at-index (λ k. started a.mode (read a.table.now) k a.ticks a.routine a.user_data) at (search rules))
