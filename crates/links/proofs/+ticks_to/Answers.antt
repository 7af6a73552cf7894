-- `links::ticks_to` meets its contract: the slot before is nearer to the chain's start, and its ticks left and the slot's wait are the
-- slot's ticks left. Assumes nothing.
use Rattle.std.proofs.Common.{ℕ, ◌+◌, ◌*◌, ◌<◌, ◌∙◌, sym, subst, arith}
use Rattle.model.specs.Words.{read, previous_of}
use Rattle.links.proofs.Positions.{position}
use Rattle.links.proofs.BackAlongChain.{none_before, before}
use Rattle.links.proofs.+ticks_to.Goals as goal

pub get-wait-requires : goal.get-wait-requires
get-wait-requires t c = (omega arith, (before c.args.t.now c.args.i c.requires).inside)

pub get-p-requires : goal.get-p-requires
get-p-requires t c = (omega arith, (before c.args.t.now c.args.i c.requires).inside)

pub returns-then-p-eq0 : goal.returns-then-p-eq0
returns-then-p-eq0 t c =
    let none = none_before c.args.t.now c.requires.0 _ (sym c.get-p.ensures ∙ c.if-p-eq0.true) in
    omega (arith, (before c.args.t.now c.args.i c.requires).sum, none, c.get-wait.ensures)

pub ticks_to-requires : goal.ticks_to-requires
ticks_to-requires t c =
    let b = before c.args.t.now c.args.i c.requires in
    rw c.get-p.ensures (
      subst (λ (j : ℕ). position (previous_of c.args.t.now c.args.i) (read c.args.t.now).ticking < j) c.decreases b.less,
      (c.requires.0, b.there (omega (arith, c.get-p.ensures, c.if-p-eq0.false))),
    )

pub overflow_add-result : goal.overflow_add-result
overflow_add-result t c =
    let b = before c.args.t.now c.args.i c.requires in
    let e = rw c.get-p.ensures at c.ticks_to.ensures in
    omega (arith, b.sum, b.fits, e, c.get-wait.ensures, c.type_inv.t (2 + 8 * c.args.i + 2))

pub returns : goal.returns
returns t c =
    let b = before c.args.t.now c.args.i c.requires in
    let e = rw c.get-p.ensures at c.ticks_to.ensures in
    omega (arith, b.sum, e, c.get-wait.ensures)
