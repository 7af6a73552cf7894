-- `timer::ident` meets its contract: each answer is by the rules that its tests tried. Assumes nothing.
use borrow.Author.Tests.{eq-eqb, ne_eqb}
use mathlib.Core.List.{[]}
use mathlib.Core.Path.{refl}
use native.Mathlib.Omega.{arith}
use Rattle.std.proofs.lemmas.Result.{err_from_is_err_and}
use Rattle.model.specs.declared.Status.TheVariants.{InvalidName}
use Rattle.laws.proofs.SoundHolds.{sound-header}
use Rattle.slots.proofs.Laws.{refused_as}
use Rattle.answers.proofs.Replies.{refuses, done, same-table}
use Rattle.answers.proofs.Openings.{hands-on}
use Rattle.timer.proofs.Lookups.{none_found, some-found, id-found, name-high}
use Rattle.timer.proofs.ident.Goals as goal

pub returns-in_err-open_party : goal.returns-in_err-open_party
returns-in_err-open_party c = hands-on _ _ _ c.from_residual.ensures.1 c.in_err-open_party.ensures _ refl refl

pub returns-then-name-eq0 : goal.returns-then-name-eq0
returns-then-name-eq0 c =
    let m = c.in_ok-open_party.ensures.holds _ refl in refuses _ _ InvalidName 2 (m.tested, (m.rule, tt)) (eq-eqb _ 0 c.if-name-eq0.true) refl

pub returns-in_err-i : goal.returns-in_err-i
returns-in_err-i c =
    let m = c.in_ok-open_party.ensures.holds _ refl in
    let p = err_from_is_err_and c.from_residual-in_err-i.result c.from_residual-in_err-i.ensures.1 in
    rw (p.1, p.2, refused_as _ c.in_err-i.ensures.value)
    (refuses _ _ InvalidName 3 (m.tested, (m.rule, (ne_eqb _ 0 c.if-name-eq0.false, tt))) (none_found _ c.slot_called.ensures c.in_err-i.ensures.ok_part) refl)

pub overflow_add-result : goal.overflow_add-result
overflow_add-result c =
    omega (arith, name-high c.args.table.now _ _ c.slot_called.ensures c.in_ok-i.ensures.ok_part, (sound-header _ (c.in_ok-open_party.ensures.holds _ refl).ok).few)

pub returns : goal.returns
returns c =
    let m = c.in_ok-open_party.ensures.holds _ refl in
    let found = c.in_ok-i.ensures.ok_part in
    done _ _ _ _ [] (m.tested, (m.rule, (ne_eqb _ 0 c.if-name-eq0.false, (some-found _ c.slot_called.ensures found, tt)))) (id-found _ c.slot_called.ensures found)
    (same-table _ m.ok) refl
