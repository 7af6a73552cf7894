-- `timer::lay_out` meets its contract: the words cleared, with N, T and L in front, are those of the table laid out. Assumes nothing.
use borrow.Author.Tests.{le-ltb, lt-ltb}
use mathlib.Core.List.{[], ◌∷◌}
use mathlib.Core.Path.{refl}
use Prim.Native.Nat.{◌+◌, ◌*◌}
use native.Mathlib.Omega.{arith}
use lib.ListN.{length}
use Rattle.model.specs.declared.Status.TheVariants.{InvalidSize, InvalidNumber}
use Rattle.answers.proofs.Replies.{not_same, refuses, done}
use Rattle.timer.proofs.Tables.{laid-is}
use Rattle.timer.proofs.lay_out.Goals as goal

pub returns-then-not-numbers_fit : goal.returns-then-not-numbers_fit
returns-then-not-numbers_fit c = refuses _ _ InvalidNumber 0 tt (not_same c.if-not-numbers_fit.ensures refl) refl

pub returns-then-table-words : goal.returns-then-table-words
returns-then-table-words c =
    let a = c.args in
    refuses _ _ InvalidSize 1 (not_same c.if-not-numbers_fit.ensures refl, tt)
    (lt-ltb (length a.table.now) (10 + 8 * a.slots) (omega (arith, c.if-table-words.true))) refl

pub returns : goal.returns
returns c =
    let a = c.args in
    let t = a.table.now in
    done _ _ (0 ∷ []) _ [] (not_same c.if-not-numbers_fit.ensures refl, (le-ltb (length t) (10 + 8 * a.slots) c.if-table-words.false, tt)) refl
    (laid-is t _ a.slots a.rate a.split c.clear.ensures) refl
