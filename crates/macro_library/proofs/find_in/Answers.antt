-- `macro_library::find_in` meets its contract: what is sought from the start is what is sought from the place reached. Assumes nothing.
use mathlib.Core.Path.{sym, ◌∙◌}
use native.Mathlib.Omega.{arith}
use Rattle.macro_library.proofs.LibraryLaws.{none_left, entry-cut, entry_named, entry_other}
use Rattle.macro_library.proofs.find_in.Goals as goal

pub returns-then-library-start : goal.returns-then-library-start
returns-then-library-start c =
    let l = c.args.library.now in
    let x = c.args.name in
    let at = c.loop-at.at in
    let inv = c.loop-at.invariant in
    sym (inv.1 ∙ entry-cut x l at (omega arith) c.if-library-start.true)

pub returns-then-library-at : goal.returns-then-library-at
returns-then-library-at c =
    let l = c.args.library.now in
    let x = c.args.name in
    let at = c.loop-at.at in
    let inv = c.loop-at.invariant in
    sym (inv.1 ∙ entry_named x l at (omega arith) c.if-library-start.false c.if-library-at.true)

pub loop-at-preserved : goal.loop-at-preserved
loop-at-preserved c =
    let l = c.args.library.now in
    let x = c.args.name in
    let at = c.loop-at.at in
    let inv = c.loop-at.invariant in
    (omega arith, inv.1 ∙ entry_other x l at (omega arith) c.if-library-start.false c.if-library-at.false)

pub returns : goal.returns
returns c =
    let l = c.args.library.now in
    let x = c.args.name in
    let at = c.loop-at.at in
    let inv = c.loop-at.invariant in
    sym (inv.1 ∙ none_left x l at c.loop-at-test.false)
