-- `clock::leap` meets its contract: the tests, and the leap of a sound table. Assumes nothing.
use mathlib.Core.List.{List, [], ◌∷◌}
use mathlib.Core.Path.{refl}
use Prim.Native.Nat.{ℕ}
use borrow.Author.Tests.{lt-ltb, le-ltb}
use Rattle.std.proofs.lemmas.Result.{err_from_is_err_and}
use Rattle.model.specs.declared.Status.TheVariants.{InvalidNumber}
use Rattle.model.specs.Status.{when}
use Rattle.model.specs.Calls.{leap}
use Rattle.model.specs.Directives.{most_leap}
use Rattle.answers.proofs.Replies.{refuses}
use Rattle.answers.proofs.Openings.{refuses-with}
use Rattle.clock.specs.Lent.{Lent}
use Rattle.clock.proofs.Clocks.{lent-ready, leap-done}
use Rattle.clock.proofs.leap.Goals as goal
use Rattle.clock.proofs.leap.Goals.{In_ok-end}

-- ---- the table is sound and the list long enough

module _ (o : In_ok-end) where
  abbrev t : List ℕ
  t = o.args.table.now

  abbrev list : List ℕ
  list = o.args.fired.now

  abbrev ticks : ℕ
  ticks = o.args.ticks

  lent : Lent t list o.in_ok-end.end
  lent = o.in_ok-end.ensures.holds _ refl

-- ---- the needs

pub returns-in_err-end : goal.returns-in_err-end
returns-in_err-end c =
    let p = err_from_is_err_and c.from_residual.result c.from_residual.ensures.1 in rw (p.1, p.2) (refuses-with _ _ c.in_err-end.ensures refl (when InvalidNumber _ ∷ []) refl (0 ∷ []) refl)

pub returns-then-ticks-gt-MOST_LEAP : goal.returns-then-ticks-gt-MOST_LEAP
returns-then-ticks-gt-MOST_LEAP c =
    let o = (goal.at.returns-then-ticks-gt-MOST_LEAP c).In_ok-end in
    let l = lent o in
    refuses (t o) (leap (ticks o) (list o)) InvalidNumber 2 (l.tested, (l.rule, tt)) (lt-ltb most_leap (ticks o) c.if-ticks-gt-MOST_LEAP.true) refl

pub leap-gone-requires : goal.leap-gone-requires
leap-gone-requires c = let o = (goal.at.leap-gone-requires c).In_ok-end in (lent-ready (t o) (list o) (lent o), c.if-ticks-gt-MOST_LEAP.false)

pub returns : goal.returns
returns c =
    let o = (goal.at.returns c).In_ok-end in
    let l = lent o in
    leap-done (t o) (list o) (l.tested, (l.rule, (le-ltb most_leap (ticks o) c.if-ticks-gt-MOST_LEAP.false, tt))) c.leap-gone.ensures
