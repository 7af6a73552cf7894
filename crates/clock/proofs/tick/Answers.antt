-- `clock::tick` meets its contract: the tests, and the tick of a sound table. Assumes nothing.
use mathlib.Core.List.{List, []}
use mathlib.Core.Path.{refl}
use Prim.Native.Nat.{ℕ}
use Rattle.answers.proofs.Openings.{hands-on}
use Rattle.clock.specs.Lent.{Lent}
use Rattle.clock.proofs.Clocks.{lent-ready, tick-done}
use Rattle.clock.proofs.tick.Goals as goal
use Rattle.clock.proofs.tick.Goals.{In_ok-end}

-- ---- the table is sound and the list long enough

module _ (o : In_ok-end) where
  abbrev t : List ℕ
  t = o.args.table.now

  abbrev list : List ℕ
  list = o.args.fired.now

  lent : Lent t list o.in_ok-end.end
  lent = o.in_ok-end.ensures.holds _ refl

-- ---- the needs

pub returns-in_err-end : goal.returns-in_err-end
returns-in_err-end c = hands-on _ _ _ c.from_residual.ensures.1 c.in_err-end.ensures [] refl refl

pub tick-listed-requires : goal.tick-listed-requires
tick-listed-requires c = let o = (goal.at.tick-listed-requires c).In_ok-end in lent-ready (t o) (list o) (lent o)

pub returns : goal.returns
returns c =
    let o = (goal.at.returns c).In_ok-end in
    let l = lent o in
    tick-done (t o) (list o) (l.tested, (l.rule, tt)) c.tick-listed.ensures
