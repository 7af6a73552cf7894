-- `going_on::put_back` meets its contract: what is left to do from an entry on is done by its turn and what is left from the next one on.
-- Assumes nothing.
use Rattle.std.proofs.Common.{refl, ◌∙◌}
use Rattle.going_on.proofs.GoingBack.{backing-start, backing-end, backing-again}
use Rattle.going_on.proofs.put_back.Goals as goal

pub loop-j-init : goal.loop-j-init
loop-j-init c = (backing-start c.args.table.now.in_order c.requires refl refl, refl)

pub loop-j-preserved : goal.loop-j-preserved
loop-j-preserved c =
    let i = c.loop-j.invariant in (
      backing-again c.args.table.now.in_order c.requires i.0 c.loop-j-test.true c.slot_listed-i.ensures c.go_back-mark.ensures.back,
      c.go_back-mark.ensures.same ∙ i.1,
    )

pub returns : goal.returns
returns c = record {
  same_words = c.loop-j.invariant.1;
  is = backing-end c.args.table.now.in_order c.requires c.loop-j.invariant.0 c.loop-j-test.false;
}
