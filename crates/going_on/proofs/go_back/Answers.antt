-- `going_on::go_back` meets its contract: an idle periodic timer waits again, and any other stays. Assumes nothing.
use Rattle.std.proofs.Common.{◌≡◌, ◌∙◌, refl, arith}
use Rattle.model.specs.Words.{kind_of}
use Rattle.links.proofs.Restart.{in_table}
use Rattle.going_on.proofs.GoingBack.{stays-where, waits-words, marks-own, again-from}
use Rattle.going_on.proofs.go_back.Goals as goal

pub returns-then-get-clause-back : goal.returns-then-get-clause-back
returns-then-get-clause-back c = record {
  table = stays-where (in_table c.args.table.now.in_order c.requires.here) (λ e. c.if-get.true (c.get.ensures ∙ e));
  mark = c.requires.mark;
}

pub wait_again-requires : goal.wait_again-requires
wait_again-requires c =
    let t = c.args.table.now in
    let seven : kind_of t.words.now c.args.i ≡ 7 = omega arith in
    again-from (in_table t.in_order c.requires.here) seven c.requires.mark c.get-interval.ensures c.seek_from-sought.ensures

pub returns-clause-back : goal.returns-clause-back
returns-clause-back c =
    let t = c.args.table.now in
    let at = in_table t.in_order c.requires.here in
    let seven : kind_of t.words.now c.args.i ≡ 7 = omega arith in
    record { table = waits-words at seven c.wait_again.ensures.is; mark = marks-own at seven refl c.get-interval.ensures c.wait_again.ensures.is }
