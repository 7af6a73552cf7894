-- `Table::stop` meets its contract: a timer that waits is extracted from its chain, and any other is stopped already. Assumes nothing.
use Rattle.std.proofs.Common.{◌∙◌, refl, sym, ap}
use Rattle.model.specs.Kinds.{is_some, linked}
use Rattle.links.proofs.StoppedKinds.{unknown-apart, linked-here, stopped-already}
use Rattle.links.proofs.Restart.{in_table}
use Rattle.links.proofs.Kept.{stop_keeps}
use Rattle.links.proofs.Table.stop.Goals as goal

pub returns-in_default : goal.returns-in_default
returns-in_default c =
    let t = c.args.self.now in
    let stays = stopped-already t.words.now c.args.i c.get.result (in_table t.in_order c.requires) c.get.ensures (unknown-apart c.get.result c.in_default.ensures) in
    record { table = record { same_words = refl; is = stays.0 }; was_linked = stays.1 }

pub returns-in_default-chain : goal.returns-in_default-chain
returns-in_default-chain c =
    let t = c.args.self.now in
    let stays =
    stopped-already t.words.now c.args.i c.get.result (in_table t.in_order c.requires) c.get.ensures
    (ap linked (sym c.in-Ok.ensures) ∙ sym (ap is_some c.in_default-chain.ensures)) in
    record { table = record { same_words = refl; is = stays.0 }; was_linked = stays.1 }

pub returns-clause-was_linked : goal.returns-clause-was_linked
returns-clause-was_linked c =
    let t = c.args.self.now in
    ap is_some c.in-Some.ensures ∙ ap linked c.in-Ok.ensures ∙ linked-here t.words.now c.args.i c.get.result (in_table t.in_order c.requires) c.get.ensures

pub invariant_of-self-2 : goal.invariant_of-self-2
invariant_of-self-2 c =
    let t = c.args.self.now in
    record { in_order = stop_keeps t.words.now _ c.args.i (in_table t.in_order c.requires) c.stop_in.ensures }
