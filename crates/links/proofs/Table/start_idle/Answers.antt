-- `Table::start_idle` meets its contract: the slot goes where `find_place` says, and the words are those of the started state. Assumes nothing.
use Rattle.std.proofs.Common.{◌∙◌, refl}
use Rattle.links.proofs.Inserting.{insertable, start-words}
use Rattle.links.proofs.Restart.{in_table}
use Rattle.links.proofs.Kept.{start_keeps}
use Rattle.links.proofs.Table.start_idle.Goals as goal

pub find_place-place-requires : goal.find_place-place-requires
find_place-place-requires c = c.args.self.now.in_order

pub insert-requires : goal.insert-requires
insert-requires c =
    let a = c.args in
    let t = a.self.now in
    let place = c.find_place-place in
    insertable c.chain_for-chain.result t.words.now a.i (in_table t.in_order c.requires.slot) c.requires.idle a.amount place.result.before place.result.wait
    place.ensures

pub returns : goal.returns
returns c =
    let a = c.args in
    let t = a.self.now in
    let place = c.find_place-place in
    record {
      same_words = refl;
      is = start-words c.chain_for-chain.result t.words.now a.i (in_table t.in_order c.requires.slot) c.requires.idle a.amount place.result.before place.result.wait
          place.ensures a.mode c.chain_for-chain.ensures a.routine a.user_data _
          c.insert.ensures (c.into.ensures ∙ c.waiting_kind-kind.ensures) c.interval_in-interval.ensures c.put_timer.ensures;
    }

pub invariant_of-self : goal.invariant_of-self
invariant_of-self c =
    let a = c.args in
    let t = a.self.now in
    let there = in_table t.in_order c.requires.slot in
    let place = c.find_place-place in
    record {
      in_order = start_keeps t.words.now _ a.i there a.mode a.amount a.routine a.user_data
          (start-words c.chain_for-chain.result t.words.now a.i there c.requires.idle a.amount place.result.before place.result.wait
          place.ensures a.mode c.chain_for-chain.ensures a.routine a.user_data _
          c.insert.ensures (c.into.ensures ∙ c.waiting_kind-kind.ensures) c.interval_in-interval.ensures c.put_timer.ensures);
    }
