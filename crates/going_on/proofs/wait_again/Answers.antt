-- `going_on::wait_again` meets its contract: the slot goes where `place_from` says, and the words are those of the state in which it waits again.
-- Assumes nothing.
use Rattle.std.proofs.Common.{refl}
use Rattle.going_on.proofs.WaitingAgain.{again-insertable, again-words, again_keeps}
use Rattle.going_on.proofs.wait_again.Goals as goal

pub insert-requires : goal.insert-requires
insert-requires c =
    let a = c.args in
    let t = a.table.now in
    again-insertable t.words.now a.i a.from a.left t.in_order c.requires c.place_from-place.ensures

pub returns : goal.returns
returns c =
    let a = c.args in
    let t = a.table.now in
    record {
      same_words = refl;
      is = again-words t.words.now a.i a.from a.left t.in_order c.requires c.place_from-place.ensures c.insert.ensures c.put.ensures;
    }

pub invariant_of-table : goal.invariant_of-table
invariant_of-table c =
    let a = c.args in
    let t = a.table.now in
    record { in_order = again_keeps t.words.now a.i a.from a.left t.in_order c.requires c.place_from-place.ensures c.insert.ensures c.put.ensures }
