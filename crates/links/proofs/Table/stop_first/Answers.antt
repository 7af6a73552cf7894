-- `Table::stop_first` meets its contract: the timer is extracted from its chain. Assumes nothing.
use Rattle.std.proofs.Common.{refl}
use Rattle.links.proofs.Extracting.{beside, stop-waiting}
use Rattle.links.proofs.Restart.{in_table}
use Rattle.links.proofs.Kept.{stop_keeps}
use Rattle.links.proofs.Table.stop_first.Goals as goal

pub extract_first-next-requires : goal.extract_first-next-requires
extract_first-next-requires c =
    let t = c.args.self.now in
    let near = beside t.words.now c.args.i (in_table t.in_order c.requires.slot) c.args.chain c.requires.waits in
    record { here = near.0; behind = near.1; first = c.requires.first; due = c.requires.due }

pub returns-clause-table : goal.returns-clause-table
returns-clause-table c =
    let a = c.args in
    let t = a.self.now in
    record {
      same_words = refl;
      is = stop-waiting t.words.now a.i (in_table t.in_order c.requires.slot) a.chain c.requires.waits a.idle c.requires.kind
          c.extract_first-next.ensures.0 c.put.ensures;
    }

pub invariant_of-self : goal.invariant_of-self
invariant_of-self c =
    let a = c.args in
    let t = a.self.now in
    let there = in_table t.in_order c.requires.slot in
    record {
      in_order = stop_keeps t.words.now _ a.i there
          (stop-waiting t.words.now a.i there a.chain c.requires.waits a.idle c.requires.kind c.extract_first-next.ensures.0 c.put.ensures);
    }
