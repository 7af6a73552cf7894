-- `Table::start` meets its contract: to stop and then to start is to start. Assumes nothing.
use Rattle.std.proofs.Common.{◌∙◌}
use Rattle.links.proofs.Restart.{in_table, idle-now, restarted}
use Rattle.links.proofs.Table.start.Goals as goal

pub start_idle-requires : goal.start_idle-requires
start_idle-requires c =
    let t = c.args.self.now in
    idle-now t.words.now c.args.i (in_table t.in_order c.requires) _ c.stop.ensures.table.is

pub returns : goal.returns
returns c =
    let a = c.args in
    let t = a.self.now in
    record {
      same_words = c.start_idle.ensures.same_words ∙ c.stop.ensures.table.same_words;
      is = restarted t.words.now a.i (in_table t.in_order c.requires) _ c.stop.ensures.table.is a.mode a.amount a.routine a.user_data _ c.start_idle.ensures.is;
    }
