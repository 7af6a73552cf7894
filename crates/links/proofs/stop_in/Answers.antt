-- `links::stop_in` meets its contract: the timer is extracted from its chain. Assumes nothing.
use Rattle.std.proofs.Common.{rules}
use Rattle.links.proofs.Extracting.{extractable, stop-waiting}
use Rattle.links.proofs.stop_in.Goals as goal

pub extract-requires : goal.extract-requires
extract-requires c =
    extractable c.args.t.now c.args.i c.requires.in_table c.args.chain c.requires.waits (λ m. search rules)

pub returns : goal.returns
returns c =
    let a = c.args in
    stop-waiting a.t.now a.i c.requires.in_table a.chain c.requires.waits a.idle c.requires.kind c.extract.ensures c.put.ensures
