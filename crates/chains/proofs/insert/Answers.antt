-- `chains::insert` meets its contract: `inserted_words` is what its steps do, with what was read before them. Assumes nothing.
use Rattle.std.proofs.Common.{◌∙◌}
use Rattle.chains.proofs.EditedWords.{relinked-by}
use Rattle.chains.proofs.insert.Goals as goal

pub returns : goal.returns
returns c =
    let a = c.args in
    let n = c.follower-n.result in
    relinked-by a.chain a.t.now a.p a.i n a.i c.wait_behind-v.result a.i a.w n a.p c.put_next.ensures c.put_follower.ensures c.put_links.ensures
    ∙ rw (c.wait_behind-v.ensures, c.follower-n.ensures)
