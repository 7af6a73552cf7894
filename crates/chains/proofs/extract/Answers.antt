-- `chains::extract` meets its contract: `extracted_words` is what its steps do, with what was read before them. Assumes nothing.
use Rattle.std.proofs.Common.{◌∙◌}
use Rattle.chains.proofs.EditedWords.{relinked-by}
use Rattle.chains.proofs.extract.Goals as goal

pub returns : goal.returns
returns c =
    let a = c.args in
    let n = c.get-n.result in
    let p = c.get-p.result in
    relinked-by a.chain a.t.now p n n p c.wait_without-v.result a.i 0 0 0 c.put_next.ensures c.put_follower.ensures c.put_links.ensures
    ∙ rw (c.wait_without-v.ensures, c.get-w.ensures, c.get-p.ensures, c.get-n.ensures)
