-- `chains::put_previous` meets its contract, by its two cases. Assumes nothing.
use Rattle.std.proofs.Common.{sym, ◌∙◌}
use Rattle.chains.proofs.EditedWords.{previous-put-none, previous-put-some}
use Rattle.chains.proofs.put_previous.Goals as goal

pub returns-then-n-eq0 : goal.returns-then-n-eq0
returns-then-n-eq0 c = let a = c.args in sym (previous-put-none a.t.now a.n a.q c.if-n-eq0.true)

pub returns : goal.returns
returns c = let a = c.args in c.put.ensures ∙ sym (previous-put-some a.t.now a.n a.q c.if-n-eq0.false)
