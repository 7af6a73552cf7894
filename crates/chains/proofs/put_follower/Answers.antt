-- `chains::put_follower` meets its contract, by its two cases. Assumes nothing.
use Rattle.std.proofs.Common.{ℕ, List, set, sym, ap, ◌∙◌}
use Rattle.chains.specs.EditedWords.{field_word}
use Rattle.chains.proofs.EditedWords.{follower-put-none, follower-put-some}
use Rattle.chains.proofs.put_follower.Goals as goal

pub returns-then-n-eq0 : goal.returns-then-n-eq0
returns-then-n-eq0 c = let a = c.args in sym (follower-put-none a.t.now a.n a.q a.v c.if-n-eq0.true)

pub returns : goal.returns
returns c =
    let a = c.args in
    c.put-2.ensures
    ∙ ap (λ (l : List ℕ). set l (field_word a.n 3) a.v) c.put.ensures
    ∙ sym (follower-put-some a.t.now a.n a.q a.v c.if-n-eq0.false)
