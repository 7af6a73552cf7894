-- `opening::open_timer` meets its contract: the rules are tried in their order. Assumes nothing.
use mathlib.Core.Path.{refl, sym, subst}
use Rattle.answers.proofs.Replies.{tested}
use Rattle.answers.specs.Openings.{Opens}
use Rattle.opening.specs.Ids.{on_id, Named}
use Rattle.opening.proofs.Ids.{opens}
use Rattle.opening.proofs.open_timer.Goals as goal

pub returns : goal.returns
returns c =
    let a = c.args in
    subst (Opens (on_id a.table.now a.party a.id) (Named a.table.now a.party a.id)) (sym c.ok_or.ensures.value) (opens (tested c.if-not-is_sound.ensures refl) c.named.ensures)
