-- `firing::fire` meets its contract: both rounds are the model's firing, and the first alone is where none is periodic. Assumes nothing.
use Rattle.std.proofs.Common.{rules, ◌≡◌, ℕ, List, sym, subst}
use Rattle.model.specs.declared.Chain.{Chain}
use Rattle.firing.specs.Lists.{Fires}
use Rattle.firing.proofs.TakingOff.{space}
use Rattle.firing.proofs.BothRounds.{off-entries, fires-both, fires-off}
use Rattle.firing.proofs.fire.Goals as goal

-- the words that the table hands back
handed : {k : Chain} {t list : List ℕ} {limit from n last : ℕ} {u v list' : List ℕ} → Fires k t list limit from n last v list' → u ≡ v
    → Fires k t list limit from n last u list'
handed {k} {t} {list} {limit} {from} {n} {last} {u} {v} {list'} f e =
    subst (λ (x : List ℕ). Fires k t list limit from n last x list') (sym e) f

pub put_back-requires : goal.put_back-requires
put_back-requires c = off-entries (space c.requires.order c.requires.room) c.take_off-off.ensures.off

pub returns-then-off : goal.returns-then-off
returns-then-off c =
    handed (fires-both (space c.requires.order c.requires.room) c.take_off-off.ensures.off c.put_back.ensures.is) (search rules)

pub returns-else-off : goal.returns-else-off
returns-else-off c = handed (fires-off (space c.requires.order c.requires.room) c.take_off-off.ensures.off c.if-off.false) (search rules)
