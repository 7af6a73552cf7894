-- `timer::delete` meets its contract: the slot that the id names is stopped, then cleared. Assumes nothing.
use mathlib.Core.List.{[], ◌∷◌}
use mathlib.Core.Path.{refl}
use Rattle.std.proofs.Common.{rules, ℕ, List, ◌≡◌, length}
use Rattle.model.specs.State.{free}
use Rattle.model.specs.Directives.{stored, stopped}
use Rattle.model.specs.Words.{read, written_over}
use Rattle.links.specs.Places.{InTable}
use Rattle.links.proofs.Restart.{stopped_at}
use Rattle.answers.proofs.Replies.{done}
use Rattle.answers.proofs.Openings.{hands-on}
use Rattle.opening.proofs.Ids.{at-index}
use Rattle.timer.proofs.Tables.{still-in-table, deleted-is}
use Rattle.timer.proofs.delete.Goals as goal

pub returns-in_err-i : goal.returns-in_err-i
returns-in_err-i c = hands-on _ _ _ c.from_residual.ensures.1 c.in_err-i.ensures [] refl refl

pub store-requires : goal.store-requires
store-requires c = still-in-table (c.in_ok-i.ensures.holds _ refl).place (search rules)

-- the words after both steps; the lengths tell which those between are
gone : {i : ℕ} {t u v : List ℕ} → InTable t i → length v ≡ length u → v ≡ written_over (stored (read u) i free) u → u ≡ written_over (stopped_at t i) t
    → v ≡ written_over (stopped (read t) i free) t
gone at _ h e = deleted-is at e h

pub returns : goal.returns
returns c =
    let at = c.in_ok-i.ensures.holds _ refl in
    done _ _ (0 ∷ []) _ [] (at.member.tested, (at.member.rule, (at.rule, tt))) refl
    (at-index (λ k. stopped (read c.args.table.now) k free) at (gone at.place c.store.auto.t c.store.ensures (search rules))) refl
