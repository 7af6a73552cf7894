-- `timer::cancel` meets its contract: the slot that the id names is stopped, where it is in a chain. Assumes nothing.
use mathlib.Core.List.{List, [], ◌∷◌}
use mathlib.Core.Path.{◌≡◌, refl, sym, ap, ◌∙◌}
use Prim.Native.Nat.{ℕ}
use Rattle.std.proofs.Common.{rules}
use Rattle.model.specs.declared.Status.TheVariants.{IncorrectState}
use Rattle.model.specs.Kinds.{linked}
use Rattle.model.specs.State.{slot_at, index_of}
use Rattle.model.specs.Words.{read}
use Rattle.model.specs.Outcome.{outcome_of}
use Rattle.links.proofs.Restart.{stopped_at, stays-unlinked}
use Rattle.answers.proofs.Replies.{not_same, refuses, done}
use Rattle.answers.proofs.Openings.{hands-on}
use Rattle.opening.specs.Ids.{Named}
use Rattle.opening.proofs.Ids.{at-index}
use Rattle.timer.proofs.cancel.Goals as goal

-- the kind is that of the slot at the id's index
linked-at : {t : List ℕ} {party id i : ℕ} → Named t party id i → linked (slot_at (read t).slots i).kind ≡ linked (slot_at (read t).slots (index_of id)).kind
linked-at {t} at = ap (λ (k : ℕ). linked (slot_at (read t).slots k).kind) at.index

pub returns-in_err-i : goal.returns-in_err-i
returns-in_err-i c = hands-on _ _ _ c.from_residual.ensures.1 c.in_err-i.ensures _ refl refl

pub returns-then-not-stop : goal.returns-then-not-stop
returns-then-not-stop c =
    let at = c.in_ok-i.ensures.holds _ refl in
    ap (λ (w : List ℕ). outcome_of 14 (0 ∷ []) w []) (stays-unlinked at.place (sym c.if-not-stop.ensures.was_linked) (search rules))
    ∙ refuses _ _ IncorrectState 3 (at.member.tested, (at.member.rule, (at.rule, tt))) (not_same (c.if-not-stop.ensures.was_linked ∙ linked-at at) refl) refl

pub returns : goal.returns
returns c =
    let at = c.in_ok-i.ensures.holds _ refl in
    done _ _ (0 ∷ []) _ [] (at.member.tested, (at.member.rule, (at.rule, (not_same (c.if-not-stop.ensures.was_linked ∙ linked-at at) refl, tt)))) refl
    (at-index (stopped_at c.args.table.now) at (search rules)) refl
