-- `starts::reset` meets its contract: the slot starts again as it was, with the words that it has stored. Assumes nothing.
use mathlib.Core.List.{[], ◌∷◌}
use mathlib.Core.Path.{refl}
use Rattle.std.proofs.Common.{rules}
use Rattle.model.specs.declared.Status.TheVariants.{NotDefined}
use Rattle.answers.proofs.Replies.{not_same, refuses, done}
use Rattle.answers.proofs.Openings.{hands-on}
use Rattle.starts.proofs.Stored.{none-where, some-where, timed, reset-is}
use Rattle.starts.proofs.reset.Goals as goal

pub returns-in_err-i : goal.returns-in_err-i
returns-in_err-i c = hands-on _ _ _ c.from_residual.ensures.1 c.in_err-i.ensures _ refl refl

pub returns-in_default : goal.returns-in_default
returns-in_default c =
    let at = c.in_ok-i.ensures.holds _ refl in
    refuses _ _ NotDefined 3 (at.member.tested, (at.member.rule, (at.rule, tt)))
    (not_same (timed at c.get.ensures (none-where _ _ c.in_default.ensures)) refl) refl

pub returns : goal.returns
returns c =
    let at = c.in_ok-i.ensures.holds _ refl in
    let started = some-where _ _ _ c.in-Some.ensures in
    let by-ticks = not_same (timed at c.get.ensures started.0) refl in
    done _ _ (0 ∷ []) _ [] (at.member.tested, (at.member.rule, (at.rule, (by-ticks, tt)))) refl
    (reset-is at c.get.ensures started.1 (search rules) c.get-ticks.ensures c.get-routine.ensures c.get-user_data.ensures) refl
