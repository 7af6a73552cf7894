-- `timer::ticks_left` meets its contract: a timer that waits for ticks stands in the interval chain, any other does not. Assumes nothing.
use mathlib.Core.List.{[], ◌∷◌}
use mathlib.Core.Path.{refl, sym, ap, ◌∙◌}
use Rattle.model.specs.declared.Chain.TheVariants.{ByTicks}
use Rattle.model.specs.Kinds.{waits_in}
use Rattle.answers.proofs.Replies.{done}
use Rattle.answers.proofs.Openings.{hands-on}
use Rattle.timer.proofs.TicksLeft.{no-ticks, ticks-met, some-ticks}
use Rattle.timer.proofs.ticks_left.Goals as goal

pub returns-in_err-i : goal.returns-in_err-i
returns-in_err-i c = hands-on _ _ _ c.from_residual.ensures.1 c.in_err-i.ensures [] refl refl

pub returns-then-not-waits_for_ticks : goal.returns-then-not-waits_for_ticks
returns-then-not-waits_for_ticks c =
    let at = c.in_ok-i.ensures.holds _ refl in
    done _ _ (0 ∷ []) _ [] (at.member.tested, (at.member.rule, (at.rule, tt)))
    (no-ticks at (ap (waits_in ByTicks) (sym c.get.ensures) ∙ sym c.if-not-waits_for_ticks.ensures)) (sym at.place.holds.is) refl

pub ticks_to-requires : goal.ticks_to-requires
ticks_to-requires c =
    let at = c.in_ok-i.ensures.holds _ refl in
    (at.place.holds, ticks-met at (ap (waits_in ByTicks) (sym c.get.ensures) ∙ sym c.if-not-waits_for_ticks.ensures))

pub returns : goal.returns
returns c =
    let at = c.in_ok-i.ensures.holds _ refl in
    done _ _ (_ ∷ []) _ [] (at.member.tested, (at.member.rule, (at.rule, tt))) (some-ticks at c.ticks_to.ensures) (sym at.place.holds.is) refl
