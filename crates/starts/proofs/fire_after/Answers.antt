-- `starts::fire_after` meets its contract: behind its opening it is the start of its mode. Assumes nothing.
use mathlib.Core.Path.{refl, ◌∙◌}
use Rattle.answers.proofs.Openings.{hands-on}
use Rattle.starts.proofs.Opened.{after_is}
use Rattle.starts.proofs.fire_after.Goals as goal

pub returns-in_err-open_party : goal.returns-in_err-open_party
returns-in_err-open_party c = hands-on _ _ _ c.from_residual.ensures.1 c.in_err-open_party.ensures _ refl refl

pub returns : goal.returns
returns c = c.start_for_ticks.ensures ∙ after_is (c.in_ok-open_party.ensures.holds _ refl) _ _ _ _
