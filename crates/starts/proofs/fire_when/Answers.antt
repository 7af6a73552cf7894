-- `starts::fire_when` meets its contract: behind its opening it is the start of its mode. Assumes nothing.
use mathlib.Core.Path.{refl, ◌∙◌}
use Rattle.answers.proofs.Openings.{hands-on}
use Rattle.starts.proofs.Opened.{when-is}
use Rattle.starts.proofs.fire_when.Goals as goal

pub returns-in_err-open_party : goal.returns-in_err-open_party
returns-in_err-open_party c = hands-on _ _ _ c.from_residual.ensures.1 c.in_err-open_party.ensures _ refl refl

pub returns : goal.returns
returns c = c.start_for_date.ensures ∙ when-is (c.in_ok-open_party.ensures.holds _ refl) _ _ _ _
