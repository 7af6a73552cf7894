-- `server::server_fire_after` meets its contract: behind its opening it is the start of its mode. Assumes nothing.
use mathlib.Core.Path.{refl, ◌∙◌}
use Rattle.answers.proofs.Openings.{hands-on}
use Rattle.server.proofs.Opened.{after_is}
use Rattle.server.proofs.server_fire_after.Goals as goal

pub returns-in_err-open_server : goal.returns-in_err-open_server
returns-in_err-open_server c = hands-on _ _ _ c.from_residual.ensures.1 c.in_err-open_server.ensures _ refl refl

pub returns : goal.returns
returns c = c.start_for_ticks.ensures ∙ after_is (c.in_ok-open_server.ensures.holds _ refl) _ _ _ _
