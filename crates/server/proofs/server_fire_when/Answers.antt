-- `server::server_fire_when` meets its contract: behind its opening it is the start of its mode. Assumes nothing.
use mathlib.Core.Path.{refl, ◌∙◌}
use Rattle.answers.proofs.Openings.{hands-on}
use Rattle.server.proofs.Opened.{when-is}
use Rattle.server.proofs.server_fire_when.Goals as goal

pub returns-in_err-open_server : goal.returns-in_err-open_server
returns-in_err-open_server c = hands-on _ _ _ c.from_residual.ensures.1 c.in_err-open_server.ensures _ refl refl

pub returns : goal.returns
returns c = c.start_for_date.ensures ∙ when-is (c.in_ok-open_server.ensures.holds _ refl) _ _ _ _
