-- `heathcinder::hc_server_fire_after` meets its contract: the status is that of `server_fire_after`'s answer, and the number of that answer is 0, done or refused. Assumes nothing.
use mathlib.Core.Path.{refl}
use Rattle.heathcinder.proofs.Exported.{answers-none}
use Rattle.heathcinder.proofs.hc_server_fire_after.Goals as goal

pub returns : goal.returns
returns c = answers-none _ _ refl refl c.server_fire_after.ensures c.status_of.ensures
