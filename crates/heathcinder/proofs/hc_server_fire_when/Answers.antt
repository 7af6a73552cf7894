-- `heathcinder::hc_server_fire_when` meets its contract: the wall time is that of the seven numbers, the status that of `server_fire_when`'s answer, and the
-- number of that answer is 0, done or refused. Assumes nothing.
use mathlib.Core.Path.{refl}
use Rattle.heathcinder.proofs.Exported.{answers-none}
use Rattle.heathcinder.proofs.hc_server_fire_when.Goals as goal

pub returns : goal.returns
returns c = answers-none _ _ refl refl (rw c.wall_time-date.ensures at c.server_fire_when.ensures) c.status_of.ensures
