-- `heathcinder::hc_lay_out` meets its contract: the status is that of `lay_out`'s answer, and the number of that answer is 0, done or refused. Assumes nothing.
use mathlib.Core.Path.{refl}
use Rattle.heathcinder.proofs.Exported.{answers-none}
use Rattle.heathcinder.proofs.hc_lay_out.Goals as goal

pub returns : goal.returns
returns c = answers-none _ _ refl refl c.lay_out.ensures c.status_of.ensures
