-- `links::put_timer` meets its contract: its four stores in order. Assumes nothing.
use Rattle.links.specs.TimerWords.{timer_put}
use Rattle.links.proofs.put_timer.Goals as goal

pub returns : goal.returns
unfolding timer_put
returns c = cc
