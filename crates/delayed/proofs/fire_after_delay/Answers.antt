-- `delayed::fire_after_delay` meets its contract for seconds, by the ticks that they are. Assumes nothing.
use Rattle.delayed.proofs.Seconds.{after-seconds}
use Rattle.delayed.proofs.fire_after_delay.Goals as goal

pub returns-in-Seconds : goal.returns-in-Seconds
returns-in-Seconds c =
    rw c.in-Seconds.is (after-seconds _ _ _ c.in-Seconds.seconds _ _ _ _ _ c.rate_of-rate.ensures c.ticks_in-ticks.ensures c.fire_after-in-Seconds.ensures)
