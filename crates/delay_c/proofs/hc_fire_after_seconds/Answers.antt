-- `delay_c::hc_fire_after_seconds` meets its contract: the start's, with the status as a number. Assumes nothing.
use Rattle.delay_c.proofs.Exported.{starts}
use Rattle.delay_c.proofs.hc_fire_after_seconds.Goals as goal

pub returns : goal.returns
returns c =
    let a = c.args in
    starts a.table.now a.party a.id a.seconds a.routine a.user_data c.status_of.ensures c.fire_after_delay.ensures
