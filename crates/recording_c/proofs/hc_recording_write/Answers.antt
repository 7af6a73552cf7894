-- `recording_c::hc_recording_write` meets its contract: status and length are those of the writer's answer. Assumes nothing.
use Rattle.recording_c.proofs.Exported.{writes}
use Rattle.recording_c.proofs.hc_recording_write.Goals as goal

pub returns : goal.returns
returns c =
    let call = c.write-answer in
    writes call.result call.ensures c.status_of.ensures c.number_in.ensures
