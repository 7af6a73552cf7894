-- `recording_c::hc_recording_replay` meets its contract: status and place are those of the replay's answer. Assumes nothing.
use Rattle.recording_c.proofs.Exported.{replays}
use Rattle.recording_c.proofs.hc_recording_replay.Goals as goal

pub returns : goal.returns
returns c =
    let call = c.replay-replayed in
    replays call.ensures c.replay_status.ensures c.place_in.ensures
