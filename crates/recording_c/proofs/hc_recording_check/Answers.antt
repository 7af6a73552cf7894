-- `recording_c::hc_recording_check` meets its contract: status and position are those of what the reader gave. Assumes nothing.
use mathlib.Core.Path.{ap, ◌∙◌}
use Rattle.recording.specs.Format.{Read}
use Rattle.recording_c.proofs.hc_recording_check.Goals as goal

pub returns : goal.returns
returns c =
    let same = c.read-contents.ensures in
    (c.read_status.ensures ∙ ap (λ (r : Read). r.status) same, c.position_in.ensures ∙ ap (λ (r : Read). r.position) same)
