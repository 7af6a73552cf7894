-- `playback::replay` meets its contract: a recording that is taken is played, and the position of any other is passed on. Assumes nothing.
use mathlib.Core.Path.{sym, ap, ◌∙◌}
use Rattle.playback.proofs.WaysOut.{not_taken}
use Rattle.recording.specs.Format.{given}
use Rattle.playback.proofs.replay.Goals as goal

pub run-requires : goal.run-requires
run-requires c = sym (ap given c.in-Ok.is) ∙ c.read.ensures

pub returns-in-Err : goal.returns-in-Err
returns-in-Err c = let a = c.args in
    not_taken a.bytes.now a.table.now a.list.now _ (sym (ap given c.in-Err.is) ∙ c.read.ensures)
