-- `playback::play_all` meets its contract: the calls before place k had the statuses expected, so that what is left to play from there on is all.
-- Assumes nothing.
use mathlib.Core.Path.{◌≡◌}
use Rattle.playback.proofs.Places.{left}
use Rattle.playback.specs.Replay.{played_from}
use Rattle.recording.specs.Format.{words_of, calls_in, statuses_in}
use Rattle.playback.proofs.play_all.Given as goal

abbrev pub invariant-loop-k : goal.invariant-loop-k
invariant-loop-k l =
    played_from 0 l.initial.table l.initial.list (calls_in (words_of l.bytes)) (statuses_in (words_of l.bytes)) ≡ left (words_of l.bytes) l.k l.table l.list
