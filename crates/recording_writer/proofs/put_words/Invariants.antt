-- `recording_writer::put_words` meets its contract: after i turns the first i words are stored. Assumes nothing.
use lib.ListN.{take}
use lib.Seq.{sets}
use mathlib.Core.Path.{◌≡◌}
use Rattle.recording.specs.Format.{bytes_of}
use Rattle.recording_writer.proofs.put_words.Given as goal

abbrev pub invariant-loop-i : goal.invariant-loop-i
invariant-loop-i l = l.buffer ≡ sets l.initial.buffer l.at (bytes_of (take l.i l.ws))
