-- `recording::words` meets its contract: a word is four bytes. Assumes nothing.
use mathlib.Core.Path.{sym}
use Rattle.recording.proofs.ByteWords.{words-length}
use Rattle.recording.proofs.words.Goals as goal

pub returns : goal.returns
returns c = sym (words-length c.args.bytes.now)
