-- `recording::word_at` meets its contract: the word is that of its four bytes. Assumes nothing.
use mathlib.Core.Path.{sym, ◌∙◌}
use native.Mathlib.Omega.{arith}
use Rattle.recording.proofs.ByteWords.{word-is, four-bytes}
use Rattle.recording.proofs.word_at.Goals as goal

pub returns : goal.returns
returns c = c.from_le_bytes.ensures ∙ four-bytes _ _ _ _ ∙ sym (word-is c.args.bytes.now c.args.position (omega arith))
