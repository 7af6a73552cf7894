-- `recording::calls_end` meets its contract: the calls before call k are right, so that the words right from the first on are theirs and those right from
-- call k on. Assumes nothing.
use Prim.Native.Nat.{◌+◌, ◌*◌}
use mathlib.Core.Path.{◌≡◌}
use Rattle.recording.proofs.Reach.{rest}
use Rattle.recording.specs.Format.{words_of, calls_rules, right}
use Rattle.recording.proofs.calls_end.Given as goal

abbrev pub invariant-loop-k : goal.invariant-loop-k
invariant-loop-k l = right (calls_rules l.calls (words_of l.bytes)) (words_of l.bytes) ≡ 11 * l.k + rest (words_of l.bytes) l.calls l.k
