-- `recording::zeros_end` meets its contract: the words before p are zeros, so that those right from the start are those and the ones right from p on. Assumes nothing.
use Prim.Native.Nat.{◌+◌, ◌-◌}
use lib.ListN.{drop, replicate}
use mathlib.Core.Path.{◌≡◌}
use Rattle.recording.specs.Format.{words_of, exactly, right}
use Rattle.recording.proofs.zeros_end.Given as goal

abbrev pub invariant-loop-p : goal.invariant-loop-p
invariant-loop-p l =
    l.from + right (replicate (11 - l.from) (exactly 0)) (drop l.from (words_of l.bytes)) ≡ l.p + right (replicate (11 - l.p) (exactly 0)) (drop l.p (words_of l.bytes))
