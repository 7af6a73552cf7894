-- `recording::zeros_end` meets its contract: the words before p are zeros, so that those right from the start are those and the ones right from p on. Assumes nothing.
use mathlib.Core.Path.{sym}
use native.Mathlib.Omega.{arith}
use Rattle.recording.proofs.Reach.{zeros-off, zeros-on, zeros-none}
use Rattle.recording.specs.Format.{words_of}
use Rattle.recording.proofs.zeros_end.Goals as goal

pub returns-then-not-is_right : goal.returns-then-not-is_right
returns-then-not-is_right c = let a = c.args in
    let z = zeros-off (words_of a.bytes.now) c.loop-p.p 11 (omega arith) (sym c.if-not-is_right.ensures) in
    omega arith

pub loop-p-preserved : goal.loop-p-preserved
loop-p-preserved c = let a = c.args in
    let z = zeros-on (words_of a.bytes.now) c.loop-p.p 11 (omega arith) (sym c.if-not-is_right.ensures) in
    omega arith

pub returns : goal.returns
returns c = let a = c.args in
    let z = zeros-none (words_of a.bytes.now) c.loop-p.p 11 (omega arith) in
    omega arith
