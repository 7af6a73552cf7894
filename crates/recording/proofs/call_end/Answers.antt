-- `recording::call_end` meets its contract: a call number, then words of any value, then zeros. Assumes nothing.
use Rattle.std.proofs.Common.{◌+◌, refl, sym, ap, ◌∙◌, arith}
use Rattle.recording.proofs.Calls.{of-call, not-known}
use Rattle.recording.proofs.Reach.{call-unknown, call-short, call-rest}
use Rattle.recording.specs.Format.{words_of, within, arguments}
use Rattle.recording.proofs.call_end.Goals as goal

pub returns-in_default : goal.returns-in_default
returns-in_default c =
    let ws = words_of c.args.bytes.now in
    sym (call-unknown ws 0 (not-known ws 0 (ap (within 2 19) (sym c.word_at.ensures) ∙ c.in_default.ensures.1)))

pub returns-then-n-fill : goal.returns-then-n-fill
returns-then-n-fill c =
    let ws = words_of c.args.bytes.now in
    let k = of-call ws 0 c.in-Ok.call (c.in-Ok.ensures ∙ c.word_at.ensures) in
    let n = c.arguments-fill.ensures ∙ ap arguments (c.in-Ok.ensures ∙ c.word_at.ensures) in
    let s = call-short ws 0 k.tested k.there (omega arith) in
    omega arith

pub returns : goal.returns
returns c =
    let ws = words_of c.args.bytes.now in
    let k = of-call ws 0 c.in-Ok.call (c.in-Ok.ensures ∙ c.word_at.ensures) in
    let n = c.arguments-fill.ensures ∙ ap arguments (c.in-Ok.ensures ∙ c.word_at.ensures) in
    let r = call-rest ws 0 k.tested (1 + c.arguments-fill.result) 11 (omega arith) refl (omega arith) in
    let z = c.zeros_end.ensures in
    omega arith
