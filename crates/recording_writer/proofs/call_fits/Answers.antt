-- `recording_writer::call_fits` meets its contract: a call number, then words of any value, then zeros. Assumes nothing.
use Rattle.std.proofs.Common.{ℕ, ◌≡◌, ◌↔◌, ◌+◌, ◌-◌, IsTrue, All, eqb, List, length, length-drop, get_or, drop, replicate, refl, sym, ap, subst, ◌∙◌, arith}
use Rattle.std.proofs.lemmas.List.{take_rest}
use borrow.Author.Tests.{ne_eqb}
use Rattle.recording.proofs.Calls.{of-call, not-known}
use Rattle.recording.proofs.Reach.{arguments-few, call-unknown, call-rest}
use Rattle.recording.specs.Format.{exactly, arguments, call_rules, right}
use Rattle.recording_writer.proofs.Zeros.{by-all}
use Rattle.recording_writer.proofs.call_fits.Goals as goal

pub returns-in_default : goal.returns-in_default
returns-in_default c =
    let ws = c.args.call.now in
    let z = call-unknown ws 0 (not-known ws 0 c.in_default.ensures.1) in
    sym (ne_eqb (right (call_rules (get_or ws 0 0)) ws) 11 (λ e. omega arith))

pub returns : goal.returns
returns c =
    let ws = c.args.call.now in
    let fill = 1 + c.arguments.result in
    let f = arguments-few (get_or ws 0 0) in
    let n = c.arguments.ensures ∙ ap arguments c.in-Ok.ensures in
    let tail = drop fill ws in
    let l = length-drop fill ws in
    let z : 11 - fill ≡ length tail = omega arith in
    let r = call-rest ws 0 (of-call ws 0 c.in-Ok.number c.in-Ok.ensures).tested fill 11 (omega arith) refl (omega arith) in
    let s = ap (λ (m : ℕ). right (replicate m (exactly 0)) tail) z in
    let zero : IsTrue c.all_zero.result ↔ All (λ w. w ≡ 0) tail = subst (λ (t : List ℕ). IsTrue c.all_zero.result ↔ All (λ w. w ≡ 0) t) (take_rest ws fill) c.all_zero.ensures in
    let eleven : fill + length tail ≡ 11 = omega arith in
    by-all c.all_zero.result tail (right (call_rules (get_or ws 0 0)) ws) fill zero (omega arith) ∙ ap (eqb (right (call_rules (get_or ws 0 0)) ws)) eleven
