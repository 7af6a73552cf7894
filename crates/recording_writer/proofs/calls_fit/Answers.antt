-- `recording_writer::calls_fit` meets its contract: each call is right, or the first that is not ends the words that are. Assumes nothing.
use Rattle.std.proofs.Common.{ℕ, ◌≡◌, ◌*◌, ◌/◌, length, sym, ap, ◌∙◌, arith}
use Rattle.std.specs.Slice.Iter.{chunks_exact_rest}
use borrow.Author.Tests.{eq-eqb, ne_eqb, eqb-true, eqb-false}
use Rattle.recording.proofs.Reach.{calls-none}
use Rattle.recording.specs.Format.{calls_rules, right}
use Rattle.recording_writer.proofs.CallByCall.{in-call, in-calls, one-more, right-call, wrong-call}
use Rattle.recording_writer.proofs.calls_fit.Goals as goal

pub returns-then-not-call_fits : goal.returns-then-not-call_fits
returns-then-not-call_fits c =
    let all = chunks_exact_rest c.loop-call.call-iterator in
    let call = c.in-Some.call.now in
    let rest = chunks_exact_rest c.next.new.self in
    let s = c.in-Some.ensures.steps.1 in
    let i = c.loop-call.invariant in
    let n = one-more all call rest s.0 (omega arith) in
    let w = wrong-call all call rest s.0 (omega arith) (eqb-false (in-call call) 11 (sym c.if-not-call_fits.ensures)) in
    sym (ne_eqb (in-calls c.args.calls.now) (11 * (length c.args.calls.now / 11)) (λ e. omega arith))

pub loop-call-preserved : goal.loop-call-preserved
loop-call-preserved c =
    let all = chunks_exact_rest c.loop-call.call-iterator in
    let call = c.in-Some.call.now in
    let rest = chunks_exact_rest c.next.new.self in
    let s = c.in-Some.ensures.steps.1 in
    let i = c.loop-call.invariant in
    let n = one-more all call rest s.0 (omega arith) in
    let r = right-call all call rest s.0 (omega arith) (eqb-true (in-call call) 11 (sym c.if-not-call_fits.ensures)) in
    (omega arith, tt, omega arith, omega arith, omega arith)

pub returns : goal.returns
returns c =
    let i = c.loop-call.invariant in
    let s = c.in-None.ensures.steps.1 in
    let left = chunks_exact_rest c.loop-call.call-iterator in
    let e : length left / 11 ≡ 0 = omega arith in
    let z = ap (λ (m : ℕ). right (calls_rules m left) left) e ∙ calls-none left in
    sym (eq-eqb (in-calls c.args.calls.now) (11 * (length c.args.calls.now / 11)) (omega arith))
