-- `recording::calls_end` meets its contract: the calls before call k are right, so that the words right from the first on are theirs and those right from
-- call k on. Assumes nothing.
use Rattle.std.proofs.Common.{ℕ, ◌≡◌, ◌+◌, ◌*◌, ◌≤◌, List, length, get_or, drop, ap, ◌∙◌, arith}
use Rattle.recording.proofs.ByteWords.{words-length, words-from}
use Rattle.recording.proofs.Right.{right-rules, right-words}
use Rattle.recording.proofs.Reach.{rest, rest-none, rest-off, rest-on, call_length}
use Rattle.recording.specs.Format.{words_of, call_rules, calls_rules, right}
use Rattle.recording.proofs.calls_end.Goals as goal

-- the calls before call k are there
there : (bytes : List ℕ) (calls k : ℕ) → right (calls_rules calls (words_of bytes)) (words_of bytes) ≡ 11 * k + rest (words_of bytes) calls k → 4 * (11 * k) ≤ length bytes
there bytes calls k e = omega (arith, words-length bytes, right-words (calls_rules calls (words_of bytes)) (words_of bytes))

-- how many words of a call are right
abbrev in_call : List ℕ → ℕ
in_call ws = right (call_rules (get_or ws 0 0)) ws

pub slice_bounds-call_end-count : goal.slice_bounds-call_end-count
slice_bounds-call_end-count c = omega (arith, there c.args.bytes.now c.args.calls c.loop-k.k c.loop-k.invariant)

pub slice_bounds-call_end-start : goal.slice_bounds-call_end-start
slice_bounds-call_end-start c = omega (arith, there c.args.bytes.now c.args.calls c.loop-k.k c.loop-k.invariant)

pub returns-then-end-lt-CALL_WORDS : goal.returns-then-end-lt-CALL_WORDS
returns-then-end-lt-CALL_WORDS c =
    let b = c.args.bytes.now in
    let k = c.loop-k.k in
    let e = c.call_end-end.ensures ∙ ap in_call (words-from (11 * k) b) in
    let r = rest-off (words_of b) c.args.calls k (omega arith) (omega arith) in
    omega arith

pub loop-k-preserved : goal.loop-k-preserved
loop-k-preserved c =
    let b = c.args.bytes.now in
    let k = c.loop-k.k in
    let d = drop (11 * k) (words_of b) in
    let e = c.call_end-end.ensures ∙ ap in_call (words-from (11 * k) b) in
    let l = call_length (get_or d 0 0) in
    let m = right-rules (call_rules (get_or d 0 0)) d in
    let r = rest-on (words_of b) c.args.calls k (omega arith) (omega arith) in
    omega arith

pub returns : goal.returns
returns c =
    let r = rest-none (words_of c.args.bytes.now) c.args.calls c.loop-k.k (omega arith) in
    omega arith
