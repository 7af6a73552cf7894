-- `recording::read` meets its contract: each way out is where the words stop being right, or the end. Assumes nothing.
use Rattle.std.proofs.Common.{ℕ, ◌≡◌, ◌+◌, ◌-◌, ◌*◌, ◌≤◌, List, length, get_or, take, drop, refl, sym, ap, ◌∙◌, arith}
use Rattle.recording.proofs.Answers.{all-numbers, wrong-number, every_call, wrong-call, wrong-count, few-statuses, surplus, whole}
use Rattle.recording.proofs.ByteWords.{words-from}
use Rattle.recording.proofs.Reach.{numbers, calls-few}
use Rattle.recording.specs.Format.{words_of, calls_rules, right, taken_with, refused_at}
use Rattle.recording.proofs.read.Goals as goal

-- all of which are right
record Calls (ws : List ℕ) (calls : ℕ) : Type 0 where
  four : right numbers ws ≡ 4
  is : calls ≡ get_or ws 3 0
  all : right (calls_rules calls (drop 4 ws)) (drop 4 ws) ≡ 11 * calls

counted : (ws : List ℕ) (start calls end : ℕ) → start ≡ right numbers ws → 4 ≤ start → calls ≡ get_or ws 3 0
    → end ≡ 4 + right (calls_rules calls (drop 4 ws)) (drop 4 ws) → 4 + 11 * calls ≤ end → Calls ws calls
counted ws start calls end e h is f k = record { four = all-numbers ws start e h; is = is; all = every_call calls (drop 4 ws) end f k }

-- where the calls end, in the file
called : (bytes : List ℕ) (calls r : ℕ) → r ≡ right (calls_rules calls (words_of (take (length bytes - 16) (drop 16 bytes)))) (words_of (take (length bytes - 16) (drop 16 bytes)))
    → 4 + r ≡ 4 + right (calls_rules calls (drop 4 (words_of bytes))) (drop 4 (words_of bytes))
called bytes calls r e = ap (λ (n : ℕ). 4 + n) (e ∙ ap (λ (d : List ℕ). right (calls_rules calls d) d) (words-from 4 bytes))

pub returns-then-start-lt-FRONT : goal.returns-then-start-lt-FRONT
returns-then-start-lt-FRONT c =
    let b = c.args.bytes.now in
    c.refused_at.ensures ∙ wrong-number (length b) (words_of b) _ c.numbers_end-start.ensures c.if-start-lt-FRONT.true

pub overflow_add-end : goal.overflow_add-end
overflow_add-end c = omega (arith, calls-few _ _ c.calls_end-end.ensures)

pub returns-then-end-again : goal.returns-then-end-again
returns-then-end-again c =
    let b = c.args.bytes.now in
    c.refused_at-then-end-again.ensures
    ∙ wrong-call (length b) (words_of b) _ c.word_at-calls.ensures (all-numbers (words_of b) _ c.numbers_end-start.ensures c.if-start-lt-FRONT.false) _ (called _ _ _ c.calls_end-end.ensures)
    c.if-end-again.true

pub returns-then-not-is_right : goal.returns-then-not-is_right
returns-then-not-is_right c =
    let b = c.args.bytes.now in
    let k = counted (words_of b) _ _ _ c.numbers_end-start.ensures c.if-start-lt-FRONT.false c.word_at-calls.ensures (called _ _ _ c.calls_end-end.ensures) c.if-end-again.false in
    c.refused_at-then-not-is_right.ensures ∙ wrong-count (length b) (words_of b) _ k.is k.four k.all (sym c.if-not-is_right.ensures)

pub returns-then-n-last : goal.returns-then-n-last
returns-then-n-last c =
    let b = c.args.bytes.now in
    let k = counted (words_of b) _ _ _ c.numbers_end-start.ensures c.if-start-lt-FRONT.false c.word_at-calls.ensures (called _ _ _ c.calls_end-end.ensures) c.if-end-again.false in
    let n = c.words-n.ensures in
    c.refused_at-then-n-last.ensures ∙ ap refused_at n
    ∙ few-statuses (length b) (words_of b) _ k.is k.four k.all (sym c.if-not-is_right.ensures) (omega arith)

pub returns-then-bytes-last : goal.returns-then-bytes-last
returns-then-bytes-last c =
    let b = c.args.bytes.now in
    let k = counted (words_of b) _ _ _ c.numbers_end-start.ensures c.if-start-lt-FRONT.false c.word_at-calls.ensures (called _ _ _ c.calls_end-end.ensures) c.if-end-again.false in
    c.refused_at-then-bytes-last.ensures
    ∙ surplus (length b) (words_of b) _ k.is k.four k.all (sym c.if-not-is_right.ensures) (omega arith) _ (omega arith) c.if-bytes-last.true

pub returns : goal.returns
returns c =
    let b = c.args.bytes.now in
    let k = counted (words_of b) _ _ _ c.numbers_end-start.ensures c.if-start-lt-FRONT.false c.word_at-calls.ensures (called _ _ _ c.calls_end-end.ensures) c.if-end-again.false in
    let slots = c.word_at-slots.ensures in
    let rate = c.word_at-rate.ensures in
    (λ j. taken_with (slots j) (rate j) (k.is j))
    ∙ whole (length b) (words_of b) _ k.is k.four k.all (sym c.if-not-is_right.ensures) (omega arith) (5 + 12 * c.word_at-calls.result) refl (omega arith)
