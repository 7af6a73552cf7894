-- `playback::play_all` meets its contract: the calls before place k had the statuses expected, so that what is left to play from there on is all.
-- Assumes nothing.
use Prim.Native.Nat.{ℕ, ◌+◌, ◌*◌, ◌<◌}
use lib.ListN.{length, get_or, take, length-drop}
use mathlib.Core.List.{List}
use mathlib.Core.Path.{◌≡◌, sym, ap, ◌∙◌}
use native.Mathlib.Omega.{arith}
use Rattle.playback.proofs.Places.{eleven, left-none, differs, goes_on, first_word}
use Rattle.recorded_timer.specs.RecordedCalls.{step_of, step}
use Rattle.recording.proofs.ByteWords.{words-from, words-length}
use Rattle.recording.proofs.TakenFacts.{Held, held}
use Rattle.recording.specs.Format.{within, words_of}
use Rattle.playback.proofs.play_all.Goals as goal
use Rattle.playback.proofs.play_all.Goals.{After-word_at-expected, In-loop-k}

-- ---- where call k is read

abbrev words : In-loop-k → List ℕ
words d = words_of d.args.bytes.now

abbrev words-After-word_at-expected : After-word_at-expected → List ℕ
words-After-word_at-expected d = words_of d.args.bytes.now

sure : (d : In-loop-k) → Held (words d)
sure d = held d.args.bytes.now d.requires.0

inside : (d : In-loop-k) → d.loop-k.k < get_or (words d) 3 0
inside d = omega (arith, d.requires.1)

-- ---- when it has run

record Played (ws t l : List ℕ) (k s x : ℕ) (t' l' : List ℕ) : Type 0 where
  stepped : step_of s t' l' ≡ step t l (eleven ws k)
  expected : x ≡ get_or ws (5 + 11 * get_or ws 3 0 + k) 0

played : (d : After-word_at-expected) →
    let play = d.play-status in
    let l = d.loop-k in
    Played (words-After-word_at-expected d) l.table l.list l.k play.result d.word_at-expected.result play.new.table play.new.list
played d =
    let play = d.play-status in
    let l = d.loop-k in
    record {
      stepped = play.ensures ∙ ap (step l.table l.list) (d.first_call-call.ensures ∙ ap (take 11) (words-from (4 + 11 * l.k) d.args.bytes.now));
      expected = d.word_at-expected.ensures ∙ ap (λ (n : ℕ). get_or (words-After-word_at-expected d) (5 + 11 * n + l.k) 0) d.requires.1;
    }

-- ---- the needs

pub slice_bounds-first_call-count : goal.slice_bounds-first_call-count
slice_bounds-first_call-count c = omega (arith, (sure c).long, inside c, words-length c.args.bytes.now)

pub slice_bounds-first_call-start : goal.slice_bounds-first_call-start
slice_bounds-first_call-start c = omega (arith, (sure c).long, inside c, words-length c.args.bytes.now)

pub first_call-call-requires : goal.first_call-call-requires
first_call-call-requires c = let d = (goal.at.first_call-call-requires c).In-loop-k in
    let i = inside d in
    let at = 4 + 11 * c.loop-k.k in
    let l = ap length (words-from at d.args.bytes.now) ∙ length-drop at (words d) in
    omega (arith, (sure d).long)

pub play-status-requires : goal.play-status-requires
play-status-requires c = let d = (goal.at.play-status-requires c).In-loop-k in
    let k = c.loop-k.k in
    ap (λ (w : List ℕ). within 2 19 (get_or w 0 0)) (c.first_call-call.ensures ∙ ap (take 11) (words-from (4 + 11 * k) d.args.bytes.now)) ∙ ap (within 2 19) (first_word (words d) k) ∙ (sure d).number k (inside d)

pub returns-then-status-expected : goal.returns-then-status-expected
returns-then-status-expected c = let b = (goal.at.returns-then-status-expected c).In-loop-k in
    let l = c.loop-k in
    let p = played (goal.at.returns-then-status-expected c).After-word_at-expected in
    differs (words b) l.k l.table l.list (sure b) (inside b) _ _ _ p.stepped (λ e. c.if-status-expected.true (e ∙ sym p.expected)) ∙ sym l.invariant

pub loop-k-preserved : goal.loop-k-preserved
loop-k-preserved c = let b = (goal.at.loop-k-preserved c).In-loop-k in
    let l = c.loop-k in
    let p = played (goal.at.loop-k-preserved c).After-word_at-expected in
    l.invariant ∙ goes_on (words b) l.k l.table l.list (sure b) (inside b) _ _ _ p.stepped (c.if-status-expected.false ∙ p.expected)

pub returns : goal.returns
returns c = let b = c.args.bytes.now in
    left-none (words_of b) c.loop-k.k c.loop-k.table c.loop-k.list (held b c.requires.0) (omega (arith, c.requires.1)) ∙ sym c.loop-k.invariant
