-- A place is that of one of at most 1,000 calls, and a position that of one of at most 12,005 words or of the next; a table of 2,050 words and a list of
-- 765 are long enough for any recording. Assumes nothing.
use mathlib.Core.Path.{◌≡◌, refl, sym, ap, ◌∙◌}
use mathlib.Core.Logic.{◌⊎◌, inl, inr}
use Prim.Native.Nat.{ℕ, suc, ◌+◌, ◌*◌, ◌≤◌, ◌<◌}
use native.Mathlib.Omega.{arith}
use mathlib.Core.Bool.{Bool, true, false, cond, not, ◌&&◌}
use mathlib.Core.Option.{Option, none, some}
use mathlib.Core.List.{List, [], ◌∷◌}
use lib.ListN.{length, take, drop}
use lib.Dec.{ltb, eqb}
use borrow.Author.Tests.{ltb-true, ltb-false, le-ltb, eqb-true}
use Rattle.model.specs.declared.Status.TheVariants.{InvalidNumber, InvalidSize, ListTooShort}
use Rattle.model.specs.Status.{Refusal, when, first_of}
use Rattle.model.specs.Calls.{lay_out}
use Rattle.model.specs.Outcome.{outcome}
use Rattle.laws.proofs.ListLaws.{cases, clash}
use Rattle.recording.specs.Format.{words_of, layout, right, Read, reading_of, reading, calls_in, statuses_in}
use Rattle.recording.proofs.Right.{right-rules}
use Rattle.recording.proofs.Reach.{numbers, layout-length, at-numbers}
use Rattle.recording.proofs.Answers.{by-test, all-numbers, few-calls}
use Rattle.recording.proofs.TakenFacts.{held}
use Rattle.recording.proofs.Readings.{taken-whole}
use Rattle.recorded_timer.specs.RecordedCalls.{step}
use Rattle.playback.specs.Replay.{Replay, replay_of, played_from, replay_rules, played, replaying}

-- ---- a position

stops-early : (ws : List ℕ) → right (layout ws) ws ≤ 12005
stops-early ws =
    cases (ltb (right numbers ws) 4)
    (λ t. let h = ltb-true (right numbers ws) 4 t in let e = at-numbers ws h in omega arith)
    (λ t. let h = ltb-false (right numbers ws) 4 t in
    let c = few-calls ws (all-numbers ws (right numbers ws) refl h) in
    let l = layout-length ws in
    let m = right-rules (layout ws) ws in
    omega arith)

position-few : (size : ℕ) (ws : List ℕ) → (reading_of size ws).position ≤ 12005
position-few size ws =
    let p = right (layout ws) ws in
    let s = stops-early ws in
    cases (eqb p (length (layout ws)) && eqb size (4 * p))
    (λ t. let e = ap (λ (r : Read). r.position) (by-test size ws true p refl t) in omega arith)
    (λ t. let e = ap (λ (r : Read). r.position) (by-test size ws false p refl t) in omega arith)

-- ---- a place

abbrev there : Option ℕ → Bool
there none = false
there (some k) = true

abbrev number : Option ℕ → ℕ
number none = 0
number (some k) = k

place-few : (k : ℕ) (table list calls statuses : List ℕ) (j : ℕ) → (played_from k table list calls statuses).place ≡ some j → j < k + length statuses
unfolding played_from
place-few k table list calls [] j e = clash (sym (ap there e))
place-few k table list calls (expected ∷ statuses) j e =
    let s = step table list (take 11 calls) in
    cases (eqb s.status expected)
    (λ t. let h = place-few (suc k) s.table s.list (drop 11 calls) statuses j (rw t at e) in omega arith)
    (λ t. let f : some k ≡ some j = rw t at e in let g : k ≡ j = ap number f in omega arith)

pub few-places : (bytes table list : List ℕ) (k : ℕ) → (replaying bytes table list).place ≡ some k → k ≤ 12005
unfolding replaying
few-places bytes table list k e =
    let r = reading bytes in
    let p = position-few (length bytes) (words_of bytes) in
    cases (eqb (first_of (replay_rules r table list)) 0)
    (λ t.
    cases (eqb r.status 0)
    (λ f.
    let h = held bytes (eqb-true r.status 0 f) in
    let few = h.few in
    let long = h.statuses-long in
    let b = place-few 0 _ _ _ _ k (rw t at e) in
    omega arith)
    (λ f. clash (sym (rw f at t))))
    (λ t. let f : some r.position ≡ some k = rw t at e in let g : r.position ≡ k = ap number f in omega arith)

-- ---- the words that any recording needs

zero_of : (b : Bool) (x y : Replay) → x.status ≡ 0 → y.status ≡ 0 → (cond b x y).status ≡ 0
zero_of true x y p q = p
zero_of false x y p q = q

played-zero : (k : ℕ) (table list calls statuses : List ℕ) → (played_from k table list calls statuses).status ≡ 0
unfolding played_from
played-zero k table list calls [] = refl
played-zero k table list calls (expected ∷ statuses) =
    let s = step table list (take 11 calls) in
    zero_of (eqb s.status expected) (played_from (suc k) s.table s.list (drop 11 calls) statuses) (replay_of 0 (some k) s.table s.list)
    (played-zero (suc k) s.table s.list (drop 11 calls) statuses) refl

pub long-enough : (bytes table list : List ℕ) → 2050 ≤ length table → 765 ≤ length list
    → ((replaying bytes table list).status ≡ 0) ⊎ ((replaying bytes table list).status ≡ 10)
unfolding replaying
long-enough bytes table list g h =
    cases (eqb (reading bytes).status 0)
    (λ t. let e = eqb-true (reading bytes).status 0 t in
    let w = taken-whole (length bytes) (words_of bytes) e in
    let n = w.slots-is in
    let m = (held bytes e).slots-most in
    let p = le-ltb (length table) (10 + 8 * (reading bytes).slots) (omega arith) in
    let q = le-ltb (length list) (3 * (reading bytes).slots) (omega arith) in
    inl ((λ j. status (when InvalidNumber (not (t j)) ∷ when InvalidSize (p j) ∷ when ListTooShort (q j) ∷ [])) ∙ played-zero 0 laid_out lent (calls_in (words_of bytes)) (statuses_in (words_of bytes))))
    (λ t. inr (ap (λ (b : Bool). status (when InvalidNumber (not b) ∷ short)) t))
  where
    laid_out : List ℕ
    laid_out = (outcome table (lay_out (reading bytes).slots (reading bytes).rate 0)).table

    lent : List ℕ
    lent = take (3 * (reading bytes).slots) list

    short : List Refusal
    short = when InvalidSize (ltb (length table) (10 + 8 * (reading bytes).slots)) ∷ when ListTooShort (ltb (length list) (3 * (reading bytes).slots)) ∷ []

    status : List Refusal → ℕ
    status rules =
        let s = first_of rules in
        (cond (eqb s 0) (played (reading bytes) (words_of bytes) table list) (replay_of s (some (reading bytes).position) table list)).status
