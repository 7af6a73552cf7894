-- The replay from one place to the next. Assumes nothing.
use mathlib.Core.Path.{◌≡◌, sym, ap, ◌∙◌}
use Prim.Native.Nat.{ℕ, zero, suc, ◌+◌, ◌-◌, ◌*◌, ◌≤◌, ◌<◌}
use native.Mathlib.Nat.{add-zero}
use native.Mathlib.Numerals.{add-one}
use native.Mathlib.Omega.{arith}
use mathlib.Core.Bool.{Bool, cond}
use mathlib.Core.Option.{none, some}
use mathlib.Core.List.{List, [], ◌∷◌}
use lib.ListN.{length, get_or, take, drop, drop_of_length-le}
use lib.Seq.{drop-cons, drop-drop, get_or-drop, get_or-take, take-take, take-nil}
use lib.Dec.{eqb}
use borrow.Author.Tests.{eq-eqb, ne_eqb}
use Rattle.recording.specs.Format.{calls_in, statuses_in}
use Rattle.recording.proofs.TakenFacts.{Held}
use Rattle.recorded_timer.specs.RecordedCalls.{Step, step_of, step}
use Rattle.playback.specs.Replay.{Replay, replay_of, played_from}

-- ---- the words of a call among those of all calls

drop-take : (m n : ℕ) (l : List ℕ) → drop m (take n l) ≡ take (n - m) (drop m l)
drop-take zero n l = ap (λ (i : ℕ). take i l) (let z : n ≡ n - 0 = omega arith in z)
drop-take (suc m) zero l = let z : zero - suc m ≡ 0 = omega arith in sym (ap (λ (i : ℕ). take i (drop (suc m) l)) z)
drop-take (suc m) (suc n) [] = sym (take-nil (suc n - suc m))
drop-take (suc m) (suc n) (x ∷ l) =
    let z : n - m ≡ suc n - suc m = omega arith in drop-take m n l ∙ ap (λ (i : ℕ). take i (drop m l)) z

-- the eleven words of call k
abbrev pub eleven : List ℕ → ℕ → List ℕ
eleven ws k = take 11 (drop (4 + 11 * k) ws)

call-words : (ws : List ℕ) (k : ℕ) → k < get_or ws 3 0 → take 11 (drop (11 * k) (calls_in ws)) ≡ eleven ws k
call-words ws k h =
    let c = get_or ws 3 0 in
    ap (take 11) (drop-take (11 * k) (11 * c) (drop 4 ws)) ∙ take-take 11 (11 * c - 11 * k) (drop (11 * k) (drop 4 ws)) (omega arith)
    ∙ ap (take 11) (drop-drop (11 * k) 4 ws)

pub first_word : (ws : List ℕ) (k : ℕ) → get_or (eleven ws k) 0 0 ≡ get_or ws (4 + 11 * k) 0
first_word ws k =
    get_or-take 11 (drop (4 + 11 * k) ws) 0 0 (omega arith) ∙ get_or-drop (4 + 11 * k) ws 0 0 ∙ ap (λ (n : ℕ). get_or ws n 0) (add-zero (4 + 11 * k))

-- ---- one place after another

-- what is left to play at place k
abbrev pub left : List ℕ → ℕ → List ℕ → List ℕ → Replay
left ws k t l = played_from k t l (drop (11 * k) (calls_in ws)) (drop k (statuses_in ws))

module _ (ws : List ℕ) (k : ℕ) (t l : List ℕ) (h : Held ws) (in-loop : k < get_or ws 3 0) where
  abbrev expected : ℕ
  expected = get_or ws (5 + 11 * get_or ws 3 0 + k) 0

  rest : drop k (statuses_in ws) ≡ expected ∷ drop (k + 1) (statuses_in ws)
  rest =
      let n = h.statuses-long in
      drop-cons (statuses_in ws) k 0 (omega arith)
      ∙ (λ j. get_or-drop (5 + 11 * get_or ws 3 0) ws k 0 j ∷ drop (sym (add-one k) j) (statuses_in ws))

  -- by the step of call k: it goes on behind it, or ends there
  abbrev by-step : Step → Replay
  by-step s =
      cond (eqb s.status expected) (played_from (suc k) s.table s.list (drop 11 (drop (11 * k) (calls_in ws))) (drop (k + 1) (statuses_in ws)))
      (replay_of 0 (some k) s.table s.list)

  opened : left ws k t l ≡ by-step (step t l (eleven ws k))
  unfolding played_from
  opened =
      ap (played_from k t l (drop (11 * k) (calls_in ws))) rest ∙ ap (λ (w : List ℕ). by-step (step t l w)) (call-words ws k in-loop)

  module _ (status : ℕ) (t' l' : List ℕ) (is : step_of status t' l' ≡ step t l (eleven ws k)) where
    abbrev ended : Replay
    ended = replay_of 0 (some k) t' l'

    abbrev next : Replay
    next = played_from (suc k) t' l' (drop 11 (drop (11 * k) (calls_in ws))) (drop (k + 1) (statuses_in ws))

    pub differs : (status ≡ expected → ⊥) → ended ≡ left ws k t l
    differs n = sym (opened ∙ sym (ap by-step is) ∙ ap (λ (b : Bool). cond b next ended) (ne_eqb status expected n))

    pub goes_on : status ≡ expected → left ws k t l ≡ left ws (k + 1) t' l'
    goes_on e =
        let d : drop 11 (drop (11 * k) (calls_in ws)) ≡ drop (11 * (k + 1)) (calls_in ws) =
        drop-drop 11 (11 * k) (calls_in ws) ∙ ap (λ (i : ℕ). drop i (calls_in ws)) (let z : 11 * k + 11 ≡ 11 * (k + 1) = omega arith in z) in
        opened ∙ sym (ap by-step is) ∙ ap (λ (b : Bool). cond b next ended) (eq-eqb status expected e)
        ∙ (λ j. played_from (sym (add-one k) j) t' l' (d j) (drop (k + 1) (statuses_in ws)))

pub left-none : (ws : List ℕ) (k : ℕ) (t l : List ℕ) → Held ws → get_or ws 3 0 ≤ k → replay_of 0 none t l ≡ left ws k t l
unfolding played_from
left-none ws k t l h g =
    let n = h.statuses-long in
    sym (ap (played_from k t l (drop (11 * k) (calls_in ws))) (drop_of_length-le (statuses_in ws) (let z : length (statuses_in ws) ≤ k = omega arith in z)))
