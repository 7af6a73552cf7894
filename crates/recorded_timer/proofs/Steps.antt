-- One recorded call: which call its words are, by their number; and what a call of the library leaves, as a step of the replay.
-- Assumes nothing.
use mathlib.Core.Path.{◌≡◌, sym, ap, ◌∙◌}
use Prim.Native.Nat.{ℕ, ◌-◌, ◌≤◌}
use native.Mathlib.Omega.{arith}
use mathlib.Core.Logic.{inl, inr}
use mathlib.Core.List.{List, [], ◌++◌, append-nil}
use lib.ListN.{length, get_or, drop, drop_of_length-le}
use Rattle.model.specs.Calls.{Call, get_clock}
use Rattle.model.specs.Outcome.{Outcome, outcome_of, outcome}
use mathlib.Core.Bool.{true}
use Rattle.recording.proofs.Right.{true-within}
use Rattle.recording.specs.CallNumbers.{word_of}
use Rattle.recording.specs.Format.{within}
use Rattle.recording.specs.declared.call_number.CallNumber.{CallNumber}
use Rattle.recorded_timer.specs.Parts.{OnTimer}
use Rattle.recorded_timer.specs.RecordedCalls.{numbered, call_of, Step, step_of, step}

-- the call of that number
pick : (list ws : List ℕ) (n : ℕ) → get_or ws 0 0 ≡ n → get_or (numbered list ws) (n - 2) get_clock ≡ call_of list ws
unfolding call_of
pick list ws n e = sym (ap (λ (i : ℕ). get_or (numbered list ws) (i - 2) get_clock) e)

module _ (t list ws : List ℕ) where
  -- what an outcome leaves
  abbrev leaves : Outcome → Step
  leaves o = step_of o.status o.table (o.list ++ drop (length o.list) list)

  -- the step of the words is what the call of their number leaves
  is-step : (n : ℕ) → get_or ws 0 0 ≡ n → leaves (outcome t (get_or (numbered list ws) (n - 2) get_clock)) ≡ step t list ws
  unfolding step
  is-step n e = ap (λ (c : Call). leaves (outcome t c)) (pick list ws n e)

  module _ (n : ℕ) (is : get_or ws 0 0 ≡ n) {s : ℕ} {a t' : List ℕ} where
    -- a call that is lent no list
    pub plays : outcome_of s a t' [] ≡ outcome t (get_or (numbered list ws) (n - 2) get_clock) → step_of s t' list ≡ step t list ws
    plays e = ap leaves e ∙ is-step n is

    -- a call that is lent the list
    pub plays-lent : {l : List ℕ} → outcome_of s a t' l ≡ outcome t (get_or (numbered list ws) (n - 2) get_clock) → length l ≡ length list
        → step_of s t' l ≡ step t list ws
    plays-lent {l} e m =
        let rest : l ≡ l ++ drop (length l) list =
        sym (ap (λ (r : List ℕ). l ++ r) (drop_of_length-le list (let z : length list ≤ length l = omega arith in z)) ∙ append-nil l) in
        ap (step_of s t') rest ∙ ap leaves e ∙ is-step n is

-- a status that is another's, and a step with that
pub with-status : {s s' : ℕ} {t l : List ℕ} {x : Step} → s ≡ s' → step_of s' t l ≡ x → step_of s t l ≡ x
with-status {t} {l} e is = (λ j. step_of (e j) t l) ∙ is

-- ---- the number of an arm

-- the arm of this call is taken for its number
pub is-number : {call other : CallNumber} {n : ℕ} → word_of call ≡ n → call ≡ other → n ≡ word_of other
is-number e is = sym e ∙ ap word_of is

pub timer-within : (n : ℕ) → OnTimer n → within 2 19 n ≡ true
timer-within n (inl on) = true-within 2 19 n on.0 (omega arith)
timer-within n (inr (inl on)) = true-within 2 19 n (omega arith) (omega arith)
timer-within n (inr (inr on)) = true-within 2 19 n (omega arith) (omega arith)

pub ruleset numbers = (timer-within)
