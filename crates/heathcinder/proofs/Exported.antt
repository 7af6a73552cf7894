-- The call's equation holds of what C gets, whose status and answer are those of the call's answer. Where a call has no answer of its own its
-- outcome's is 0, whether it is accepted or refused. Assumes nothing.
use mathlib.Core.Path.{◌≡◌, sym, ap, ◌∙◌}
use Prim.Native.Nat.{ℕ}
use mathlib.Core.Bool.{Bool, true, false, cond}
use mathlib.Core.List.{List, [], ◌∷◌}
use lib.Dec.{eqb}
use lib.ListN.{replicate}
use Rattle.model.specs.Calls.{Call, answer_count}
use Rattle.model.specs.Directives.{effect}
use Rattle.model.specs.Words.{read}
use Rattle.model.specs.Outcome.{Outcome, outcome_of, status_on, refused, accepted, outcome}

-- ---- a call with no answer of its own

silent : (b : Bool) (status : ℕ) (t : List ℕ) (c : Call) → (effect t (read t) c).answer ≡ 0 ∷ [] → answer_count c ≡ 1
    → (cond b (accepted t c) (refused status t c)).answer ≡ 0 ∷ []
silent true status t c e one = e
silent false status t c e one = ap (λ (n : ℕ). replicate n 0) one

outcome-silent : (t : List ℕ) (c : Call) → (effect t (read t) c).answer ≡ 0 ∷ [] → answer_count c ≡ 1 → (outcome t c).answer ≡ 0 ∷ []
unfolding outcome
outcome-silent t c e one = silent (eqb (status_on t c) 0) (status_on t c) t c e one

-- ---- what C gets, from the call's equation

module _ {table list : List ℕ} {s status : ℕ} {a : List ℕ} where
  pub answers : {answer : List ℕ} {o : Outcome} → outcome_of s a table list ≡ o → status ≡ s → answer ≡ a → outcome_of status answer table list ≡ o
  answers e p q = (λ j. outcome_of (p j) (q j) table list) ∙ e

  pub answers-none : (t : List ℕ) (c : Call) → (effect t (read t) c).answer ≡ 0 ∷ [] → answer_count c ≡ 1 → outcome_of s a table list ≡ outcome t c
      → status ≡ s → outcome_of status (0 ∷ []) table list ≡ outcome t c
  answers-none t c none one e p = answers e p (sym (ap (λ (o : Outcome). o.answer) e ∙ outcome-silent t c none one))
