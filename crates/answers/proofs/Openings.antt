-- An opening's answer, from the rules that it tried; and a call whose rules begin with those of an opening is refused as the opening is.
-- Assumes nothing.
use mathlib.Core.Path.{◌≡◌, sym, ap, ◌∙◌, subst}
use Prim.Native.Nat.{ℕ, zero, suc}
use native.Mathlib.Omega.{arith}
use mathlib.Core.Bool.{true, false}
use mathlib.Core.List.{List, [], ◌∷◌, ◌++◌}
use lib.ListN.{get_or, take, replicate}
use Rattle.model.specs.declared.Status.{Status}
use Rattle.model.specs.Lists.{All}
use Rattle.model.specs.Status.{Refusal, number_of, first_of}
use Rattle.model.specs.Calls.{Call, lent_to, answer_count}
use Rattle.model.specs.Outcome.{outcome_of, outcome}
use Rattle.laws.proofs.ListLaws.{clash}
use Rattle.laws.proofs.AcceptedCalls.{no_rule}
use Rattle.laws.proofs.OutcomeLaws.{status-is, refused-by}
use Rattle.std.specs.declared.result.Result.{Result}
use Rattle.std.specs.declared.result.Result.TheVariants.{Ok, Err}
use Rattle.std.specs.Prelude.{IsErrAnd}
use Rattle.std.proofs.lemmas.Result.{err_from_is_err_and}
use Rattle.answers.specs.Answers.{status_of, answer_of}
use Rattle.answers.specs.Openings.{Opens}
use Rattle.answers.proofs.Replies.{rules}

-- ---- what an opening answers

-- the first rule that applies is still the first where more rules follow
still-first : (rs more : List Refusal) (k : ℕ) → All (λ x. x.given ≡ false) (take k rs) → (get_or rs k no_rule).given ≡ true
    → first_of (rs ++ more) ≡ number_of (get_or rs k no_rule).status
still-first [] more k h e = clash (sym e)
still-first (r ∷ rs) more zero h e = rw e
still-first (r ∷ rs) more (suc k) h e = rw h.0 (still-first rs more k h.1 e)

abbrev is_done : Result ℕ Status → ℕ
is_done (Ok n) = 1
is_done (Err s) = 0

module _ {first : List Refusal} {P : ℕ → Type 0} where
  pub goes_on : {n : ℕ} → P n → Opens first P (Ok n)
  goes_on p = record {
    holds = λ m e. subst P (ap (λ (a : Result ℕ Status). get_or (answer_of a) 0 0) e) p;
    stopped = λ s e. let z : ◌≡◌ {A = ℕ} 1 0 = ap is_done e in absurd (omega arith);
  }

  -- rule k applies, and none before it
  pub stops : (s : Status) (k : ℕ) → All (λ x. x.given ≡ false) (take k first) → (get_or first k no_rule).given ≡ true
      → (get_or first k no_rule).status ≡ s → Opens first P (Err s)
  stops s k before now number = record {
    holds = λ m e. let z : ◌≡◌ {A = ℕ} 0 1 = ap is_done e in absurd (omega arith);
    stopped = λ r e more. still-first first more k before now ∙ ap number_of number ∙ ap status_of e;
  }

-- ---- the call's refusal

module _ (t : List ℕ) (c : Call) where
  pub refuses-as : {first : List Refusal} {P : ℕ → Type 0} {r : Result ℕ Status} {s : Status} → Opens first P r → r ≡ Err s
      → (more : List Refusal) → rules t c ≡ first ++ more → ◌≡◌ {A = List ℕ} (0 ∷ []) (replicate (answer_count c) 0)
      → outcome_of (status_of r) (answer_of r) t (lent_to c) ≡ outcome t c
  refuses-as {s = s} o e more is zeros =
      (λ j. outcome_of (status_of (e j)) (answer_of (e j)) t (lent_to c))
      ∙ (λ j. outcome_of (number_of s) (zeros j) t (lent_to c))
      ∙ sym (refused-by t c s (status-is t c ∙ ap first_of is ∙ o.stopped s e more))

  -- where the call hands the opening's refusal on by `?`
  pub hands-on : {first : List Refusal} {P : ℕ → Type 0} {s : Status} (r : Result ℕ Status) → IsErrAnd r (λ y. y ≡ s) → Opens first P (Err s)
      → (more : List Refusal) → rules t c ≡ first ++ more → ◌≡◌ {A = List ℕ} (0 ∷ []) (replicate (answer_count c) 0)
      → outcome_of (status_of r) (answer_of r) t (lent_to c) ≡ outcome t c
  hands-on r handed o more is zeros =
      let p = err_from_is_err_and r handed in
      let same = p.1 ∙ ap Err p.2 in
      refuses-as (subst (Opens _ _) (sym same) o) same more is zeros

  -- the same of a call with more numbers in its answer
  pub refuses-with : {first : List Refusal} {P : ℕ → Type 0} {r : Result ℕ Status} {s : Status} → Opens first P r → r ≡ Err s
      → (more : List Refusal) → rules t c ≡ first ++ more → (others : List ℕ) → ◌≡◌ {A = List ℕ} (0 ∷ others) (replicate (answer_count c) 0)
      → outcome_of (status_of r) (answer_of r ++ others) t (lent_to c) ≡ outcome t c
  refuses-with {s = s} o e more is others zeros =
      (λ j. outcome_of (status_of (e j)) (answer_of (e j) ++ others) t (lent_to c))
      ∙ (λ j. outcome_of (number_of s) (zeros j) t (lent_to c))
      ∙ sym (refused-by t c s (status-is t c ∙ ap first_of is ∙ o.stopped s e more))
