-- A start: each `return` of the code in one line; and, behind an opening none of whose rules applies, the outcome of the call. Assumes nothing.
use mathlib.Core.Path.{◌≡◌, refl, sym, ap, ap₂, ◌∙◌}
use Prim.Native.Nat.{ℕ}
use mathlib.Core.Bool.{Bool, true, false, cond}
use mathlib.Core.List.{List, [], ◌∷◌, ◌++◌}
use lib.ListN.{get_or, take}
use lib.Dec.{eqb}
use borrow.Author.Tests.{eq-eqb, ne_eqb}
use Rattle.model.specs.declared.Mode.{Mode}
use Rattle.model.specs.declared.Status.{Status}
use Rattle.model.specs.Lists.{All}
use Rattle.model.specs.Status.{Refusal, number_of, first_of}
use Rattle.model.specs.Calls.{Call}
use Rattle.model.specs.State.{index_of}
use Rattle.model.specs.Directives.{started, refusals}
use Rattle.model.specs.Words.{written_over, read}
use Rattle.model.specs.Outcome.{Outcome, outcome_of, status_on, refused, accepted, outcome}
use Rattle.laws.proofs.StatusLaws.{not-zero}
use Rattle.laws.proofs.AcceptedCalls.{no_rule, none-given, first-given}
use Rattle.starting.specs.Starts.{start_outcome}

module _ (m : Mode) (rules : List Refusal) (t : List ℕ) (id n r u : ℕ) where
  abbrev done : Outcome
  done = outcome_of 0 (0 ∷ []) (written_over (started m (read t) (index_of id) n r u) t) []

  pub start-refuses : (s : Status) (k : ℕ) → All (λ x. x.given ≡ false) (take k rules) → (get_or rules k no_rule).given ≡ true
      → (get_or rules k no_rule).status ≡ s → outcome_of (number_of s) (0 ∷ []) t [] ≡ start_outcome m rules t id n r u
  unfolding start_outcome
  start-refuses s k before now number =
      let status : first_of rules ≡ number_of s = first-given rules k before now ∙ ap number_of number in
      sym (ap₂ (λ (b : Bool) (x : ℕ). cond b done (outcome_of x (0 ∷ []) t []))
      (ne_eqb (first_of rules) 0 (λ z. not-zero s (sym status ∙ z))) status)

  pub start-done : {v : List ℕ} → All (λ x. x.given ≡ false) rules → v ≡ written_over (started m (read t) (index_of id) n r u) t
      → outcome_of 0 (0 ∷ []) v [] ≡ start_outcome m rules t id n r u
  unfolding start_outcome
  start-done none is =
      ap (λ (x : List ℕ). outcome_of 0 (0 ∷ []) x []) is
      ∙ sym (ap (λ (b : Bool). cond b done (outcome_of (first_of rules) (0 ∷ []) t [])) (eq-eqb (first_of rules) 0 (none-given rules none)))

-- ---- the call

past : (first more : List Refusal) → All (λ x. x.given ≡ false) first → first_of (first ++ more) ≡ first_of more
past [] more h = refl
past (r ∷ rs) more h = rw h.0 (past rs more h.1)

-- a call whose rules are those of an opening and then these, and which starts a timer
module _ (c : Call) (t : List ℕ) (first rules : List Refusal) (m : Mode) (id n r u : ℕ) where
  pub opened-start : refusals t (read t) c ≡ first ++ rules → All (λ x. x.given ≡ false) first
      → accepted t c ≡ outcome_of 0 (0 ∷ []) (written_over (started m (read t) (index_of id) n r u) t) []
      → ((k : ℕ) → refused k t c ≡ outcome_of k (0 ∷ []) t []) → start_outcome m rules t id n r u ≡ outcome t c
  unfolding start_outcome outcome status_on
  opened-start is none accepts refuses =
      let status : first_of (refusals t (read t) c) ≡ first_of rules = ap first_of is ∙ past first rules none in
      sym (ap₂ (λ (a b : Outcome). cond (eqb (first_of (refusals t (read t) c)) 0) a b) accepts (refuses (first_of (refusals t (read t) c)))
      ∙ ap (λ (k : ℕ). cond (eqb k 0) (outcome_of 0 (0 ∷ []) (written_over (started m (read t) (index_of id) n r u) t) []) (outcome_of k (0 ∷ []) t [])) status)
