-- Document 02, item 13, packing the break: what the planner answers and what it leaves in the list that it is lent, for all inputs. Assumes nothing: these are
-- definitions.
use Rattle.std.specs.Prelude.{ℕ, ◌≤◌, true, cond, not, Result, ⊤, List, [], ◌∷◌, ◌++◌, ◌≡◌, ltb, eqb, length, take, drop}
use Rattle.model.specs.declared.Status.{Status}
use Rattle.model.specs.declared.Status.TheVariants.{InvalidSize, InvalidNumber, Unsatisfied}
use Rattle.model.specs.Status.{Refusal, when, first_of}
use Rattle.plans.specs.Plans.{jobs_of, within_limits}
use Rattle.plans.specs.Checker.{status_of, checked}
use Rattle.planner.specs.Proposal.{proposal}

-- "Numbers outside these limits .. are 10; then a list too short for the starts is 8; 13 comes last"; it "proposes, through the checker"
abbrev pub plan_rules : List ℕ → ℕ → List ℕ → List Refusal
plan_rules words end list =
    when InvalidNumber (not (within_limits words end))
    ∷ when InvalidSize (ltb (length list) (length (jobs_of words)))
    ∷ when Unsatisfied (not (eqb (checked words end (proposal words)) 0))
    ∷ []

-- the planner's status
unfoldable pub plan_status : List ℕ → ℕ → List ℕ → ℕ
plan_status words end list = first_of (plan_rules words end list)

-- what comes of a call
pub record Outcome : Type 0 where
  pub status : ℕ
  pub list : List ℕ

abbrev pub exported : ℕ → List ℕ → Outcome
exported status list = record { status = status; list = list }

abbrev pub outcome_of : Result ⊤ Status → List ℕ → Outcome
outcome_of verdict list = exported (status_of verdict) list

-- "A refusal leaves the list, and words past the starts stay."
unfoldable pub planned : List ℕ → ℕ → List ℕ → Outcome
planned words end list =
    let status = plan_status words end list in
    let starts = proposal words in
    exported status (cond (eqb status 0) (starts ++ drop (length starts) list) list)

-- "no accepted plan exists": the checker refuses every list of starts
abbrev pub NoPlan : List ℕ → ℕ → Type 0
NoPlan words end = (starts : List ℕ) → checked words end starts ≡ 0 → ⊥

-- What a status and the list after the call say of every plan, whichever the planner makes: the starts that it wrote are accepted, a plan is found
-- wherever there is one, and it "refuses with 13 exactly if no accepted plan exists", where no rule before applies.
pub record Exact (words : List ℕ) (end : ℕ) (list : List ℕ) (status : ℕ) (after : List ℕ) : Type 0 where
  pub accepted : status ≡ 0 → checked words end (take (length (jobs_of words)) after) ≡ 0
  pub found : length (jobs_of words) ≤ length list → (starts : List ℕ) → checked words end starts ≡ 0 → status ≡ 0
  pub none : status ≡ 13 → NoPlan words end
  pub only : within_limits words end ≡ true → length (jobs_of words) ≤ length list → NoPlan words end → status ≡ 13
