-- Document 02, item 11: one step of a macro. What it asks the manager, what it answers, what becomes of the record and of the table, and when it is refused.
-- Assumes nothing: these are definitions.
use Rattle.std.specs.Prelude.{ℕ, cond, List, [], ◌∷◌, get_or}
use Rattle.model.specs.declared.Status.TheVariants.{InvalidNumber}
use Rattle.model.specs.Status.{number_of}
use Rattle.model.specs.Calls.{Call, cancel, fire_after, ticks_left}
use Rattle.model.specs.Outcome.{Outcome, outcome_of, outcome}
use Rattle.model.specs.declared.Status.{Status}
use Rattle.std.specs.declared.result.Result.{Result}
use Rattle.answers.specs.Answers.{status_of, answer_of}
use Rattle.macro_steps.specs.declared.Step.{Step}
use Rattle.macro_steps.specs.declared.Step.TheVariants.{Arm, Cancel, Wait, Check, Repeat, End, Sign, NoStep}
use Rattle.macro_steps.specs.Steps.{step_at}
use Rattle.macro_record.specs.declared.Runner.{Runner}
use Rattle.macro_record.specs.Record.{ready, moved}

-- "arm (as fire after), cancel, wait until a timer's ticks left answer 0"; they "call as the host's party"
abbrev pub calls_of : ℕ → Step → List Call
calls_of party (Arm id ticks routine user_data) = fire_after party id ticks routine user_data ∷ []
calls_of party (Cancel id) = cancel party id ∷ []
calls_of party (Wait id) = ticks_left party id ∷ []
calls_of party Check = []
calls_of party (Repeat times) = []
calls_of party End = []
calls_of party Sign = []
calls_of party NoStep = []

-- what comes of that call; nothing where there is none
abbrev pub asked : List ℕ → List Call → Outcome
asked t [] = outcome_of 0 (0 ∷ []) t []
asked t (c ∷ cs) = outcome t c

-- "Sign answers 1, other steps 0"
abbrev pub sign_of : Step → ℕ
sign_of (Arm id ticks routine user_data) = 0
sign_of (Cancel id) = 0
sign_of (Wait id) = 0
sign_of Check = 0
sign_of (Repeat times) = 0
sign_of End = 0
sign_of Sign = 1
sign_of NoStep = 0

-- what comes of it
pub record Taken : Type 0 where
  pub status : ℕ
  pub answer : List ℕ
  pub runner : Runner
  pub table : List ℕ

abbrev pub taken_as : ℕ → List ℕ → Runner → List ℕ → Taken
taken_as status answer runner table = record { status = status; answer = answer; runner = runner; table = table }

-- a step that is made: the manager is asked, and by what it says the record moves
abbrev pub acted : ℕ → List ℕ → Runner → List ℕ → Step → Taken
acted party ws r t s =
    let o = asked t (calls_of party s) in taken_as 0 (sign_of s ∷ []) (moved ws r o.status (get_or o.answer 0 0) s) o.table

-- "is 10, a step's only refusal, and the record stays"
abbrev pub not_taken : Runner → List ℕ → Taken
not_taken r t = taken_as (number_of InvalidNumber) (0 ∷ []) r t

-- a step on any record: made or refused
unfoldable pub stepped : ℕ → List ℕ → Runner → List ℕ → Taken
stepped party ws r t = cond (ready ws r) (acted party ws r t (step_at ws r.place)) (not_taken r t)

-- what the code answers, in these numbers
abbrev pub took : Result ℕ Status → Runner → List ℕ → Taken
took a r t = taken_as (status_of a) (answer_of a) r t
