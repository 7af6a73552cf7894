-- Document 02, item 13, packing the break: what the checker answers, for all inputs. Assumes nothing: these are definitions.
use Rattle.std.specs.Prelude.{ℕ, ⊤, not, List, [], ◌∷◌, eqb, length, Result, Ok, Err}
use Rattle.model.specs.declared.Status.{Status}
use Rattle.model.specs.declared.Status.TheVariants.{InvalidNumber, Unsatisfied}
use Rattle.model.specs.Status.{Refusal, number_of, when, first_of}
use Rattle.plans.specs.Plans.{jobs_of, within_limits, booked, accepts}

-- `Ok` is status 0; `Err s` is the status of that name
abbrev pub status_of : Result ⊤ Status → ℕ
status_of (Ok done) = 0
status_of (Err s) = number_of s

-- "Numbers outside these limits or not one start a job are 10"; "otherwise it answers 13", which "comes last"
abbrev pub check_rules : List ℕ → ℕ → List ℕ → List Refusal
check_rules words end starts =
    when InvalidNumber (not (within_limits words end))
    ∷ when InvalidNumber (not (eqb (length starts) (length (jobs_of words))))
    ∷ when Unsatisfied (not (accepts end (booked (jobs_of words) starts)))
    ∷ []

-- "A checker takes anyone's start ticks": its status
unfoldable pub checked : List ℕ → ℕ → List ℕ → ℕ
checked words end starts = first_of (check_rules words end starts)
