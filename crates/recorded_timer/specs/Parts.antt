-- What the parts of a recorded call ask and promise: which numbers, and what is left. Assumes nothing: these are definitions.
use Rattle.std.specs.Prelude.{◌≡◌, ◌⊎◌, ℕ, ◌≤◌, List}
use Rattle.model.specs.declared.Status.{Status}
use Rattle.std.specs.declared.result.Result.{Result}
use Rattle.answers.specs.Answers.{status_of}
use Rattle.recorded_timer.specs.RecordedCalls.{step_of, step}

-- the number is between these two
abbrev pub Between : ℕ → ℕ → ℕ → Type 0
Between number least most = (least ≤ number) × (number ≤ most)

-- the call of this number is on one timer, by its id or its name
abbrev pub OnTimer : ℕ → Type 0
OnTimer number = Between number 2 9 ⊎ ((number ≡ 13) ⊎ Between number 16 17)

-- the call of these words, lent this list, leaves the status of this answer, this table and this list
abbrev pub Lent : List ℕ → List ℕ → List ℕ → Result ℕ Status → List ℕ → List ℕ → Type 0
Lent words table list r table' list' = step_of (status_of r) table' list' ≡ step table list words

-- the same of a call that leaves any list as it is
abbrev pub Alone : List ℕ → List ℕ → Result ℕ Status → List ℕ → Type 0
Alone words table r table' = (list : List ℕ) → Lent words table list r table' list
