-- What the answers are in document 01's numbers: an answer of each kind with its status and its numbers. Assumes nothing: these are definitions.
use Rattle.std.specs.Prelude.{ℕ, ℤ, pos, List, [], ◌∷◌, replicate}
use Rattle.std.specs.declared.result.Result.{Result}
use Rattle.std.specs.declared.result.Result.TheVariants.{Ok, Err}
use Rattle.calendar.specs.declared.WallTime.{WallTime}
use Rattle.model.specs.declared.Status.{Status}
use Rattle.model.specs.Status.{number_of}
use Rattle.model.specs.Directives.{numbers}
use Rattle.answers.specs.declared.Setting.{Setting}
use Rattle.answers.specs.declared.Progress.{Progress}

-- of an answer of any kind: `Ok` is status 0, `Err s` is the status of that name
abbrev pub status_of : {A : Type 0} → Result A Status → ℕ
status_of (Ok n) = 0
status_of (Err s) = number_of s

-- `Ok n` is the answer n; a refusal has the answer 0
abbrev pub answer_of : Result ℕ Status → List ℕ
answer_of (Ok n) = n ∷ []
answer_of (Err s) = 0 ∷ []

-- of get clock: `Ok w` is the seven numbers of w; a refusal has seven zeros
abbrev pub reading_answer : Result WallTime Status → List ℕ
reading_answer (Ok w) = numbers w w.ticks
reading_answer (Err s) = replicate 7 0

-- of set clock: how many fired, and how far the clock moved; a refusal has 0 of both
abbrev pub setting_answer : Result Setting Status → List ℕ
setting_answer (Ok s) = s.fired ∷ []
setting_answer (Err s) = 0 ∷ []

abbrev pub moved_in : Result Setting Status → ℤ
moved_in (Ok s) = s.moved
moved_in (Err s) = pos 0

-- of leap: how many fired, and how many ticks were done; a refusal has 0 of both
abbrev pub progress_answer : Result Progress Status → List ℕ
progress_answer (Ok p) = p.fired ∷ p.done ∷ []
progress_answer (Err s) = 0 ∷ 0 ∷ []
