-- What an opening answers: calls that begin with the same rules open alike. A reader need not believe this: no call's contract uses it.
-- Assumes nothing: these are definitions.
use Rattle.std.specs.Prelude.{◌≡◌, ℕ, List, ◌++◌}
use Rattle.model.specs.declared.Status.{Status}
use Rattle.model.specs.Status.{Refusal, number_of, first_of}
use Rattle.std.specs.declared.result.Result.{Result}
use Rattle.std.specs.declared.result.Result.TheVariants.{Ok, Err}

-- where it is done P holds of its number; else it is refused with the first of these rules that applies, whatever rules come after
pub record Opens (rules : List Refusal) (P : ℕ → Type 0) (r : Result ℕ Status) : Type 0 where
  pub holds : (n : ℕ) → r ≡ Ok n → P n
  pub stopped : (s : Status) → r ≡ Err s → (more : List Refusal) → first_of (rules ++ more) ≡ number_of s
