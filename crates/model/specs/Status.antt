-- Document 01, "Status numbers": those below 100 are RTEMS's, under RTEMS's names. Assumes nothing: these are definitions.
use Rattle.std.specs.Prelude.{ℕ, Bool, cond, List, [], ◌∷◌}
pub use Rattle.model.specs.declared.Status.{Status}
pub use Rattle.model.specs.declared.Status.TheVariants.{InvalidName, InvalidId, TooMany, InvalidSize, InvalidAddress, InvalidNumber, NotDefined, Unsatisfied, IncorrectState, InvalidClock, NotSound, ListTooShort}

-- the number of each status
abbrev pub number_of : Status → ℕ
number_of InvalidName = 3
number_of InvalidId = 4
number_of TooMany = 5
number_of InvalidSize = 8
number_of InvalidAddress = 9
number_of InvalidNumber = 10
number_of NotDefined = 11
number_of Unsatisfied = 13
number_of IncorrectState = 14
number_of InvalidClock = 20
number_of NotSound = 100
number_of ListTooShort = 101

-- a rule of the table of status numbers: a status, and whether it applies
pub record Refusal : Type 0 where
  pub status : Status
  pub given : Bool

-- this status is given where that test holds
abbrev pub when : Status → Bool → Refusal
when status b = record { status = status; given = b }

-- The rules are tried in their order; the status is 0 where none applies.
abbrev pub first_of : List Refusal → ℕ
first_of [] = 0
first_of (r ∷ rs) = cond r.given (number_of r.status) (first_of rs)
