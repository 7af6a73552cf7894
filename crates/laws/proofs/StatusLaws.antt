-- No refusal's number is 0, the number of a call that is done. Assumes nothing.
use mathlib.Core.Path.{◌≡◌}
use native.Mathlib.Omega.{arith}
use Rattle.model.specs.declared.Status.{Status}
use Rattle.model.specs.declared.Status.TheVariants.{InvalidName, InvalidId, TooMany, InvalidSize, InvalidAddress, InvalidNumber, NotDefined, Unsatisfied, IncorrectState, InvalidClock, NotSound, ListTooShort}
use Rattle.model.specs.Status.{number_of}

pub not-zero : (s : Status) → number_of s ≡ 0 → ⊥
not-zero InvalidName z = omega arith
not-zero InvalidId z = omega arith
not-zero TooMany z = omega arith
not-zero InvalidSize z = omega arith
not-zero InvalidAddress z = omega arith
not-zero InvalidNumber z = omega arith
not-zero NotDefined z = omega arith
not-zero Unsatisfied z = omega arith
not-zero IncorrectState z = omega arith
not-zero InvalidClock z = omega arith
not-zero NotSound z = omega arith
not-zero ListTooShort z = omega arith
