-- What prints for each status: its name in small letters. Assumes nothing: these are definitions.
use Rattle.std.specs.Prelude.{ℕ, List, codes}
use Rattle.model.specs.Status.{Status, InvalidName, InvalidId, TooMany, InvalidSize, InvalidAddress, InvalidNumber, NotDefined, Unsatisfied, IncorrectState, InvalidClock, NotSound, ListTooShort}

abbrev pub text_of : Status → List ℕ
text_of InvalidName = codes "invalid name"
text_of InvalidId = codes "invalid id"
text_of TooMany = codes "too many"
text_of InvalidSize = codes "invalid size"
text_of InvalidAddress = codes "invalid address"
text_of InvalidNumber = codes "invalid number"
text_of NotDefined = codes "not defined"
text_of Unsatisfied = codes "unsatisfied"
text_of IncorrectState = codes "incorrect state"
text_of InvalidClock = codes "invalid clock"
text_of NotSound = codes "not sound"
text_of ListTooShort = codes "list too short"
