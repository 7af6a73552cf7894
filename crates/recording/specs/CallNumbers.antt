-- Document 02, item 8: the numbers of the calls that are recorded. Assumes nothing: these are definitions.
use Rattle.std.specs.Prelude.{◌≡◌, ℕ, false, Result, MatchResult}
use Rattle.recording.specs.Format.{within}
use Rattle.recording.specs.declared.call_number.CallNumber.{CallNumber}
use Rattle.recording.specs.declared.call_number.CallNumber.TheVariants.{Create, Ident, Cancel, Delete, FireAfter, FireWhen, Reset, TicksLeft, Tick, SetClock, GetClock, FireEvery, NextDue, InitiateServer, ServerFireAfter, ServerFireWhen, Serve, Leap}
use Rattle.recording.specs.declared.call_number.UnknownCall.{UnknownCall}

-- "Calls are numbered by the list that opens document 01, create being 2 and get clock 12 (lay out isn't recorded), then 13 to 19: periodic start,
-- next due, initiate, the two server starts, serve, leap"
abbrev pub word_of : CallNumber → ℕ
word_of Create = 2
word_of Ident = 3
word_of Cancel = 4
word_of Delete = 5
word_of FireAfter = 6
word_of FireWhen = 7
word_of Reset = 8
word_of TicksLeft = 9
word_of Tick = 10
word_of SetClock = 11
word_of GetClock = 12
word_of FireEvery = 13
word_of NextDue = 14
word_of InitiateServer = 15
word_of ServerFireAfter = 16
word_of ServerFireWhen = 17
word_of Serve = 18
word_of Leap = 19

-- the call of this number, or an error with a number that no call has
abbrev pub Decodes : ℕ → Result CallNumber UnknownCall → Type 0
Decodes number r = MatchResult r (λ call. word_of call ≡ number) (λ e. (e.number ≡ number) × (within 2 19 number ≡ false))
