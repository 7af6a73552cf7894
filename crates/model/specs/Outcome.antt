-- Every call on the words of a lent table, and of a lent fired list: status, answer, new table, new list, for all inputs.
-- Assumes nothing: these are definitions.
use Rattle.std.specs.Prelude.{ℕ, cond, List, [], ◌∷◌, ◌++◌, map, length, get_or, drop, replicate, ℤ, pos, eqb}
use Rattle.model.specs.Status.{first_of}
use Rattle.calendar.specs.declared.WallTime.{WallTime}
use Rattle.calendar.specs.Calendar.{seconds_of}
use Rattle.model.specs.Calls.{Call, set_clock, is_next_due, lent_to, answer_count}
use Rattle.model.specs.State.{Fired, listed}
use Rattle.model.specs.Directives.{refusals, effect, clock_at, moved_by}
use Rattle.model.specs.Words.{written_over, read}

-- what comes of a call
pub record Outcome : Type 0 where
  pub status : ℕ
  pub answer : List ℕ
  pub table : List ℕ
  pub list : List ℕ

-- the outcome with this status, answer, table and list
abbrev pub outcome_of : ℕ → List ℕ → List ℕ → List ℕ → Outcome
outcome_of status answer table list = record { status = status; answer = answer; table = table; list = list }

-- Each number is given exactly when its rule says so, the first rule that applies; 0 when none does.
unfoldable pub status_on : List ℕ → Call → ℕ
status_on t c = first_of (refusals t (read t) c)

-- Each refusal answers 0 besides (get clock: seven zeros, leap two) and leaves table and list alike untouched.
abbrev pub refused : ℕ → List ℕ → Call → Outcome
refused status t c = outcome_of status (replicate (answer_count c) 0) t (lent_to c)

-- The fired list takes three words each: id, routine, user data; words after those written stay.
abbrev pub entry_words : List Fired → List ℕ
entry_words [] = []
entry_words (f ∷ fs) = f.id ∷ f.routine ∷ f.user_data ∷ entry_words fs

abbrev pub written : List Fired → List ℕ → List ℕ
written fs list = entry_words fs ++ drop (length (entry_words fs)) list

-- where no rule applies, what the call does. Next due, which may find what it reads in a table that is not sound, leaves every word.
abbrev pub accepted : List ℕ → Call → Outcome
accepted t c =
    let e = effect t (read t) c in
    outcome_of 0 e.answer (cond (is_next_due c) t (written_over e.state t)) (written (map (listed (read t).slots) e.fired) (lent_to c))

-- Accepted means status 0; any other status is a refusal.
unfoldable pub outcome : List ℕ → Call → Outcome
outcome t c = cond (eqb (status_on t c) 0) (accepted t c) (refused (status_on t c) t c)

-- How far a set clock moved the clock, a number beside the outcome: 0 on a refusal.
abbrev pub movement : List ℕ → WallTime → List ℕ → ℤ
movement t w list =
    let old = (read t).clock in cond (eqb (status_on t (set_clock w list)) 0) (moved_by old (clock_at old (seconds_of w) w.ticks)) (pos 0)

-- the first number of an answer
abbrev pub first_number : List ℕ → ℕ
first_number answer = get_or answer 0 0

-- the ticks that a leap answers to have done
abbrev pub ticks_done : List ℕ → ℕ
ticks_done answer = get_or answer 1 0

-- Each call gets the table that the last one left.
abbrev pub after : List ℕ → List Call → List ℕ
after t [] = t
after t (c ∷ cs) = after (outcome t c).table cs
