-- Document 02, item 12: "The rest, demand 3 too, is as fire after or, for a date, fire when". Demand 3 speaks of lists of calls; a list with starts by a
-- delay among them is one of those: each such start is a call, and with that call in its place the whole list has the same outcomes, refusals among
-- them. Assumes nothing: these are definitions.
use Rattle.std.specs.Prelude.{◌≡◌, ℕ, List, [], ◌∷◌, map}
use Rattle.model.specs.Calls.{Call, lay_out, fire_after, fire_when}
use Rattle.model.specs.Words.{ticks_per_second}
use Rattle.model.specs.Outcome.{Outcome, outcome}
use Rattle.demand.specs.Demand.{Demanded}
use Rattle.delay.specs.declared.Delay.{Delay}
use Rattle.delay.specs.declared.Delay.TheVariants.{Ticks, Seconds, Date}
use Rattle.delay.specs.Seconds.{converted}
use Rattle.delayed.specs.Starts.{started}

-- a line of such a list: a call of demand 3's, or a party's start by a delay of an id, with routine and data
pub data Line : Type 0 where
  calls : Call → Line
  starts_by : ℕ → ℕ → Delay → ℕ → ℕ → Line

-- what comes of a line
abbrev pub outcome_on : List ℕ → Line → Outcome
outcome_on t (calls c) = outcome t c
outcome_on t (starts_by party id delay routine user_data) = started t party id delay routine user_data

-- what comes of each line, on the table that the last one left
abbrev pub outcomes_on : List ℕ → List Line → List Outcome
outcomes_on t [] = []
outcomes_on t (l ∷ ls) = outcome_on t l ∷ outcomes_on (outcome_on t l).table ls

-- the call that a line is, by T; the ticks of refused seconds are 0, and those are refused with 10 in the same place
abbrev pub call_by : Line → ℕ → Call
call_by (calls c) rate = c
call_by (starts_by party id (Ticks n) routine user_data) rate = fire_after party id n routine user_data
call_by (starts_by party id (Seconds x) routine user_data) rate = fire_after party id (converted x rate).ticks routine user_data
call_by (starts_by party id (Date w) routine user_data) rate = fire_when party id w routine user_data

-- the call that it is on a table
abbrev pub as_call : List ℕ → Line → Call
as_call t l = call_by l (ticks_per_second t)

-- the list with a call for each line
abbrev pub as_calls : List ℕ → List Line → List Call
as_calls t [] = []
as_calls t (l ∷ ls) = as_call t l ∷ as_calls (outcome_on t l).table ls

-- from any table: the same statuses, answers, tables and lists, line by line
abbrev pub LinesAreCalls : Type 0
LinesAreCalls = (t : List ℕ) (ls : List Line) → outcomes_on t (map calls (as_calls t ls)) ≡ outcomes_on t ls

-- what is demanded of a list of lines after a lay out for n, t and split of the slice w
pub record DemandedOf (w : List ℕ) (n t split : ℕ) (ls : List Line) : Type 0 where
  pub same : outcomes_on w (map calls (lay_out n t split ∷ as_calls (outcome w (lay_out n t split)).table ls)) ≡ outcomes_on w (calls (lay_out n t split) ∷ ls)
  pub demanded : Demanded w n t split (as_calls (outcome w (lay_out n t split)).table ls)

-- demand 3 of every list with starts by a delay
abbrev pub Demand3OfLines : Type 0
Demand3OfLines = (w : List ℕ) (n t split : ℕ) → (outcome w (lay_out n t split)).status ≡ 0 → (ls : List Line) → DemandedOf w n t split ls
