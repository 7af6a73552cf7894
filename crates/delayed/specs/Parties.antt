-- Document 02, item 10, its last sentence, of lists with starts by a delay (item 12) among the calls: what a party sees of such a list, and that the other's
-- lines change none of it. Assumes nothing: these are definitions.
use Rattle.std.specs.Prelude.{◌≡◌, ℕ, Bool, false, cond, List, [], ◌∷◌}
use Rattle.model.specs.Lists.{keep, any}
use Rattle.model.specs.Calls.{lay_out, is_leap}
use Rattle.model.specs.Words.{party_split}
use Rattle.model.specs.Outcome.{outcome}
use Rattle.isolation.specs.Isolation.{Caller, party, caller_of, stays_for, Seen, seen_of}
use Rattle.delayed.specs.Lines.{Line, calls, starts_by, outcome_on}

-- a line, and who makes it where it is get clock, which takes no party and may be anyone's
pub record MadeLine : Type 0 where
  pub by : Caller
  pub line : Line

-- who makes a line: of a call as `caller_of` says; a start by a delay is the party's whose number it gives
abbrev pub line_caller : Caller → Line → Caller
line_caller by (calls c) = caller_of by c
line_caller by (starts_by p id delay routine user_data) = party p

-- the line is the bench's or the party q's own, which stay the same
abbrev pub line_stays : ℕ → MadeLine → Bool
line_stays q m = stays_for q (line_caller m.by m.line)

-- the line is a leap, which no start is
abbrev pub line_leaps : Line → Bool
line_leaps (calls c) = is_leap c
line_leaps (starts_by p id delay routine user_data) = false

-- what the party q sees of its own line and of the bench's, as of a call
abbrev pub line_seen : ℕ → List ℕ → MadeLine → Seen
line_seen q t m = seen_of (party_split t) q (line_caller m.by m.line) (outcome_on t m.line)

-- what it sees of a list of lines, each on the table that the last one left
abbrev pub lines_seen : ℕ → List ℕ → List MadeLine → List Seen
lines_seen q t [] = []
lines_seen q t (m ∷ ms) =
    let rest = lines_seen q (outcome_on t m.line).table ms in cond (line_stays q m) (line_seen q t m ∷ rest) rest

-- From one laid-out table, with the bench's and the party q's lines the same and in the same order, no leap among them, changing all other lines at
-- will changes none of q's statuses, ids, ticks left, its own fired or served entries or their order. A later lay out, which is the bench's, may be
-- among them, with another T for the starts by seconds that follow.
abbrev pub IsolationOfLines : Type 0
IsolationOfLines = (w : List ℕ) (n t split : ℕ) → (outcome w (lay_out n t split)).status ≡ 0 → (q : ℕ) (same ms ms' : List MadeLine)
    → keep (line_stays q) ms ≡ same → keep (line_stays q) ms' ≡ same → any (λ m. line_leaps m.line) same ≡ false
    → let laid = (outcome w (lay_out n t split)).table in lines_seen q laid ms ≡ lines_seen q laid ms'
