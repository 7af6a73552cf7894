-- Document 02, item 10, its last sentence: what a party sees of a list of calls, and that the other's calls change none of it. Assumes nothing: these
-- are definitions.
use Rattle.std.specs.Prelude.{◌≡◌, ℕ, zero, suc, Bool, true, false, cond, List, [], ◌∷◌, eqb}
use Rattle.model.specs.Lists.{keep, any}
use Rattle.model.specs.Calls.{Call, lay_out, create, ident, cancel, delete, fire_after, fire_when, fire_every, reset, ticks_left, tick, set_clock, get_clock, next_due, initiate_server, server_fire_after, server_fire_when, serve, leap, is_leap}
use Rattle.model.specs.Parties.{owns}
use Rattle.model.specs.State.{index_of, Fired}
use Rattle.model.specs.Words.{party_split}
use Rattle.model.specs.Outcome.{Outcome, outcome, first_number}

-- who makes a call: the bench itself, or a party, by the number that it gives
pub data Caller : Type 0 where
  bench : Caller
  party : ℕ → Caller

-- a call, and who makes it, which is looked at for get clock alone: that takes no party and may be anyone's, any other call says itself whose it is
pub record Made : Type 0 where
  pub by : Caller
  pub call : Call

-- Only the bench itself calls tick, leap, set clock, initiate server and next due, and lays out.
abbrev pub caller_of : Caller → Call → Caller
caller_of by (lay_out n t split) = bench
caller_of by (create p name) = party p
caller_of by (ident p name) = party p
caller_of by (cancel p id) = party p
caller_of by (delete p id) = party p
caller_of by (fire_after p id n r u) = party p
caller_of by (fire_when p id w r u) = party p
caller_of by (fire_every p id n r u) = party p
caller_of by (reset p id) = party p
caller_of by (ticks_left p id) = party p
caller_of by (tick list) = bench
caller_of by (set_clock w list) = bench
caller_of by get_clock = by
caller_of by next_due = bench
caller_of by initiate_server = bench
caller_of by (server_fire_after p id n r u) = party p
caller_of by (server_fire_when p id w r u) = party p
caller_of by (serve p list) = party p
caller_of by (leap k list) = bench

-- the call is the bench's or the party q's own, which stay the same
abbrev pub stays_for : ℕ → Caller → Bool
stays_for q bench = true
stays_for q (party p) = eqb p q

abbrev pub stays : ℕ → Made → Bool
stays q m = stays_for q (caller_of m.by m.call)

-- the first n entries of a list, three words each
abbrev pub entries_in : ℕ → List ℕ → List Fired
entries_in zero list = []
entries_in (suc n) [] = []
entries_in (suc n) (id ∷ []) = []
entries_in (suc n) (id ∷ routine ∷ []) = []
entries_in (suc n) (id ∷ routine ∷ user_data ∷ list) = record { id = id; routine = routine; user_data = user_data } ∷ entries_in n list

-- What the party q sees of its own call and of the bench's: the status; ids, ticks left and what else its own call answers, but not what the bench is
-- answered, which counts both parties' timers; and, of the entries in the list, in their order, those of its own timers.
pub record Seen : Type 0 where
  pub status : ℕ
  pub answer : List ℕ
  pub entries : List Fired

abbrev pub answer_to : Caller → List ℕ → List ℕ
answer_to bench answer = []
answer_to (party p) answer = answer

abbrev pub seen_of : ℕ → ℕ → Caller → Outcome → Seen
seen_of split q caller o = record {
  status = o.status;
  answer = answer_to caller o.answer;
  entries = keep (λ f. owns split q (index_of f.id)) (entries_in (first_number o.answer) o.list);
}

abbrev pub seen : ℕ → List ℕ → Made → Seen
seen q t m = seen_of (party_split t) q (caller_of m.by m.call) (outcome t m.call)

-- what it sees of a list of calls, each on the table that the last one left
abbrev pub seen_in : ℕ → List ℕ → List Made → List Seen
seen_in q t [] = []
seen_in q t (m ∷ ms) =
    let rest = seen_in q (outcome t m.call).table ms in cond (stays q m) (seen q t m ∷ rest) rest

-- From one laid-out table, with the bench's and the party q's calls the same and in the same order, no leap among them, changing all other calls at
-- will changes none of q's statuses, ids, ticks left, its own fired or served entries or their order. A later lay out, which is the bench's, may be
-- among them.
abbrev pub Isolation : Type 0
Isolation = (w : List ℕ) (n t split : ℕ) → (outcome w (lay_out n t split)).status ≡ 0 → (q : ℕ) (ms ms' : List Made)
    → keep (stays q) ms ≡ keep (stays q) ms' → any (λ m. is_leap m.call) (keep (stays q) ms) ≡ false
    → let laid = (outcome w (lay_out n t split)).table in seen_in q laid ms ≡ seen_in q laid ms'
