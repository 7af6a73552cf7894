-- Document 01, "The words of demand 3", and document 02, items 1, 2, 5, 7 and 10: what a list of accepted calls means, with no table in sight.
-- A list of events is read backwards, the latest first. Assumes nothing: these are definitions.
use Rattle.std.specs.Prelude.{ℕ, suc, ◌+◌, ◌-◌, ◌*◌, ◌%◌, min, ◌≡◌, Bool, true, false, cond, not, ◌&&◌, ◌||◌, List, [], ◌∷◌, ◌++◌, map, take, drop, leb, eqb}
use Rattle.std.proofs.Math.Option.{Option, none, some}
use Rattle.calendar.specs.Calendar.{seconds_of, last_second}
use Rattle.model.specs.Lists.{keep, any, count, drop_first, InOrder}
use Rattle.model.specs.Calls.{Call, lay_out, create, ident, cancel, delete, fire_after, fire_when, fire_every, reset, ticks_left, tick, set_clock, get_clock, next_due, initiate_server, server_fire_after, server_fire_when, serve, leap}
use Rattle.model.specs.declared.Chain.{Chain}
use Rattle.model.specs.declared.Chain.TheVariants.{ByTicks, ByDate}
use Rattle.model.specs.declared.Mode.{Mode}
use Rattle.model.specs.declared.Mode.TheVariants.{After, When, Every, ServerAfter, ServerWhen}
use Rattle.model.specs.Kinds.{chain_for, is_periodic, is_server, same_chain, interval_in}
use Rattle.model.specs.Parties.{owns}
use Rattle.model.specs.State.{index_of, Fired}

-- a start: the timer's id, how it is started, for how many ticks or for which date, and what it lists when it fires
pub record Start : Type 0 where
  pub id : ℕ
  pub mode : Mode
  pub amount : ℕ
  pub routine : ℕ
  pub user_data : ℕ

abbrev pub start_of : ℕ → Mode → ℕ → ℕ → ℕ → Start
start_of id mode amount routine user_data = record { id = id; mode = mode; amount = amount; routine = routine; user_data = user_data }

-- what an accepted call is to the timers: a lay out for T and L; a start, or the end of one, of the timer `id`; the end of the timer itself; a serve
-- of a party; `nothing` where it only looks, or creates
pub data Event : Type 0 where
  laid_out_for : ℕ → ℕ → Event
  changes : ℕ → Option Start → Event
  deletes : ℕ → Event
  one_tick : Event
  clock_set_to : ℕ → ℕ → Event
  initiates : Event
  serves_front : ℕ → Event
  nothing : Event

-- the start that an event is
abbrev pub start_in : Event → Option Start
start_in (laid_out_for t l) = none
start_in (changes id s) = s
start_in (deletes id) = none
start_in one_tick = none
start_in (clock_set_to d n) = none
start_in initiates = none
start_in (serves_front p) = none
start_in nothing = none

-- A reset takes its ticks, routine and data from that timer's last start before it. A timer lasts from its create to its delete or a lay out.
abbrev pub newer : ℕ → Option Start → Option Start → Option Start
newer id none older = older
newer id (some s) older = cond (eqb s.id id) (some s) older

abbrev pub last_start : ℕ → List Event → Option Start
last_start id [] = none
last_start id (laid_out_for t l ∷ before) = none
last_start id (changes i s ∷ before) = newer id s (last_start id before)
last_start id (deletes i ∷ before) = cond (eqb i id) none (last_start id before)
last_start id (one_tick ∷ before) = last_start id before
last_start id (clock_set_to d n ∷ before) = last_start id before
last_start id (initiates ∷ before) = last_start id before
last_start id (serves_front p ∷ before) = last_start id before
last_start id (nothing ∷ before) = last_start id before

-- A start is an accepted fire after, fire when, fire every, server fire after, server fire when or reset.
abbrev pub event_of : List Event → Call → Event
event_of before (lay_out n t split) = laid_out_for t split
event_of before (create party name) = nothing
event_of before (ident party name) = nothing
event_of before (cancel party id) = changes id none
event_of before (delete party id) = deletes id
event_of before (fire_after party id n r u) = changes id (some (start_of id After n r u))
event_of before (fire_when party id w r u) = changes id (some (start_of id When (seconds_of w) r u))
event_of before (fire_every party id n r u) = changes id (some (start_of id Every n r u))
event_of before (reset party id) = changes id (last_start id before)
event_of before (ticks_left party id) = nothing
event_of before (tick list) = one_tick
event_of before (set_clock w list) = clock_set_to (seconds_of w) w.ticks
event_of before get_clock = nothing
event_of before next_due = nothing
event_of before initiate_server = initiates
event_of before (server_fire_after party id n r u) = changes id (some (start_of id ServerAfter n r u))
event_of before (server_fire_when party id w r u) = changes id (some (start_of id ServerWhen (seconds_of w) r u))
event_of before (serve party list) = serves_front party
-- (a leap comes here as its ticks: `singly` of Demand)
event_of before (leap k list) = nothing

-- the events of accepted calls, made after the events `before`
abbrev pub events_on : List Event → List Call → List Event
events_on before [] = before
events_on before (c ∷ cs) = events_on (event_of before c ∷ before) cs

-- A timer lasts from its create to its delete or a lay out, each accepted: whether the one with this id does after a call with this answer, where
-- it did before it or not.
abbrev pub lasts_after : Call → ℕ → ℕ → Bool → Bool
lasts_after (lay_out n t split) answer id before = false
lasts_after (create party name) answer id before = eqb answer id || before
lasts_after (ident party name) answer id before = before
lasts_after (cancel party i) answer id before = before
lasts_after (delete party i) answer id before = not (eqb i id) && before
lasts_after (fire_after party i n r u) answer id before = before
lasts_after (fire_when party i w r u) answer id before = before
lasts_after (fire_every party i n r u) answer id before = before
lasts_after (reset party i) answer id before = before
lasts_after (ticks_left party i) answer id before = before
lasts_after (tick list) answer id before = before
lasts_after (set_clock w list) answer id before = before
lasts_after get_clock answer id before = before
lasts_after next_due answer id before = before
lasts_after initiate_server answer id before = before
lasts_after (server_fire_after party i n r u) answer id before = before
lasts_after (server_fire_when party i w r u) answer id before = before
lasts_after (serve party list) answer id before = before
lasts_after (leap k list) answer id before = before

-- ---- the clock

-- an accepted tick, and how many there are
abbrev pub is_tick : Event → Bool
is_tick (laid_out_for t l) = false
is_tick (changes i s) = false
is_tick (deletes i) = false
is_tick one_tick = true
is_tick (clock_set_to d n) = false
is_tick initiates = false
is_tick (serves_front p) = false
is_tick nothing = false

abbrev pub ticks : List Event → ℕ
ticks es = count is_tick es

-- T, of the last lay out
abbrev pub per_second : List Event → ℕ
per_second [] = 0
per_second (laid_out_for t l ∷ before) = t
per_second (changes i s ∷ before) = per_second before
per_second (deletes i ∷ before) = per_second before
per_second (one_tick ∷ before) = per_second before
per_second (clock_set_to d n ∷ before) = per_second before
per_second (initiates ∷ before) = per_second before
per_second (serves_front p ∷ before) = per_second before
per_second (nothing ∷ before) = per_second before

-- L, of the last lay out
abbrev pub split_of : List Event → ℕ
split_of [] = 0
split_of (laid_out_for t l ∷ before) = l
split_of (changes i s ∷ before) = split_of before
split_of (deletes i ∷ before) = split_of before
split_of (one_tick ∷ before) = split_of before
split_of (clock_set_to d n ∷ before) = split_of before
split_of (initiates ∷ before) = split_of before
split_of (serves_front p ∷ before) = split_of before
split_of (nothing ∷ before) = split_of before

-- The clock is unset from a lay out to the next set clock. After that it stands, counted in ticks, at the seconds given in the latest
-- set clock times T plus the ticks given there and the ticks since that one, but never above 3,534,451,200 T - 1.
abbrev pub clock_after : ℕ → List Event → Option ℕ
clock_after since [] = none
clock_after since (laid_out_for t l ∷ before) = none
clock_after since (changes i s ∷ before) = clock_after since before
clock_after since (deletes i ∷ before) = clock_after since before
clock_after since (one_tick ∷ before) = clock_after (suc since) before
clock_after since (clock_set_to d n ∷ before) = some (min (d * per_second before + n + since) (suc last_second * per_second before - 1))
clock_after since (initiates ∷ before) = clock_after since before
clock_after since (serves_front p ∷ before) = clock_after since before
clock_after since (nothing ∷ before) = clock_after since before

-- It is at or past a date when it is at least the date's seconds times T.
abbrev pub at_least : ℕ → Option ℕ → Bool
at_least n none = false
at_least n (some k) = leb n k

abbrev pub past : ℕ → List Event → Bool
past date before = at_least (date * per_second before) (clock_after 0 before)

-- an accepted tick or set clock
abbrev pub moves_clock : Event → Bool
moves_clock (laid_out_for t l) = false
moves_clock (changes i s) = false
moves_clock (deletes i) = false
moves_clock one_tick = true
moves_clock (clock_set_to d n) = true
moves_clock initiates = false
moves_clock (serves_front p) = false
moves_clock nothing = false

-- ---- starts

-- a start in its place: the events up to it, itself among them, and those after it
pub record Placed : Type 0 where
  pub begun : Start
  pub before : List Event
  pub after : List Event

-- the start, with one event more after it
abbrev pub with_event : Event → Placed → Placed
with_event e g = record { begun = g.begun; before = g.before; after = e ∷ g.after }

-- An accepted cancel, reset, new start or delete of that timer or an accepted lay out ends a start early.
abbrev pub ends : ℕ → Event → Bool
ends id (laid_out_for t l) = true
ends id (changes i s) = eqb i id
ends id (deletes i) = eqb i id
ends id one_tick = false
ends id (clock_set_to d n) = false
ends id initiates = false
ends id (serves_front p) = false
ends id nothing = false

abbrev pub was_ended : Placed → Bool
was_ended g = any (ends g.begun.id) g.after

-- A start for n ticks is due at the nth accepted tick after it, a periodic one at every nth; a start by date in the first accepted tick or
-- set clock after it that leaves the clock at or past the date. (It is due in the event e, which comes after `after`; the first, since it ends
-- there.)
abbrev pub due_in : Mode → ℕ → Event → List Event → List Event → Bool
due_in After n e before after = is_tick e && eqb (suc (ticks after)) n
due_in When d e before after = moves_clock e && past d (e ∷ after ++ before)
due_in Every n e before after = is_tick e && eqb (suc (ticks after) % n) 0
due_in ServerAfter n e before after = is_tick e && eqb (suc (ticks after)) n
due_in ServerWhen d e before after = moves_clock e && past d (e ∷ after ++ before)

abbrev pub is_due : Event → Placed → Bool
is_due e g = due_in g.begun.mode g.begun.amount e g.before g.after

-- it was due in one of the events after it
abbrev pub was_due_in : Start → List Event → List Event → Bool
was_due_in s before [] = false
was_due_in s before (e ∷ after) = due_in s.mode s.amount e before after || was_due_in s before after

abbrev pub was_due : Placed → Bool
was_due g = was_due_in g.begun g.before g.after

-- Until it ends the timer is waiting, and at no other time. A periodic one stays waiting.
abbrev pub waits : Placed → Bool
waits g = not (was_ended g) && (is_periodic g.begun.mode || not (was_due g))

-- it comes due in the event e, next after all that follow it: it waits, and is due in e; then a server timer is queued, any other fires
abbrev pub comes_due : Event → Placed → Bool
comes_due e g = waits g && is_due e g

abbrev pub fires : Event → Placed → Bool
fires e g = comes_due e g && not (is_server g.begun.mode)

abbrev pub is_queued : Event → Placed → Bool
is_queued e g = comes_due e g && is_server g.begun.mode

-- Each going back of a periodic timer that fires counts as a start only for the order among equals: those that go back in e follow the others,
-- in the order that they had.
abbrev pub goes_back : Event → Placed → Bool
goes_back e g = is_periodic g.begun.mode && comes_due e g

abbrev pub in_turn : Event → List Placed → List Placed
in_turn e l = keep (λ g. not (goes_back e g)) l ++ keep (goes_back e) l

abbrev pub placed : Option Start → List Event → List Placed
placed none before = []
placed (some s) before = record { begun = s; before = before; after = [] } ∷ []

-- every start of the events, in the order that counts among equals
abbrev pub starts : List Event → List Placed
starts [] = []
starts (e ∷ before) = map (with_event e) (in_turn e (starts before)) ++ placed (start_in e) (e ∷ before)

-- ---- firing order

-- the chain in which a start waits
abbrev pub in_chain : Chain → Placed → Bool
in_chain k g = same_chain k (chain_for g.begun.mode)

-- Interval timers by the tick at which they are due, which is by ticks left; dated ones by date.
abbrev pub remaining : Mode → ℕ → ℕ → ℕ
remaining After n ticks_after = n - ticks_after
remaining When d ticks_after = d
remaining Every n ticks_after = n - ticks_after % n
remaining ServerAfter n ticks_after = n - ticks_after
remaining ServerWhen d ticks_after = d

abbrev pub ticks_left_or_date : Placed → ℕ
ticks_left_or_date g = remaining g.begun.mode g.begun.amount (ticks g.after)

-- each as id, then routine and data of its start
abbrev pub entry_of : Start → Fired
entry_of s = record { id = s.id; routine = s.routine; user_data = s.user_data }

abbrev pub entry : Placed → Fired
entry g = entry_of g.begun

-- what a waiting start shows: its entry, how it was started, its interval, and its ticks left or its date
pub record Waiting : Type 0 where
  pub shows : Fired
  pub mode : Option Mode
  pub interval : ℕ
  pub wait : ℕ

abbrev pub waiting : Placed → Waiting
waiting g = record {
  shows = entry g;
  mode = some g.begun.mode;
  interval = interval_in (chain_for g.begun.mode) g.begun.amount;
  wait = ticks_left_or_date g;
}

-- ---- the queue

-- the server was initiated since the last lay out
abbrev pub is_initiated : List Event → Bool
is_initiated [] = false
is_initiated (laid_out_for t l ∷ before) = false
is_initiated (changes i s ∷ before) = is_initiated before
is_initiated (deletes i ∷ before) = is_initiated before
is_initiated (one_tick ∷ before) = is_initiated before
is_initiated (clock_set_to d n ∷ before) = is_initiated before
is_initiated (initiates ∷ before) = true
is_initiated (serves_front p ∷ before) = is_initiated before
is_initiated (nothing ∷ before) = is_initiated before

-- the party that an event serves; 0, which is no party's number, where it is no serve
abbrev pub party_served : Event → ℕ
party_served (laid_out_for t l) = 0
party_served (changes i s) = 0
party_served (deletes i) = 0
party_served one_tick = 0
party_served (clock_set_to d n) = 0
party_served initiates = 0
party_served (serves_front p) = p
party_served nothing = 0

-- the start is of a timer in the party's slots
abbrev pub is_partys : ℕ → ℕ → Start → Bool
is_partys split party s = owns split party (index_of s.id)

-- what an event hands out of the queue: the first of those of the party that it serves, if there is one
abbrev pub served_from : ℕ → Event → List Start → List Start
served_from split e q = take 1 (keep (is_partys split (party_served e)) q)

-- the starts that are queued in the event e, after the events h: interval timers first, then dated ones, each in firing order
pub record Queues (h : List Event) (e : Event) (new : List Start) : Type 0 where
  pub ticking : List Placed
  pub dated : List Placed
  pub ticking-order : InOrder ticks_left_or_date (keep (in_chain ByTicks) (keep (is_queued e) (starts h))) ticking
  pub dated-order : InOrder ticks_left_or_date (keep (in_chain ByDate) (keep (is_queued e) (starts h))) dated
  pub is : new ≡ map (λ g. g.begun) (ticking ++ dated)

-- what is left of starts in the queue after the event e: a serve hands out the caller's first; cancel, reset, start and delete take the timer off,
-- a lay out all
abbrev pub left_in_queue : ℕ → Event → List Start → List Start
left_in_queue split e q = keep (λ s. not (ends s.id e)) (drop_first (is_partys split (party_served e)) q)

-- q is the queue after the events, the front first: those that are queued in an event go to the back
abbrev pub IsQueue : List Event → List Start → Type 0
IsQueue [] q = q ≡ []
IsQueue (e ∷ h) q = (p : List Start) × (new : List Start) × IsQueue h p × Queues h e new × (q ≡ left_in_queue (split_of h) e p ++ new)

-- what a queued start shows
abbrev pub queued_as : Start → Waiting
queued_as s = record { shows = entry_of s; mode = some s.mode; interval = interval_in (chain_for s.mode) s.amount; wait = 0 }

-- ---- the place in the queue, among the party's own

-- how many serves of the party an event is; how many there were
abbrev pub serves_in : ℕ → Event → ℕ
serves_in party e = cond (eqb (party_served e) party) 1 0

abbrev pub serves : ℕ → List Event → ℕ
serves party [] = 0
serves party (e ∷ after) = serves party after + serves_in party e

-- what is left of the party's starts ahead of one in the queue, after more events, and how many of them were taken off
abbrev pub left_ahead : ℕ → Event → List Start → List Start
left_ahead party e ahead = keep (λ s. not (ends s.id e)) (drop (serves_in party e) ahead)

abbrev pub ahead_after : ℕ → List Event → List Start → List Start
ahead_after party [] ahead = ahead
ahead_after party (e ∷ after) ahead = left_ahead party e (ahead_after party after ahead)

abbrev pub taken_off : ℕ → List Event → List Start → ℕ
taken_off party [] ahead = 0
taken_off party (e ∷ after) ahead = taken_off party after ahead + count (λ s. ends s.id e) (drop (serves_in party e) (ahead_after party after ahead))
