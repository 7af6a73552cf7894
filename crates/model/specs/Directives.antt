-- Document 01, "Status numbers" and "What each call does", and document 02: for each call, in its order, when it is refused and what it does.
-- Assumes nothing: these are definitions.
use Rattle.std.specs.Prelude.{ℕ, suc, ◌+◌, ◌-◌, ◌*◌, zero, Bool, true, false, cond, not, ◌&&◌, ◌||◌, List, [], ◌∷◌, ◌++◌, map, length, take, replicate, ℤ, pos, ◌-ℤ◌, leb, ltb, eqb}
use Rattle.std.proofs.Math.Option.{Option, none, some}
use Rattle.calendar.specs.declared.WallTime.{WallTime}
use Rattle.calendar.specs.Calendar.{all_of, valid, seconds_of, last_second, date_of}
use Rattle.model.specs.Lists.{keep, drop_first, place}
use Rattle.model.specs.Status.{Refusal, when, InvalidName, InvalidId, TooMany, InvalidSize, InvalidAddress, InvalidNumber, NotDefined, IncorrectState, InvalidClock, NotSound, ListTooShort}
use Rattle.model.specs.Calls.{Call, lay_out, create, ident, cancel, delete, fire_after, fire_when, fire_every, reset, ticks_left, tick, set_clock, get_clock, next_due, initiate_server, server_fire_after, server_fire_when, serve, leap}
use Rattle.model.specs.Kinds.{Chain, ByTicks, ByDate, Queue, Mode, After, When, Every, ServerAfter, ServerWhen, kind_at, chain_for, waiting_kind, interval_in, waits_in, linked, last_by_ticks, for_server, last_mode}
use Rattle.model.specs.Parties.{owns, is_party}
use Rattle.model.specs.Words.{slot_count, first_ticking, kind_of, wait_of}
use Rattle.model.specs.Sound.{sound}
use Rattle.model.specs.State.{Slot, Link, Clock, State, chain_of, with_chain, with_clock, free, slot_at, put_at, lowest, without, wait_at, id_base, index_of, names_own}

-- ---- what the rules test

-- Create and ident look only in the caller's slots: the lowest free one; the lowest with that name, which is not 0. A slot is 0 where there is none.
abbrev pub lowest_free : State → ℕ → ℕ
lowest_free s party = lowest (λ i x. owns s.split party i && eqb x.kind 0) 1 s.slots

abbrev pub lowest_named : State → ℕ → ℕ → ℕ
lowest_named s party name = lowest (λ i x. owns s.split party i && eqb x.name name) 1 s.slots

-- the list is shorter than 3N words; the date is not valid, or not after the present second; it is not valid, or its ticks are T or more
abbrev pub is_short : State → List ℕ → Bool
is_short s list = ltb (length list) (3 * length s.slots)

abbrev pub not_ahead : State → WallTime → Bool
not_ahead s w = not (valid w && ltb s.clock.second (seconds_of w))

abbrev pub not_settable : State → WallTime → Bool
not_settable s w = not (valid w && ltb w.ticks s.clock.per_second)

-- A leap is by 0 to 1,000,000 ticks.
abbrev pub most_leap : ℕ
most_leap = 1000000

-- N is 1 to 255, T 1 to 1,000, and L 0 or 1 to N - 1
abbrev pub limits : ℕ → ℕ → ℕ → List Bool
limits n t split = leb 1 n ∷ leb n 255 ∷ leb 1 t ∷ leb t 1000 ∷ ltb split n ∷ []

-- Any call but lay out: table not sound. A party number other than 1 or 2, or 2 when L is 0. The id names no timer in the caller's slots.
abbrev pub unsound : List ℕ → Refusal
unsound t = when NotSound (not (sound t))

abbrev pub no_party : State → ℕ → Refusal
no_party s party = when InvalidId (not (is_party s.split party))

abbrev pub no_such_id : State → ℕ → ℕ → Refusal
no_such_id s party id = when InvalidId (not (names_own s party id))

-- Initiate a second time since the lay out, or another call of the server before it.
abbrev pub already_initiated : State → Refusal
already_initiated s = when IncorrectState s.server

abbrev pub not_initiated : State → Refusal
not_initiated s = when IncorrectState (not s.server)

-- The timer is neither waiting nor queued.
abbrev pub nothing_to_cancel : State → ℕ → Refusal
nothing_to_cancel s id = when IncorrectState (not (linked (slot_at s.slots (index_of id)).kind))

-- the rules of a start for ticks: 10, 9, 4; and of one for a date: 11, 9, 20, 4
abbrev pub start_rules : State → ℕ → ℕ → ℕ → ℕ → List Refusal
start_rules s party id n r = when InvalidNumber (eqb n 0) ∷ when InvalidAddress (eqb r 0) ∷ no_such_id s party id ∷ []

abbrev pub date_rules : State → ℕ → ℕ → WallTime → ℕ → List Refusal
date_rules s party id d r =
    when NotDefined (not s.clock.is_set) ∷ when InvalidAddress (eqb r 0) ∷ when InvalidClock (not_ahead s d) ∷ no_such_id s party id ∷ []

-- ---- next due, which reads only the header and one slot

-- Refused exactly if the slice is shorter than 10 words or than 10 + 8N, N is outside 1 to 255, or word 5 is above N or names a slot that is not
-- waiting for ticks or whose wait is 0.
abbrev pub first_tests : List ℕ → List Bool
first_tests w =
    leb 10 (length w) ∷ leb (10 + 8 * slot_count w) (length w) ∷ leb 1 (slot_count w) ∷ leb (slot_count w) 255 ∷ leb (first_ticking w) (slot_count w)
    ∷ (eqb (first_ticking w) 0 || waits_in ByTicks (kind_of w (first_ticking w))) ∷ (eqb (first_ticking w) 0 || ltb 0 (wait_of w (first_ticking w))) ∷ []

abbrev pub no_first : List ℕ → Refusal
no_first w = when NotSound (not (all_of (first_tests w)))

-- the ticks until the first interval timer, 0 if there is none
abbrev pub first_wait : List ℕ → ℕ
first_wait w = cond (eqb (first_ticking w) 0) 0 (wait_of w (first_ticking w))

-- ---- the parts of the calls' work

-- Lay out: header as given, clock not set, server not initiated, all slots free.
abbrev pub laid_out : ℕ → ℕ → ℕ → State
laid_out n t split =
    let clock : Clock = record { per_second = t; is_set = false; second = 0; ticks_into = 0 } in
    record { slots = replicate n free; clock = clock; ticking = []; dated = []; split = split; server = false; queue = [] }

-- slot i, in no chain, becomes x
abbrev pub stored : State → ℕ → Slot → State
stored s i x = with_chain ByTicks s (put_at s.slots i x) s.ticking

-- Create: the slot becomes kind 1.
abbrev pub never_started : ℕ → Slot
never_started name = record { kind = 1; name = name; interval = 0; routine = 0; user_data = 0 }

-- slot i becomes x and is in no chain
abbrev pub stopped : State → ℕ → Slot → State
stopped s i x =
    let slots = put_at s.slots i x in
    with_chain ByTicks (with_chain ByDate (with_chain Queue s slots (without i s.queue)) slots (without i s.dated)) slots (without i s.ticking)

-- the slot with another kind
abbrev pub became : ℕ → Slot → Slot
became kind x = record { kind = kind; name = x.name; interval = x.interval; routine = x.routine; user_data = x.user_data }

-- Cancel: a waiting or queued timer becomes idle of its own kind. (Its follower takes over its wait since the other
-- links keep their ticks left, and a wait is the difference of two: `Words`.)
abbrev pub idled : Slot → Slot
idled x = became (kind_at x.kind).when_stopped x

-- It goes behind every timer due at the same tick, or date; in the queue to the back.
abbrev pub inserted : Chain → State → ℕ → ℕ → State
inserted k s i wait = with_chain k s s.slots (place (λ w. w.wait) (record { slot = i; wait = wait }) (chain_of k s))

-- the slot of a timer that was started for so many ticks, or for a date
abbrev pub waiting_as : Mode → Slot → ℕ → ℕ → ℕ → Slot
waiting_as m x amount routine user_data =
    record { kind = waiting_kind m; name = x.name; interval = interval_in (chain_for m) amount; routine = routine; user_data = user_data }

-- A start: cancelled if waiting or queued, then waits.
abbrev pub started : Mode → State → ℕ → ℕ → ℕ → ℕ → State
started m s i amount routine user_data =
    inserted (chain_for m) (stopped s i (waiting_as m (slot_at s.slots i) amount routine user_data)) i amount

-- A fired timer becomes idle of its kind; a periodic one keeps its kind, a server timer is queued.
abbrev pub fired : Slot → Slot
fired x = became (kind_at x.kind).when_fired x

abbrev pub fired_all : List Link → List Slot → List Slot
fired_all [] slots = slots
fired_all (w ∷ ws) slots = fired_all ws (put_at slots w.slot (fired (slot_at slots w.slot)))

-- where it is of a kind that waits it goes on: a periodic one goes back for its interval, behind equals, a server timer to the back of the queue
abbrev pub wait_again : Chain → ℕ → ℕ
wait_again ByTicks interval = interval
wait_again ByDate interval = interval
wait_again Queue interval = 0

abbrev pub reinserted : Option Chain → State → ℕ → State
reinserted none s i = s
reinserted (some k) s i = inserted k s i (wait_again k (slot_at s.slots i).interval)

abbrev pub go_on : List Link → State → State
go_on [] s = s
go_on (w ∷ ws) s = go_on ws (reinserted (kind_at (slot_at s.slots w.slot).kind).chain s w.slot)

-- the timers of chain k at or before a number, in chain order; and the state after they fired: all due timers come off first, then the
-- periodic ones go back in that order, and the server timers to the queue
abbrev pub due : Chain → ℕ → State → List Link
due k limit s = keep (λ w. leb w.wait limit) (chain_of k s)

abbrev pub off : Chain → ℕ → State → State
off k limit s = with_chain k s (fired_all (due k limit s) s.slots) (keep (λ w. ltb limit w.wait) (chain_of k s))

abbrev pub fire : Chain → ℕ → State → State
fire k limit s = go_on (due k limit s) (off k limit s)

-- those that fire; server timers stay out of the list and its count
abbrev pub without_server : List Slot → List Link → List Link
without_server slots ws = keep (λ w. not (for_server (kind_at (slot_at slots w.slot).kind).last)) ws

-- Serve: the caller's first queued timer, if there is one, becomes idle.
abbrev pub is_own : State → ℕ → Link → Bool
is_own s party w = owns s.split party w.slot

abbrev pub front : State → ℕ → List Link
front s party = take 1 (keep (is_own s party) s.queue)

abbrev pub handed_out : State → ℕ → State
handed_out s party = with_chain Queue s (fired_all (front s party) s.slots) (drop_first (is_own s party) s.queue)

-- Initiate server: word 8 is 1.
abbrev pub initiated : State → State
initiated s = record { slots = s.slots; clock = s.clock; ticking = s.ticking; dated = s.dated; split = s.split; server = true; queue = s.queue }

-- Tick: every interval timer comes one tick nearer.
abbrev pub closer : Link → Link
closer w = record { slot = w.slot; wait = w.wait - 1 }

abbrev pub nearer : State → State
nearer s = with_chain ByTicks s s.slots (map closer s.ticking)

-- the clock set to a second, so many ticks into it
abbrev pub clock_at : Clock → ℕ → ℕ → Clock
clock_at c second ticks_into = record { per_second = c.per_second; is_set = true; second = second; ticks_into = ticks_into }

-- If the clock is set, word 4 goes up by one; at T it becomes 0 and the second goes up. At the last tick of the last second it stands still.
abbrev pub clock_step : Clock → Clock
clock_step c =
    cond c.is_set
    (cond (ltb (suc c.ticks_into) c.per_second) (clock_at c c.second (suc c.ticks_into))
    (cond (ltb c.second last_second) (clock_at c (suc c.second) 0) c))
    c

-- ---- what each call does where it is accepted: the state it leaves, its answer, and the timers that it lists, in order

pub record Effect : Type 0 where
  pub state : State
  pub answer : List ℕ
  pub fired : List Link

-- a call that fires nothing, with its answer. Calls with no answer named in document 01 answer 0.
abbrev pub leaves : State → ℕ → Effect
leaves s n = record { state = s; answer = n ∷ []; fired = [] }

-- The answer is the count.
abbrev pub firing : State → List Link → Effect
firing s links = record { state = s; answer = length links ∷ []; fired = links }

-- Those at zero fire in chain order; then, at the clock's new second, dated timers. Where the second did not go up none are due, since
-- all dates are above it.
abbrev pub ticked_once : State → State
ticked_once s = let clock = clock_step s.clock in fire ByDate clock.second (with_clock (fire ByTicks 0 (nearer s)) clock)

abbrev pub due_in_tick : State → List Link
due_in_tick s =
    let clock = clock_step s.clock in due ByTicks 0 (nearer s) ++ due ByDate clock.second (with_clock (fire ByTicks 0 (nearer s)) clock)

abbrev pub ticked : State → Effect
ticked s = firing (ticked_once s) (without_server s.slots (due_in_tick s))

-- Leap: it stops after the first tick that fires or queues a timer, else after k. What its ticks leave, how many they are, and the timers that
-- fire, all of them in the last one.
pub record Leapt : Type 0 where
  pub state : State
  pub done : ℕ
  pub fired : List Link

-- no timer is due in the next tick
abbrev pub is_quiet : State → Bool
is_quiet s = eqb (length (due_in_tick s)) 0

abbrev pub one_more : Leapt → Leapt
one_more l = record { state = l.state; done = suc l.done; fired = l.fired }

abbrev pub leapt : ℕ → State → Leapt
leapt zero s = record { state = s; done = 0; fired = [] }
leapt (suc k) s =
    cond (is_quiet s) (one_more (leapt k (ticked_once s)))
    (record { state = ticked_once s; done = 1; fired = without_server s.slots (due_in_tick s) })

-- It answers the count fired and, beside it, the ticks done.
abbrev pub leaping : Leapt → Effect
leaping l = record { state = l.state; answer = length l.fired ∷ l.done ∷ []; fired = l.fired }

-- Set clock: seconds as given, the ticks field in word 4, clock set. Dated timers at or before the new second fire now. Interval timers don't
-- change. A clock set back moves no date.
abbrev pub clock_moved : State → ℕ → ℕ → Effect
clock_moved s second ticks_into =
    let now = with_clock s (clock_at s.clock second ticks_into) in firing (fire ByDate second now) (without_server s.slots (due ByDate second now))

-- a clock counted in ticks
abbrev pub in_ticks : Clock → ℕ
in_ticks c = c.second * c.per_second + c.ticks_into

-- How far the clock moved, as new minus old in ticks, below zero when set back; 0 on the first set since the lay out.
abbrev pub moved_by : Clock → Clock → ℤ
moved_by old new = cond old.is_set (pos (in_ticks new) -ℤ pos (in_ticks old)) (pos 0)

-- Get clock gives the date and, in ticks, word 4.
abbrev pub numbers : WallTime → ℕ → List ℕ
numbers w ticks = w.year ∷ w.month ∷ w.day ∷ w.hour ∷ w.minute ∷ w.second ∷ ticks ∷ []

abbrev pub clock_read : State → Effect
clock_read s = record { state = s; answer = numbers (date_of s.clock.second) s.clock.ticks_into; fired = [] }

-- ---- the calls

-- A call: its rules, in their order, and what it does where none applies; both from the words of the table and the state that they hold.
pub record Directive : Type 0 where
  pub rules : List ℕ → State → List Refusal
  pub does : List ℕ → State → Effect

abbrev pub directive : Call → Directive
-- 10, 8
directive (lay_out n t split) = record {
  rules = λ w s. when InvalidNumber (not (all_of (limits n t split))) ∷ when InvalidSize (ltb (length w) (10 + 8 * n)) ∷ [];
  does = λ w s. leaves (laid_out n t split) 0;
}
-- Answers the id of the caller's lowest free slot, which becomes kind 1. 3, 5; before these, as in every call of a party, 4 for a wrong party
directive (create party name) = record {
  rules = λ w s. unsound w ∷ no_party s party ∷ when InvalidName (eqb name 0) ∷ when TooMany (eqb (lowest_free s party) 0) ∷ [];
  does = λ w s. leaves (stored s (lowest_free s party) (never_started name)) (id_base + lowest_free s party);
}
-- Id of the caller's lowest slot with that name. 3
directive (ident party name) = record {
  rules = λ w s. unsound w ∷ no_party s party ∷ when InvalidName (eqb name 0) ∷ when InvalidName (eqb (lowest_named s party name) 0) ∷ [];
  does = λ w s. leaves s (id_base + lowest_named s party name);
}
-- Cancel of a timer that is neither waiting nor queued: 14, after 4.
directive (cancel party id) = record {
  rules = λ w s. unsound w ∷ no_party s party ∷ no_such_id s party id ∷ nothing_to_cancel s id ∷ [];
  does = λ w s. leaves (stopped s (index_of id) (idled (slot_at s.slots (index_of id)))) 0;
}
-- Cancelled if waiting or queued, then the slot is free and all zero.
directive (delete party id) = record {
  rules = λ w s. unsound w ∷ no_party s party ∷ no_such_id s party id ∷ [];
  does = λ w s. leaves (stopped s (index_of id) free) 0;
}
directive (fire_after party id n r u) = record {
  rules = λ w s. unsound w ∷ no_party s party ∷ start_rules s party id n r;
  does = λ w s. leaves (started After s (index_of id) n r u) 0;
}
directive (fire_when party id d r u) = record {
  rules = λ w s. unsound w ∷ no_party s party ∷ date_rules s party id d r;
  does = λ w s. leaves (started When s (index_of id) (seconds_of d) r u) 0;
}
-- Like fire after, but the timer fires every n ticks.
directive (fire_every party id n r u) = record {
  rules = λ w s. unsound w ∷ no_party s party ∷ start_rules s party id n r;
  does = λ w s. leaves (started Every s (index_of id) n r u) 0;
}
-- Start again with the stored interval, routine and data, as it was last started. 4, 11
directive (reset party id) = record {
  rules = λ w s. unsound w ∷ no_party s party ∷ no_such_id s party id ∷ when NotDefined (not (last_by_ticks (slot_at s.slots (index_of id)).kind)) ∷ [];
  does = λ w s.
      let x = slot_at s.slots (index_of id) in
      leaves (started (last_mode x.kind) s (index_of id) x.interval x.routine x.user_data) 0;
}
-- For kinds 4, 6 and 10, which alone are in the interval chain; for any other kind 0.
directive (ticks_left party id) = record {
  rules = λ w s. unsound w ∷ no_party s party ∷ no_such_id s party id ∷ [];
  does = λ w s. leaves s (wait_at (index_of id) s.ticking);
}
directive (tick list) = record {
  rules = λ w s. unsound w ∷ when ListTooShort (is_short s list) ∷ [];
  does = λ w s. ticked s;
}
directive (set_clock d list) = record {
  rules = λ w s. unsound w ∷ when ListTooShort (is_short s list) ∷ when InvalidClock (not_settable s d) ∷ [];
  does = λ w s. clock_moved s (seconds_of d) d.ticks;
}
directive get_clock = record {
  rules = λ w s. unsound w ∷ when NotDefined (not s.clock.is_set) ∷ [];
  does = λ w s. clock_read s;
}
-- Reads only the header and one slot, and has a 100 of its own.
directive next_due = record {
  rules = λ w s. no_first w ∷ [];
  does = λ w s. leaves s (first_wait w);
}
directive initiate_server = record {
  rules = λ w s. unsound w ∷ already_initiated s ∷ [];
  does = λ w s. leaves (initiated s) 0;
}
-- They take arguments and refuse as fire after and fire when do.
directive (server_fire_after party id n r u) = record {
  rules = λ w s. unsound w ∷ no_party s party ∷ not_initiated s ∷ start_rules s party id n r;
  does = λ w s. leaves (started ServerAfter s (index_of id) n r u) 0;
}
directive (server_fire_when party id d r u) = record {
  rules = λ w s. unsound w ∷ no_party s party ∷ not_initiated s ∷ date_rules s party id d r;
  does = λ w s. leaves (started ServerWhen s (index_of id) (seconds_of d) r u) 0;
}
-- Needs three words of list. Hands out the three words of the caller's first queued timer and answers 1, or 0 if there is none.
directive (serve party list) = record {
  rules = λ w s. unsound w ∷ when ListTooShort (ltb (length list) 3) ∷ no_party s party ∷ not_initiated s ∷ [];
  does = λ w s. firing (handed_out s party) (front s party);
}
-- More than 1,000,000 is 10, after 100 and, whatever k, tick's 101.
directive (leap k list) = record {
  rules = λ w s. unsound w ∷ when ListTooShort (is_short s list) ∷ when InvalidNumber (ltb most_leap k) ∷ [];
  does = λ w s. leaping (leapt k s);
}

-- a call's rules, and what it does
abbrev pub refusals : List ℕ → State → Call → List Refusal
refusals w s c = (directive c).rules w s

abbrev pub effect : List ℕ → State → Call → Effect
effect w s c = (directive c).does w s
