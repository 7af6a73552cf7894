-- Demand 3: a single claim about every list of calls from every accepted lay out, the last definition here. Assumes nothing: these are definitions.
use Rattle.std.specs.Prelude.{◌≡◌, ℕ, suc, ◌+◌, ◌*◌, ◌≤◌, ◌<◌, true, false, cond, List, [], ◌∷◌, ◌++◌, map, reverse, length, replicate, pos, ◌-ℤ◌, eqb}
use Rattle.std.proofs.Math.Option.{none, some}
use Rattle.calendar.specs.declared.WallTime.{WallTime}
use Rattle.calendar.specs.Calendar.{date_of}
use Rattle.model.specs.Lists.{least, keep, any, InOrder}
use Rattle.model.specs.Calls.{Call, lay_out, create, ident, cancel, reset, ticks_left, tick, set_clock, get_clock, next_due, serve, leap, lent_to, answer_count, is_leap}
use Rattle.model.specs.declared.Chain.{Chain}
use Rattle.model.specs.declared.Chain.TheVariants.{ByTicks, ByDate, Queue}
use Rattle.model.specs.Kinds.{kind_at, chain_for}
use Rattle.model.specs.State.{Slot, Link, slot_at, wait_at, id_base, index_of, names, listed}
use Rattle.model.specs.Words.{first, word, along, links, read, slot_count, ticks_per_second, clock_set, seconds, ticks_into, party_split, server_initiated, kind_of, name_of, previous_of}
use Rattle.model.specs.Directives.{numbers}
use Rattle.model.specs.Sound.{sound}
use Rattle.model.specs.Outcome.{outcome, movement, first_number, ticks_done, after}
use Rattle.model.specs.Entries.{Begins}
use Rattle.model.specs.Leap.{Leaps}
use Rattle.model.specs.Statuses.{times_linked, status_for, LowestOwn}
use Rattle.demand.specs.History.{Start, Event, changes, one_tick, last_start, lasts_after, Placed, Waiting, event_of, events_on, per_second, clock_after, moves_clock, starts, waits, fires, in_chain, ticks_left_or_date, waiting, entry_of, entry, split_of, is_initiated, is_partys, served_from, IsQueue, queued_as, ends, serves, taken_off}

-- What an accepted call is in single calls: a leap is as many ticks as it has done, each lent its list; any other call is itself.
abbrev pub singly : List ℕ → Call → List Call
singly t c = cond (is_leap c) (replicate (ticks_done (outcome t c).answer) (tick (lent_to c))) (c ∷ [])

-- Accepted means status 0. Each tick of an accepted leap counts as an accepted tick.
abbrev pub accepted_in : List ℕ → List Call → List Call
accepted_in t [] = []
accepted_in t (c ∷ cs) = cond (eqb (outcome t c).status 0) (singly t c ++ accepted_in (outcome t c).table cs) (accepted_in (outcome t c).table cs)

-- a link of a chain with what its slot shows
abbrev pub shown : List Slot → Link → Waiting
shown slots w =
    let x = slot_at slots w.slot in
    record { shows = listed slots w; mode = (kind_at x.kind).last; interval = x.interval; wait = w.wait }

-- The links of a chain show its own waiting timers in firing order, the earlier start first among equals, with their ticks left or dates, and
-- the mode, interval, routine and data of their starts; those of the queue the queued ones; and nothing else.
abbrev pub Shows : Chain → List Event → List Waiting → Type 0
Shows ByTicks es shows = (l : List Placed) × InOrder ticks_left_or_date (keep (in_chain ByTicks) (keep waits (starts es))) l × (shows ≡ map waiting l)
Shows ByDate es shows = (l : List Placed) × InOrder ticks_left_or_date (keep (in_chain ByDate) (keep waits (starts es))) l × (shows ≡ map waiting l)
Shows Queue es shows = (q : List Start) × IsQueue es q × (shows ≡ map queued_as q)

-- What the table t has to be after these events.
pub record Standing (t : List ℕ) (es : List Event) : Type 0 where
  pub is-sound : sound t ≡ true
  -- Each chain gives its own timers by next from word 5, 6 or 9.
  pub by_next : (k : Chain) → Shows k es (map (shown (read t).slots) (links k t))
  -- The same in reverse by previous from its last slot.
  pub by-previous : (k : Chain) → along (previous_of t) (slot_count t) (first (reverse (links k t))) ≡ map (λ w. w.slot) (reverse (links k t))
  -- Each waiting or queued timer stands there once.
  pub once : (i : ℕ) → times_linked t i ≤ 1
  -- The table's T and its clock, counted in ticks, are those of the events; it is unset where theirs is.
  pub rate : per_second es ≡ ticks_per_second t
  pub clock : clock_after 0 es ≡ cond (eqb (clock_set t) 1) (some (seconds t * ticks_per_second t + ticks_into t)) none
  -- Word 7 is L.
  pub split : split_of es ≡ party_split t
  -- Word 8 says whether the server was initiated.
  pub initiated : is_initiated es ≡ eqb (server_initiated t) 1

-- What the accepted call c, which is the event e, has to list on the table t after these events: the timers that fire in it, those due in this
-- call and not ended before, interval ones first, each kind in firing order. A tick and a set clock answer their number, no other call fires
-- any (a leap is its ticks), and there are never more than slots. A serve lists the caller's first in the queue, if there is one, and answers how many
-- it lists.
pub record Lists (t : List ℕ) (es : List Event) (c : Call) (e : Event) : Type 0 where
  pub ticking : List Placed
  pub dated : List Placed
  pub ticking-order : InOrder ticks_left_or_date (keep (in_chain ByTicks) (keep (fires e) (starts es))) ticking
  pub dated-order : InOrder ticks_left_or_date (keep (in_chain ByDate) (keep (fires e) (starts es))) dated
  pub queue : List Start
  pub is-queue : IsQueue es queue
  pub entries : Begins (outcome t c).list (lent_to c) (map entry (ticking ++ dated) ++ map entry_of (served_from (split_of es) e queue))
  pub counted : moves_clock e ≡ true → (outcome t c).answer ≡ length (ticking ++ dated) ∷ []
  pub served : (party : ℕ) (list : List ℕ) → c ≡ serve party list → (outcome t c).answer ≡ length (served_from (split_of es) e queue) ∷ []
  pub fires-none : moves_clock e ≡ false → ticking ++ dated ≡ []
  pub few : length (ticking ++ dated) ≤ slot_count t

-- What is demanded of the call c, which is the event e where it is accepted, on the table t after these events.
pub record Answers (t : List ℕ) (es : List Event) (c : Call) (e : Event) : Type 0 where
  -- Its status is that of the table of status numbers.
  pub status : (outcome t c).status ≡ status_for t c
  pub lists : is_leap c ≡ false → (outcome t c).status ≡ 0 → Lists t es c e
  -- An accepted leap is its ticks, and each of them lists what it has to.
  pub leaps : (k : ℕ) (list : List ℕ) → c ≡ leap k list → (outcome t c).status ≡ 0 → Leaps t k list
  pub each-tick : (k : ℕ) (list : List ℕ) → c ≡ leap k list → (outcome t c).status ≡ 0 → (m : ℕ) → m < ticks_done (outcome t c).answer
      → Lists (after t (replicate m (tick list))) (replicate m one_tick ++ es) (tick list) one_tick
  -- A tick, a set clock, a serve and a leap are lent that list, no other call is (`lent_to`).
  pub lent-tick : (list : List ℕ) → c ≡ tick list → lent_to c ≡ list
  pub lent-set : (w : WallTime) (list : List ℕ) → c ≡ set_clock w list → lent_to c ≡ list
  pub lent-serve : (party : ℕ) (list : List ℕ) → c ≡ serve party list → lent_to c ≡ list
  pub lent-leap : (k : ℕ) (list : List ℕ) → c ≡ leap k list → lent_to c ≡ list
  -- After an accepted cancel the timer is in no chain, neither waiting nor queued.
  pub cancelled : (party id : ℕ) → c ≡ cancel party id → (outcome t c).status ≡ 0 → times_linked (outcome t c).table (index_of id) ≡ 0
  -- An accepted reset is a start for ticks, that timer's last start again.
  pub restarts : (party id : ℕ) → c ≡ reset party id → (outcome t c).status ≡ 0
      → (s : Start) × (e ≡ changes id (some s)) × (s.id ≡ id) × (chain_for s.mode ≡ ByTicks) × (last_start id es ≡ some s)
  -- A set clock answers how far the clock moved, as new minus old in ticks; 0 on the first accepted set since the lay out, and on a refusal.
  pub moves : (w : WallTime) (list : List ℕ) → c ≡ set_clock w list → (outcome t c).status ≡ 0 → (old new : ℕ)
      → clock_after 0 es ≡ some old → clock_after 0 (e ∷ es) ≡ some new → movement t w list ≡ pos new -ℤ pos old
  pub moves-first : (w : WallTime) (list : List ℕ) → c ≡ set_clock w list → (outcome t c).status ≡ 0 → clock_after 0 es ≡ none → movement t w list ≡ pos 0
  pub stays : (w : WallTime) (list : List ℕ) → c ≡ set_clock w list → ((outcome t c).status ≡ 0 → ⊥) → movement t w list ≡ pos 0
  -- Get clock gives the date of the clock's second and, in ticks, those into it.
  pub reads : c ≡ get_clock → (outcome t c).status ≡ 0 → (outcome t c).answer ≡ numbers (date_of (seconds t)) (ticks_into t)
  -- Ticks left are those in the interval chain; 0 for a timer that is not there.
  pub left : (party id : ℕ) → c ≡ ticks_left party id → (outcome t c).status ≡ 0 → (outcome t c).answer ≡ wait_at (index_of id) (links ByTicks t) ∷ []
  -- Next due is accepted, and answers the least ticks left over all waiting interval timers, 0 if none.
  pub next : c ≡ next_due
      → ((outcome t c).status ≡ 0) × ((outcome t c).answer ≡ least (map ticks_left_or_date (keep (in_chain ByTicks) (keep waits (starts es)))) ∷ [])
  -- An id names a timer as long as it lasts; a create answers one that named none.
  pub lasts : (outcome t c).status ≡ 0 → (id : ℕ)
      → names (read (outcome t c).table) id ≡ lasts_after c (first_number (outcome t c).answer) id (names (read t) id)
  pub anew : (party name : ℕ) → c ≡ create party name → (outcome t c).status ≡ 0 → names (read t) (first_number (outcome t c).answer) ≡ false
  -- Create and ident look only in the caller's slots: they answer the id of the lowest free one, and of the lowest with that name.
  pub creates : (party name : ℕ) → c ≡ create party name → (outcome t c).status ≡ 0
      → (i : ℕ) × ((outcome t c).answer ≡ (id_base + i) ∷ []) × LowestOwn t party (λ j. eqb (kind_of t j) 0) i
  pub finds : (party name : ℕ) → c ≡ ident party name → (outcome t c).status ≡ 0
      → (i : ℕ) × ((outcome t c).answer ≡ (id_base + i) ∷ []) × LowestOwn t party (λ j. eqb (name_of t j) name) i
  -- Words past 10 + 8N are never changed.
  pub size : length (outcome t c).table ≡ length t
  pub beyond : (m : ℕ) → 10 + 8 * slot_count (outcome t c).table ≤ m → word (outcome t c).table m ≡ word t m
  -- A refused call changes no word of the table or of the list that it was lent, and answers zero.
  pub refuses : ((outcome t c).status ≡ 0 → ⊥)
      → ((outcome t c).table ≡ t) × ((outcome t c).list ≡ lent_to c) × ((outcome t c).answer ≡ replicate (answer_count c) 0)

-- a serve of the party on the table t, where it is accepted, hands out that start's timer and answers 1
abbrev pub HandsOut : List ℕ → ℕ → List ℕ → Start → Type 0
HandsOut t party list s = (outcome t (serve party list)).status ≡ 0
    → ((outcome t (serve party list)).answer ≡ 1 ∷ []) × Begins (outcome t (serve party list)).list list (entry_of s ∷ [])

-- what the accepted calls of a list mean, the latest first
abbrev pub events_after : List ℕ → List Call → List Event
events_after w cs = events_on [] (accepted_in w cs)

-- What is demanded of the whole list cs after a lay out for n, t and split of the slice w: after every prefix, and in every call. It begins with no
-- timer.
pub record Demanded (w : List ℕ) (n t split : ℕ) (cs : List Call) : Type 0 where
  pub empty : (id : ℕ) → names (read (after w (lay_out n t split ∷ []))) id ≡ false
  pub standing : (xs ys : List Call) → xs ++ ys ≡ cs → Standing (after w (lay_out n t split ∷ xs)) (events_after w (lay_out n t split ∷ xs))
  pub answers : (xs ys : List Call) (c : Call) → xs ++ (c ∷ ys) ≡ cs →
      Answers (after w (lay_out n t split ∷ xs)) (events_after w (lay_out n t split ∷ xs)) c (event_of (events_after w (lay_out n t split ∷ xs)) c)
  -- A timer at place q of its party's own in the queue is handed out by the party's qth accepted serve after, one sooner for each of its own taken off
  -- ahead of it, unless it is taken off itself or a lay out comes: after the calls xs it stands behind `ahead` among them; `more` are the events of the
  -- calls ys after those.
  pub in-turn : (xs ys zs : List Call) (party : ℕ) (list : List ℕ) → xs ++ (ys ++ (serve party list ∷ zs)) ≡ cs
      → (queue ahead behind : List Start) (s : Start) → let es = events_after w (lay_out n t split ∷ xs) in IsQueue es queue
      → keep (is_partys (split_of es) party) queue ≡ ahead ++ (s ∷ behind)
      → (more : List Event) → events_after w (lay_out n t split ∷ xs ++ ys) ≡ more ++ es
      → any (ends s.id) more ≡ false → suc (serves party more) + taken_off party more ahead ≡ suc (length ahead)
      → HandsOut (after w (lay_out n t split ∷ xs ++ ys)) party list s

-- The single claim: every slice, every accepted lay out on it, every list of calls.
abbrev pub Demand3 : Type 0
Demand3 = (w : List ℕ) (n t split : ℕ) → (outcome w (lay_out n t split)).status ≡ 0 → (cs : List Call) → Demanded w n t split cs
