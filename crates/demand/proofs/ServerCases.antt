-- Document 02, item 5, the deferred server, in the words of demand 3: cases, computed. Assumes nothing.
use mathlib.Core.Path.{◌≡◌, refl}
use Prim.Native.Nat.{ℕ}
use mathlib.Core.Bool.{true, false}
use mathlib.Core.Option.{none, some}
use mathlib.Core.List.{List, [], ◌∷◌, ◌++◌, map}
use lib.ListN.{replicate}
use Rattle.calendar.specs.Calendar.{months_of, years, valid, seconds_of}
use Rattle.model.specs.Lists.{keep, InOrder}
use Rattle.model.specs.Calls.{Call, lay_out, create, cancel, fire_after, reset, tick, initiate_server, server_fire_after, server_fire_when, serve}
use Rattle.model.specs.declared.Chain.{Chain}
use Rattle.model.specs.declared.Chain.TheVariants.{ByTicks, ByDate}
use Rattle.model.specs.declared.Mode.TheVariants.{After, ServerAfter, ServerWhen}
use Rattle.model.specs.Sound.{header_sound, slot_sound, chain_sound, ticks_sound, dates_sound, queue_sound, sound}
use Rattle.model.specs.Outcome.{status_on, outcome, after}
use Rattle.demand.specs.History.{Start, start_of, Event, events_on, laid_out_for, changes, deletes, one_tick, clock_set_to, initiates, serves_front, Placed, starts, waits, fires, is_queued, in_chain, ticks_left_or_date, Queues, left_in_queue, IsQueue, is_initiated, serves, taken_off}
use Rattle.demand.specs.Demand.{HandsOut, events_after, Demanded}
use Rattle.laws.proofs.Order.{order, order-in-order}
use Rattle.demand.proofs.QueueLaws.{queue-calm, queue-moved}
use Rattle.model.proofs.Cases.{date}
use Rattle.model.proofs.WorkedCases.{one, two, three, six}

abbrev third : ℕ
third = 0x12010003

abbrev fourth : ℕ
fourth = 0x12010004

abbrev twelve : List ℕ
twelve = replicate 12 99

-- Interval server timers x and z, for one tick, a dated one, d, for second 5, and one that fires, o. It is second 4, with one tick a second.
abbrev x : Start
x = start_of one ServerAfter 1 7 70

abbrev d : Start
d = start_of two ServerWhen 5 8 80

abbrev o : Start
o = start_of third After 1 9 90

abbrev z : Start
z = start_of fourth ServerAfter 1 10 100

abbrev before : List Event
before = changes one (some x) ∷ changes third (some o) ∷ changes two (some d) ∷ initiates ∷ clock_set_to 4 0 ∷ laid_out_for 1 0 ∷ []

abbrev ids_of : List Placed → List ℕ
ids_of l = map (λ (g : Placed). g.begun.id) l

-- The calls as events, the latest first. A reset takes the last start, also over an initiate or a serve.
pub events-of : events_on []
    (lay_out 4 1 0 ∷ fire_after 1 third 1 9 90 ∷ initiate_server ∷ reset 1 third ∷ server_fire_when 1 two (date 1988 1 1 0 0 5) 8 80 ∷ server_fire_after 1 one 1 7 70
    ∷ tick twelve ∷ serve 1 three ∷ reset 1 one ∷ [])
    ≡ changes one (some x) ∷ serves_front 1 ∷ one_tick ∷ changes one (some x) ∷ changes two (some d) ∷ changes third (some o) ∷ initiates ∷ changes third (some o)
    ∷ laid_out_for 1 0 ∷ []
unfolding months_of years valid seconds_of
events-of = refl

-- Initiated since the lay out; and how many serves.
pub since-lay-out : map is_initiated (before ∷ (serves_front 1 ∷ one_tick ∷ before) ∷ (laid_out_for 1 0 ∷ before) ∷ []) ≡ true ∷ true ∷ false ∷ []
since-lay-out = refl

pub serves-counted : map (serves 1) ((serves_front 1 ∷ one_tick ∷ serves_front 1 ∷ []) ∷ before ∷ []) ≡ 2 ∷ 0 ∷ []
serves-counted = refl

-- "Fires" reads "is queued" for them: in the next tick o fires, d and x are queued; a set clock to second 5 queues d, one to second 4 nothing.
pub fires-or-queued : map (λ e. ids_of (keep (fires e) (starts before)) ∷ ids_of (keep (is_queued e) (starts before)) ∷ []) (one_tick ∷ clock_set_to 5 0 ∷ clock_set_to 4 0 ∷ [])
    ≡ ((third ∷ []) ∷ (two ∷ one ∷ []) ∷ []) ∷ ([] ∷ (two ∷ []) ∷ []) ∷ ([] ∷ [] ∷ []) ∷ []
fires-or-queued = refl

-- They wait until then, by their ticks left or dates, and not after it: in a second tick only z is due, which was started between the two.
pub queued-once : map (λ h. ids_of (keep waits (starts h)) ∷ map ticks_left_or_date (keep waits (starts h)) ∷ ids_of (keep (is_queued one_tick) (starts h)) ∷ [])
    (before ∷ (changes fourth (some z) ∷ one_tick ∷ before) ∷ [])
    ≡ ((two ∷ third ∷ one ∷ []) ∷ (5 ∷ 1 ∷ 1 ∷ []) ∷ (two ∷ one ∷ []) ∷ []) ∷ ((fourth ∷ []) ∷ (1 ∷ []) ∷ (fourth ∷ []) ∷ []) ∷ []
queued-once = refl

-- Started again for 3 ticks it has 2 left after one.
pub ticks-left : map ticks_left_or_date (keep waits (starts (one_tick ∷ changes one (some (start_of one ServerAfter 3 7 70)) ∷ before))) ≡ 2 ∷ []
ticks-left = refl

-- the starts of a chain that an event queues, in firing order
abbrev queuing : Chain → Event → List Event → List Placed
queuing k e h = order ticks_left_or_date (keep (in_chain k) (keep (is_queued e) (starts h)))

queuing-order : (k : Chain) (e : Event) (h : List Event) → InOrder ticks_left_or_date (keep (in_chain k) (keep (is_queued e) (starts h))) (queuing k e h)
queuing-order k e h = order-in-order ticks_left_or_date (keep (in_chain k) (keep (is_queued e) (starts h)))

-- The queue is empty. The tick queues x and then d: the interval one first, although it was started later.
pub queue-empty : IsQueue before []
queue-empty =
    queue-calm _ (changes one (some x)) [] refl (queue-calm _ (changes third (some o)) [] refl (queue-calm _ (changes two (some d)) [] refl
    (queue-calm _ initiates [] refl (queue-moved (laid_out_for 1 0 ∷ []) (clock_set_to 4 0) [] refl (λ j. refl) (queue-calm [] (laid_out_for 1 0) [] refl refl)))))

pub interval-first : IsQueue before [] → IsQueue (one_tick ∷ before) (x ∷ d ∷ [])
interval-first empty =
    let queues : Queues before one_tick (x ∷ d ∷ []) = record {
      ticking = queuing ByTicks one_tick before;
      dated = queuing ByDate one_tick before;
      ticking-order = queuing-order ByTicks one_tick before;
      dated-order = queuing-order ByDate one_tick before;
      is = refl;
    } in
    ([], x ∷ d ∷ [], empty, queues, refl)

-- Then z is started, and is behind them when it is due.
abbrev next : List Event
next = changes fourth (some z) ∷ one_tick ∷ before

pub to-the-back : IsQueue next (x ∷ d ∷ []) → IsQueue (one_tick ∷ next) (x ∷ d ∷ z ∷ [])
to-the-back two-queued =
    let queues : Queues next one_tick (z ∷ []) = record {
      ticking = queuing ByTicks one_tick next;
      dated = queuing ByDate one_tick next;
      ticking-order = queuing-order ByTicks one_tick next;
      dated-order = queuing-order ByDate one_tick next;
      is = refl;
    } in
    (x ∷ d ∷ [], z ∷ [], two-queued, queues, refl)

-- How many of x and d are taken off ahead of another: x is cancelled; and d is handed out after it. x is handed out, and cancelled when it is no more
-- ahead. x is started again, and the new start ended: it counts once. x is started again, and d deleted. Calls of another.
pub taken-off-ahead : map (λ es. taken_off 1 es (x ∷ d ∷ []))
    ((changes one none ∷ []) ∷ (serves_front 1 ∷ changes one none ∷ []) ∷ (changes one none ∷ serves_front 1 ∷ [])
    ∷ (changes one none ∷ changes one (some x) ∷ []) ∷ (deletes two ∷ changes one (some x) ∷ []) ∷ (changes third none ∷ one_tick ∷ serves_front 1 ∷ []) ∷ [])
    ≡ 1 ∷ 1 ∷ 0 ∷ 1 ∷ 2 ∷ 0 ∷ []
taken-off-ahead = refl

-- What is left of them in the queue after a serve, a cancel of the second, a delete of the first, and a lay out; after a tick, an initiate, and a start
-- of another.
pub left-in-queue : map (λ e. map (λ (s : Start). s.id) (left_in_queue 0 e (x ∷ d ∷ [])))
    (serves_front 1 ∷ changes two none ∷ deletes one ∷ laid_out_for 10 0 ∷ one_tick ∷ initiates ∷ changes fourth (some z) ∷ [])
    ≡ (two ∷ []) ∷ (one ∷ []) ∷ (two ∷ []) ∷ [] ∷ (one ∷ two ∷ []) ∷ (one ∷ two ∷ []) ∷ (one ∷ two ∷ []) ∷ []
left-in-queue = refl

-- Two timers are queued. The second is handed out by the second serve after that; by the first where the one ahead of it is cancelled.
abbrev slice : List ℕ
slice = replicate 26 0

abbrev until_queued : List Call
until_queued = create 1 1 ∷ create 1 2 ∷ initiate_server ∷ server_fire_after 1 one 1 7 70 ∷ server_fire_after 1 two 1 8 80 ∷ tick six ∷ []

abbrev ahead : Start
ahead = start_of one ServerAfter 1 7 70

abbrev second : Start
second = start_of two ServerAfter 1 8 80

pub by-second-serve : Demanded slice 2 10 0 (until_queued ++ (serve 1 three ∷ serve 1 three ∷ []))
    → IsQueue (events_after slice (lay_out 2 10 0 ∷ until_queued)) (ahead ∷ second ∷ [])
    → HandsOut (after slice (lay_out 2 10 0 ∷ until_queued ++ (serve 1 three ∷ []))) 1 three second
unfolding header_sound slot_sound chain_sound ticks_sound dates_sound queue_sound sound status_on outcome
by-second-serve demanded queue =
    demanded.in-turn until_queued (serve 1 three ∷ []) [] 1 three refl (ahead ∷ second ∷ []) (ahead ∷ []) [] second queue refl
    (serves_front 1 ∷ []) refl refl refl

pub one-sooner : Demanded slice 2 10 0 (until_queued ++ (cancel 1 one ∷ serve 1 three ∷ []))
    → IsQueue (events_after slice (lay_out 2 10 0 ∷ until_queued)) (ahead ∷ second ∷ [])
    → HandsOut (after slice (lay_out 2 10 0 ∷ until_queued ++ (cancel 1 one ∷ []))) 1 three second
unfolding header_sound slot_sound chain_sound ticks_sound dates_sound queue_sound sound status_on outcome
one-sooner demanded queue =
    demanded.in-turn until_queued (cancel 1 one ∷ []) [] 1 three refl (ahead ∷ second ∷ []) (ahead ∷ []) [] second queue refl
    (changes one none ∷ []) refl refl refl
