-- Two parties in the words of demand 3: cases, computed. Assumes nothing.
use mathlib.Core.Path.{◌≡◌, refl}
use Prim.Native.Nat.{ℕ, ◌+◌}
use mathlib.Core.Option.{none, some}
use mathlib.Core.List.{List, [], ◌∷◌, ◌++◌, map}
use lib.ListN.{replicate}
use Rattle.model.specs.Lists.{keep, InOrder}
use Rattle.model.specs.Calls.{Call, lay_out, create, tick, initiate_server, server_fire_after, serve}
use Rattle.model.specs.declared.Chain.{Chain}
use Rattle.model.specs.declared.Chain.TheVariants.{ByTicks, ByDate}
use Rattle.model.specs.declared.Mode.TheVariants.{ServerAfter}
use Rattle.model.specs.State.{id_base}
use Rattle.model.specs.Sound.{header_sound, slot_sound, chain_sound, ticks_sound, dates_sound, queue_sound, sound}
use Rattle.model.specs.Outcome.{status_on, outcome, after}
use Rattle.demand.specs.History.{Start, start_of, Event, laid_out_for, changes, one_tick, initiates, serves_front, nothing, split_of, Placed, starts, is_queued, in_chain, ticks_left_or_date, served_from, Queues, left_in_queue, IsQueue, serves, taken_off}
use Rattle.demand.specs.Demand.{HandsOut, events_after, Demanded}
use Rattle.laws.proofs.Order.{order, order-in-order}
use Rattle.demand.proofs.QueueLaws.{queue-calm}
use Rattle.model.proofs.WorkedCases.{one, two, three}

abbrev third : ℕ
third = 0x12010003

-- server timers of both parties, where L is 2
abbrev start : ℕ → Start
start i = start_of (id_base + i) ServerAfter 1 7 i

abbrev queue : List Start
queue = start 1 ∷ start 3 ∷ start 2 ∷ start 4 ∷ []

-- L, of the last lay out.
pub split-kept : map split_of
    ([] ∷ (serves_front 2 ∷ one_tick ∷ laid_out_for 10 2 ∷ []) ∷ (initiates ∷ laid_out_for 10 3 ∷ laid_out_for 10 2 ∷ []) ∷ []) ≡ 0 ∷ 2 ∷ 3 ∷ []
split-kept = refl

-- What a serve hands out and leaves; no other event hands out.
pub handed_out : map (λ e. map (λ (s : Start). s.user_data) (served_from 2 e queue)) (serves_front 1 ∷ serves_front 2 ∷ one_tick ∷ initiates ∷ [])
    ≡ (1 ∷ []) ∷ (3 ∷ []) ∷ [] ∷ [] ∷ []
handed_out = refl

pub left-in-queue : map (λ e. map (λ (s : Start). s.user_data) (left_in_queue 2 e queue)) (serves_front 1 ∷ serves_front 2 ∷ one_tick ∷ changes two none ∷ [])
    ≡ (3 ∷ 2 ∷ 4 ∷ []) ∷ (1 ∷ 2 ∷ 4 ∷ []) ∷ (1 ∷ 3 ∷ 2 ∷ 4 ∷ []) ∷ (1 ∷ 3 ∷ 4 ∷ []) ∷ []
left-in-queue = refl

-- Serves, and those taken off ahead, are the party's own only: of 3, ahead of 4.
pub own-serves : map (λ party. serves party (serves_front 1 ∷ serves_front 2 ∷ one_tick ∷ serves_front 1 ∷ [])) (1 ∷ 2 ∷ []) ≡ 2 ∷ 1 ∷ []
own-serves = refl

pub own-taken-off : map (λ es. taken_off 2 es (start 3 ∷ []))
    ((changes third none ∷ []) ∷ (changes third none ∷ serves_front 1 ∷ []) ∷ (changes third none ∷ serves_front 2 ∷ [])
    ∷ (changes one none ∷ changes two none ∷ []) ∷ [])
    ≡ 1 ∷ 1 ∷ 0 ∷ 0 ∷ []
own-taken-off = refl

-- Party 2's timer, behind party 1's in the queue, is handed out by party 2's first serve, and so it is where party 1 has served between.
abbrev slice : List ℕ
slice = replicate 26 0

abbrev until_queued : List Call
until_queued = create 1 1 ∷ create 2 1 ∷ initiate_server ∷ server_fire_after 1 one 1 7 1 ∷ server_fire_after 2 two 1 7 2 ∷ tick (replicate 6 99) ∷ []

abbrev started : List Event
started = changes two (some (start 2)) ∷ changes one (some (start 1)) ∷ initiates ∷ nothing ∷ nothing ∷ laid_out_for 10 1 ∷ []

-- the starts of a chain that the tick queues, in firing order
abbrev queuing : Chain → List Placed
queuing k = order ticks_left_or_date (keep (in_chain k) (keep (is_queued one_tick) (starts started)))

queuing-order : (k : Chain) → InOrder ticks_left_or_date (keep (in_chain k) (keep (is_queued one_tick) (starts started))) (queuing k)
queuing-order k = order-in-order ticks_left_or_date (keep (in_chain k) (keep (is_queued one_tick) (starts started)))

pub both-queued : IsQueue (events_after slice (lay_out 2 10 1 ∷ until_queued)) (start 1 ∷ start 2 ∷ [])
unfolding header_sound slot_sound chain_sound ticks_sound dates_sound queue_sound sound status_on outcome
both-queued =
    let queues : Queues started one_tick (start 1 ∷ start 2 ∷ []) = record {
      ticking = queuing ByTicks;
      dated = queuing ByDate;
      ticking-order = queuing-order ByTicks;
      dated-order = queuing-order ByDate;
      is = refl;
    } in
    let empty : IsQueue started [] =
    queue-calm _ (changes two (some (start 2))) [] refl (queue-calm _ (changes one (some (start 1))) [] refl (queue-calm _ initiates [] refl
    (queue-calm _ nothing [] refl (queue-calm _ nothing [] refl (queue-calm [] (laid_out_for 10 1) [] refl refl))))) in
    ([], start 1 ∷ start 2 ∷ [], empty, queues, refl)

pub by-own-first-serve : Demanded slice 2 10 1 (until_queued ++ (serve 2 three ∷ []))
    → IsQueue (events_after slice (lay_out 2 10 1 ∷ until_queued)) (start 1 ∷ start 2 ∷ [])
    → HandsOut (after slice (lay_out 2 10 1 ∷ until_queued)) 2 three (start 2)
unfolding header_sound slot_sound chain_sound ticks_sound dates_sound queue_sound sound status_on outcome
by-own-first-serve demanded is = demanded.in-turn until_queued [] [] 2 three refl (start 1 ∷ start 2 ∷ []) [] [] (start 2) is refl [] refl refl refl

pub past-the-others-serve : Demanded slice 2 10 1 (until_queued ++ (serve 1 three ∷ serve 2 three ∷ []))
    → IsQueue (events_after slice (lay_out 2 10 1 ∷ until_queued)) (start 1 ∷ start 2 ∷ [])
    → HandsOut (after slice (lay_out 2 10 1 ∷ until_queued ++ (serve 1 three ∷ []))) 2 three (start 2)
unfolding header_sound slot_sound chain_sound ticks_sound dates_sound queue_sound sound status_on outcome
past-the-others-serve demanded is =
    demanded.in-turn until_queued (serve 1 three ∷ []) [] 2 three refl (start 1 ∷ start 2 ∷ []) [] [] (start 2) is refl (serves_front 1 ∷ []) refl refl refl
