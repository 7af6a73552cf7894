-- Pairs of lines in both orders, computed from the definitions: the words of the statement one by one; every two of the eight calls, on a table with every
-- kind of timer; both sides of each edge of the exception; and that neither the exception nor the two ids can be left out. Assumes nothing.
use mathlib.Core.Path.{◌≡◌, refl, ap, ◌∙◌}
use Prim.Native.Nat.{ℕ, ◌+◌, ◌*◌}
use native.Mathlib.Omega.{arith}
use mathlib.Core.Bool.{Bool, true, false, ◌&&◌}
use mathlib.Core.List.{List, [], ◌∷◌, ◌++◌, map}
use lib.ListN.{replicate, set, get_or}
use lib.Dec.{eqb}
use Rattle.calendar.specs.declared.WallTime.{WallTime}
use Rattle.calendar.specs.Calendar.{months_of, years, valid, seconds_of}
use Rattle.model.specs.Calls.{Call, create, cancel, delete, fire_after, fire_when, fire_every, reset, ticks_left, server_fire_after, server_fire_when}
use Rattle.model.specs.Sound.{header_sound, slot_sound, chain_sound, ticks_sound, dates_sound, queue_sound, sound}
use Rattle.model.specs.State.{id_base}
use Rattle.model.specs.Words.{first_ticking, kind_of}
use Rattle.model.specs.Outcome.{status_on, outcome}
use Rattle.model.proofs.Cases.{date}
use Rattle.model.proofs.EveryKind.{every_kind}
use Rattle.order.specs.Order.{changes_timer, on_two_ids, left_by, Swaps, same_due, OrderOfLines, OrderShows}
use Rattle.order.specs.Deadlines.{deadline_on, same_deadline, KnownBefore}
use Rattle.order.specs.Delays.{by_rate, OrderOfDelays, DelaysShow}

-- ---- the words of the statement, one by one

abbrev id : ℕ → ℕ
id i = id_base + i

abbrev at : ℕ → WallTime
at s = date 2000 1 1 0 0 s

-- N 2, T 10; it is 2000-01-01 00:00:01 and 3 ticks; both timers wait for the 5 ticks for which they were started
abbrev due5 : List ℕ
due5 =
    2 ∷ 10 ∷ 1 ∷ 378691201 ∷ 3 ∷ 1 ∷ 0 ∷ 0 ∷ 0 ∷ 0
    ∷ 4 ∷ 1 ∷ 5 ∷ 5 ∷ 7 ∷ 70 ∷ 2 ∷ 0
    ∷ 4 ∷ 2 ∷ 5 ∷ 0 ∷ 8 ∷ 80 ∷ 0 ∷ 1 ∷ []

pub same-tick : same_due due5 (fire_after 1 (id 1) 9 7 70) (fire_after 1 (id 2) 9 8 80) ≡ true
unfolding months_of years valid seconds_of header_sound slot_sound chain_sound ticks_sound dates_sound queue_sound sound status_on outcome
same-tick = refl

pub another-tick : same_due due5 (fire_after 1 (id 1) 9 7 70) (fire_after 1 (id 2) 10 8 80) ≡ false
unfolding months_of years valid seconds_of header_sound slot_sound chain_sound ticks_sound dates_sound queue_sound sound status_on outcome
another-tick = refl

pub same-date : same_due due5 (fire_when 1 (id 1) (at 9) 7 70) (fire_when 1 (id 2) (at 9) 8 80) ≡ true
unfolding months_of years valid seconds_of header_sound slot_sound chain_sound ticks_sound dates_sound queue_sound sound status_on outcome
same-date = refl

-- a reset starts its timer, for its stored ticks; a refused start does not
pub reset-starts : same_due due5 (reset 1 (id 1)) (fire_after 1 (id 2) 5 8 80) ≡ true
unfolding months_of years valid seconds_of header_sound slot_sound chain_sound ticks_sound dates_sound queue_sound sound status_on outcome
reset-starts = refl

pub reset-known : same_deadline (deadline_on due5 (reset 1 (id 1))) (deadline_on due5 (fire_after 1 (id 2) 5 8 80)) ≡ true
unfolding months_of years valid seconds_of header_sound slot_sound chain_sound ticks_sound dates_sound queue_sound sound status_on outcome
reset-known = refl

pub refused-starts-none : same_due due5 (fire_after 1 (id 1) 0 7 70) (fire_after 1 (id 2) 5 8 80) ≡ false
unfolding months_of years valid seconds_of header_sound slot_sound chain_sound ticks_sound dates_sound queue_sound sound status_on outcome
refused-starts-none = refl

pub one-id : on_two_ids (fire_after 1 (id 1) 5 7 70) (cancel 1 (id 1)) ≡ false
one-id = refl

-- every two of the eight calls, of any two parties and with any other arguments, on any two different ids, also such as name no timer
abbrev lines_on : ℕ → ℕ → ℕ → WallTime → ℕ → ℕ → List Call
lines_on party i n w r u =
    fire_after party i n r u ∷ fire_every party i n r u ∷ server_fire_after party i n r u ∷ reset party i
    ∷ fire_when party i w r u ∷ server_fire_when party i w r u ∷ cancel party i ∷ delete party i ∷ []

pub any-two : (p q i j n m : ℕ) (w v : WallTime) (r u s x : ℕ) → eqb i j ≡ false
    → map (λ c. map (on_two_ids c) (lines_on q j m v s x)) (lines_on p i n w r u) ≡ replicate 8 (replicate 8 true)
any-two p q i j n m w v r u s x e = rw e refl

-- ---- both orders of two lines

abbrev same_words : List ℕ → List ℕ → Bool
same_words [] [] = true
same_words [] (v ∷ vs) = false
same_words (u ∷ us) [] = false
same_words (u ∷ us) (v ∷ vs) = eqb u v && same_words us vs

-- Two lines on a table: whether they are lines on two ids; whether the exception holds, and whether it is known before; whether the tables are the same in
-- either order; and the statuses of the first line, first and second, and of the second, second and first.
pub record Pair : Type 0 where
  pub two_ids : Bool
  pub exception : Bool
  pub known : Bool
  pub same : Bool
  pub statuses : List ℕ

abbrev pair : List ℕ → Call → Call → Pair
pair t c d = record {
  two_ids = on_two_ids c d;
  exception = same_due t c d;
  known = same_deadline (deadline_on t c) (deadline_on t d);
  same = same_words (left_by t c d) (left_by t d c);
  statuses =
      (outcome t c).status ∷ (outcome (outcome t d).table c).status ∷ (outcome (outcome t c).table d).status ∷ (outcome t d).status ∷ [];
}

-- they swap, with these statuses; both are accepted and do not
abbrev swap : ℕ → ℕ → Pair
swap c d = record { two_ids = true; exception = false; known = false; same = true; statuses = c ∷ c ∷ d ∷ d ∷ [] }

abbrev clash : Pair
clash = record { two_ids = true; exception = true; known = true; same = false; statuses = replicate 4 0 }

-- ---- every two calls, on a table with every kind of timer

-- slot k is of kind k; slots 1 to 6 are party 1's, the others party 2's
abbrev table : List ℕ
table = set every_kind 7 6

-- the calls of a party on a slot whose stored ticks are 5: four that start it for 5 ticks, two for a date, two that stop it
abbrev lines : ℕ → ℕ → List Call
lines party i =
    fire_after party (id i) 5 7 70 ∷ fire_every party (id i) 5 8 80 ∷ server_fire_after party (id i) 5 9 90 ∷ reset party (id i)
    ∷ fire_when party (id i) (at 9) 7 71 ∷ server_fire_when party (id i) (at 9) 8 81 ∷ cancel party (id i) ∷ delete party (id i) ∷ []

abbrev all : Pair
all = swap 0 0

abbrev for_ticks : List Pair
for_ticks = clash ∷ clash ∷ clash ∷ clash ∷ all ∷ all ∷ all ∷ all ∷ []

abbrev for_date : List Pair
for_date = all ∷ all ∷ all ∷ all ∷ clash ∷ clash ∷ all ∷ all ∷ []

-- slot 4, party 1's, waits for ticks; slot 12, party 2's, is queued
pub every_two : map (λ c. map (pair table c) (lines 2 12)) (lines 1 4)
    ≡ for_ticks ∷ for_ticks ∷ for_ticks ∷ for_ticks ∷ for_date ∷ for_date ∷ replicate 8 all ∷ replicate 8 all ∷ []
unfolding months_of years valid seconds_of header_sound slot_sound chain_sound ticks_sound dates_sound queue_sound sound status_on outcome
every_two = refl

-- ---- both sides of each edge

-- a wall time with so many ticks, which starts ignore
abbrev with_ticks : ℕ → WallTime
with_ticks n = record { year = 2000; month = 1; day = 1; hour = 0; minute = 0; second = 9; ticks = n }

-- two timers that were never started; the clock is not set, nor the server initiated
abbrev ready : List ℕ
ready = 2 ∷ 10 ∷ replicate 8 0 ++ (1 ∷ 1 ∷ replicate 6 0 ++ (1 ∷ 2 ∷ replicate 6 0))

-- no lines on two ids, with these statuses; the tables
abbrev other : Bool → List ℕ → Pair
other same statuses = record { two_ids = false; exception = false; known = false; same = same; statuses = statuses }

-- two lines on a table, and what comes of them; as the definitions have it
pub data Edge : Type 0 where
  on : List ℕ → Call → Call → Pair → Edge

abbrev computed : Edge → Edge
computed (on t c d seen) = on t c d (pair t c d)

abbrev edges : List Edge
edges =
    -- one party's two timers; one tick apart, and one second; the same second with other ticks
    on table (fire_after 1 (id 2) 5 7 70) (fire_after 1 (id 4) 5 8 80) clash
    ∷ on table (fire_after 1 (id 4) 5 7 70) (fire_after 2 (id 12) 6 8 80) all
    ∷ on table (fire_when 1 (id 4) (at 9) 7 70) (fire_when 2 (id 12) (at 10) 8 80) all
    ∷ on table (fire_when 1 (id 4) (with_ticks 3) 7 70) (server_fire_when 2 (id 12) (with_ticks 8) 8 80) clash
    -- a start for the 7 ticks after which a date comes; behind a third timer that is due with it
    ∷ on table (fire_after 1 (id 4) 7 7 70) (fire_when 2 (id 12) (at 2) 8 80) all
    ∷ on table (fire_after 1 (id 2) 1 7 70) (cancel 2 (id 10)) all
    -- timers that were due together, 6 and 10, where one is not started; where both are; and a start as the other was
    ∷ on table (fire_after 1 (id 6) 0 7 70) (fire_after 2 (id 10) 1 8 80) (swap 10 0)
    ∷ on table (fire_after 1 (id 6) 1 0 70) (fire_after 2 (id 10) 1 8 80) (swap 9 0)
    ∷ on table (fire_after 2 (id 10) 1 8 80) (fire_after 1 (id 6) 0 7 70) (swap 0 10)
    ∷ on table (fire_every 1 (id 6) 1 7 70) (server_fire_after 2 (id 10) 1 8 80) clash
    ∷ on table (fire_every 1 (id 6) 5 7 70) (reset 2 (id 10)) clash
    -- refused: the other party's timer, no such party, no timer, nothing to start or cancel, the present second, no server, no clock, not sound
    ∷ on table (fire_after 2 (id 4) 5 7 70) (fire_after 2 (id 12) 5 8 80) (swap 4 0)
    ∷ on table (fire_after 3 (id 4) 5 7 70) (reset 2 (id 12)) (swap 4 0)
    ∷ on table (delete 2 (id 14)) (fire_after 1 (id 15) 5 8 80) (swap 4 4)
    ∷ on table (reset 1 (id 3)) (cancel 1 (id 2)) (swap 11 14)
    ∷ on table (fire_when 1 (id 3) (at 1) 7 70) (fire_when 2 (id 9) (at 1) 8 80) (swap 20 20)
    ∷ on ready (server_fire_after 1 (id 1) 5 7 70) (fire_when 1 (id 2) (at 9) 8 80) (swap 14 11)
    ∷ on (set table 5 0) (fire_after 1 (id 2) 5 7 70) (fire_after 1 (id 4) 5 8 80) (swap 100 100)
    -- an id twice; calls of other kinds
    ∷ on table (fire_after 1 (id 4) 5 7 70) (cancel 1 (id 4)) (other false (0 ∷ 0 ∷ 0 ∷ 0 ∷ []))
    ∷ on table (delete 1 (id 4)) (reset 1 (id 4)) (other true (0 ∷ 0 ∷ 4 ∷ 0 ∷ []))
    ∷ on table (fire_after 1 (id 4) 5 7 70) (ticks_left 2 (id 12)) (other true (0 ∷ 0 ∷ 0 ∷ 0 ∷ []))
    ∷ on table (delete 2 (id 7)) (create 2 9) (other false (0 ∷ 0 ∷ 0 ∷ 0 ∷ []))
    ∷ []

pub both-sides : map computed edges ≡ edges
unfolding months_of years valid seconds_of header_sound slot_sound chain_sound ticks_sound dates_sound queue_sound sound status_on outcome
both-sides = refl

-- ---- calls by T

-- so many whole seconds of slot i's timer, and so many ticks, as calls by T
abbrev for_seconds : ℕ → ℕ → ℕ → Call
for_seconds n i rate = fire_after 1 (id i) (n * rate) 7 70

abbrev for_any_t : ℕ → ℕ → ℕ → Call
for_any_t n i rate = fire_after 1 (id i) n 8 80

-- whether they leave the same table in either order
abbrev same_by_rate : (ℕ → Call) → (ℕ → Call) → Bool
same_by_rate c d = same_words (by_rate (by_rate ready c).table d).table (by_rate (by_rate ready d).table c).table

-- T is 10: 3 seconds of timer 1 beside 30 ticks of timer 2, 29 ticks, 3 seconds and 2
pub seconds-in-both : map (same_by_rate (for_seconds 3 1)) (for_any_t 30 2 ∷ for_any_t 29 2 ∷ for_seconds 3 2 ∷ for_seconds 2 2 ∷ [])
    ≡ false ∷ true ∷ false ∷ true ∷ []
unfolding header_sound slot_sound chain_sound ticks_sound dates_sound queue_sound sound status_on outcome
seconds-in-both = refl

-- ---- what cannot be left out

-- Two timers started for 5 ticks: the one started first is first in the chain.
pub exception-needed : ((t : List ℕ) (c d : Call) → on_two_ids c d ≡ true → Swaps t c d) → ⊥
unfolding months_of years valid seconds_of header_sound slot_sound chain_sound ticks_sound dates_sound queue_sound sound status_on outcome
exception-needed h =
    let e : ◌≡◌ {A = ℕ} 1 2 = ap first_ticking (h ready (fire_after 1 (id 1) 5 7 70) (fire_after 1 (id 2) 5 8 80) refl).tables in absurd (omega arith)

-- A start and a cancel of one timer: it is idle after the one order and waits after the other.
pub two-ids-needed : ((t : List ℕ) (c d : Call) → changes_timer c ≡ true → changes_timer d ≡ true → same_due t c d ≡ false → Swaps t c d) → ⊥
unfolding months_of years valid seconds_of header_sound slot_sound chain_sound ticks_sound dates_sound queue_sound sound status_on outcome
two-ids-needed h =
    let e : ◌≡◌ {A = ℕ} 2 4 =
    ap (λ (t : List ℕ). kind_of t 1) (h ready (fire_after 1 (id 1) 5 7 70) (cancel 1 (id 1)) refl refl refl).tables in absurd (omega arith)

-- ---- what the claims say of any two lines: both statuses and the table; where the exception holds; what is known before

pub told : OrderOfLines → (t : List ℕ) (c d : Call) → on_two_ids c d ≡ true → same_due t c d ≡ false
    → ((outcome t c).status ≡ (outcome (outcome t d).table c).status) × ((outcome (outcome t c).table d).status ≡ (outcome t d).status)
    × ((outcome (outcome t c).table d).table ≡ (outcome (outcome t d).table c).table)
told h t c d ids e = let s = h t c d ids e in (s.first-status, s.second-status, s.tables)

-- Where the tables are the same there is no exception.
pub told-shows : OrderShows → (t : List ℕ) (c d : Call) → on_two_ids c d ≡ true
    → (outcome (outcome t c).table d).table ≡ (outcome (outcome t d).table c).table → same_due t c d ≡ true → ⊥
told-shows h t c d ids tables e = h t c d ids e tables

pub told-known : KnownBefore → (t : List ℕ) (c d : Call) → on_two_ids c d ≡ true
    → (b : Bool) → same_deadline (deadline_on t c) (deadline_on t d) ≡ b → same_due t c d ≡ b
told-known h t c d ids b before = h t c d ids ∙ before

-- the same of calls by T, which is word 1
pub told-of-delays : OrderOfDelays → (t : List ℕ) (c d : ℕ → Call) → on_two_ids (c (get_or t 1 0)) (d (get_or t 1 0)) ≡ true
    → same_due t (c (get_or t 1 0)) (d (get_or t 1 0)) ≡ false
    → ((by_rate t c).status ≡ (by_rate (by_rate t d).table c).status) × ((by_rate (by_rate t c).table d).status ≡ (by_rate t d).status)
    × ((by_rate (by_rate t c).table d).table ≡ (by_rate (by_rate t d).table c).table)
told-of-delays h t c d ids e = let s = h t c d ids e in (s.first-status, s.second-status, s.tables)

pub told-delays-show : DelaysShow → (t : List ℕ) (c d : ℕ → Call) → on_two_ids (c (get_or t 1 0)) (d (get_or t 1 0)) ≡ true
    → (by_rate (by_rate t c).table d).table ≡ (by_rate (by_rate t d).table c).table → same_due t (c (get_or t 1 0)) (d (get_or t 1 0)) ≡ true → ⊥
told-delays-show h t c d ids tables e = h t c d ids e tables
