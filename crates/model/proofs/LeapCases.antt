-- Document 02, item 7, leap: cases for each of its sentences, computed from the definitions as the starred ones are. Assumes nothing.
use mathlib.Core.Path.{◌≡◌, refl}
use Prim.Native.Nat.{ℕ}
use mathlib.Core.Bool.{true, false}
use mathlib.Core.List.{List, [], ◌∷◌, ◌++◌, map}
use lib.ListN.{replicate}
use Rattle.calendar.specs.declared.WallTime.{WallTime}
use Rattle.calendar.specs.Calendar.{months_of, years, valid, seconds_of}
use Rattle.model.specs.Calls.{lay_out, create, fire_after, fire_when, fire_every, ticks_left, tick, set_clock, initiate_server, server_fire_after, server_fire_when, serve, leap, is_leap, answer_count}
use Rattle.model.specs.Sound.{header_sound, slot_sound, chain_sound, ticks_sound, dates_sound, queue_sound, sound}
use Rattle.model.specs.Outcome.{status_on, outcome, after}
use Rattle.model.proofs.Cases.{Case, calls, computed, lines, lists, date, nine, unlent}
use Rattle.model.proofs.WorkedCases.{one, two, three, six, yes, one_of_each}

-- the count fired and the ticks done; a refusal, with the two zeros beside it
abbrev leaps : ℕ → ℕ → List ℕ
leaps count done = 0 ∷ count ∷ done ∷ []

abbrev refusal : ℕ → List ℕ
refusal status = status ∷ 0 ∷ 0 ∷ []

-- so many seconds into 2000; the last second, so many ticks into it
abbrev at : ℕ → WallTime
at s = date 2000 1 1 0 0 s

abbrev final_second : ℕ → WallTime
final_second ticks = record { year = 2099; month = 12; day = 31; hour = 23; minute = 59; second = 59; ticks = ticks }

-- the one timer that fired
abbrev fired : List ℕ
fired = one ∷ 7 ∷ 70 ∷ []

abbrev leap_cases : List Case
leap_cases =
    -- By 0 it does nothing. A timer waits for 3 ticks: by 2 it does both of them, by 3, 4 and more it stops after the third, which fires. Where no timer
    -- waits it does all k.
    calls (replicate 18 0)
    (lay_out 1 10 0 ∷ create 1 1 ∷ fire_after 1 one 3 7 70 ∷ leap 0 three ∷ leap 2 three ∷ ticks_left 1 one ∷ leap 0 three ∷ leap 1 three ∷ leap 4 three
    ∷ fire_after 1 one 3 7 70 ∷ leap 3 three ∷ fire_after 1 one 3 7 70 ∷ leap 4 three ∷ fire_after 1 one 3 7 70 ∷ leap 1000 three ∷ [])
    (yes 0 ∷ yes one ∷ yes 0 ∷ leaps 0 0 ∷ leaps 0 2 ∷ yes 1 ∷ leaps 0 0 ∷ leaps 1 1 ∷ leaps 0 4
    ∷ yes 0 ∷ leaps 1 3 ∷ yes 0 ∷ leaps 1 3 ∷ yes 0 ∷ leaps 1 3 ∷ [])
    (unlent 3 ++ (three ∷ three ∷ [] ∷ three ∷ fired ∷ three ∷ [] ∷ fired ∷ [] ∷ fired ∷ [] ∷ fired ∷ []))
    (1 ∷ 10 ∷ replicate 8 0 ++ (2 ∷ 1 ∷ 3 ∷ 0 ∷ 7 ∷ 70 ∷ 0 ∷ 0 ∷ []))
    -- 101 where the list is shorter than 3N words, whatever k; then 10 where k is above 1,000,000. A longer list keeps its rest.
    ∷ calls (replicate 26 0)
    (lay_out 2 10 0 ∷ create 1 1 ∷ fire_after 1 one 1 7 70 ∷ leap 1000001 (replicate 5 99) ∷ leap 4294967295 []
    ∷ leap 0 (replicate 5 99) ∷ leap 4294967295 six ∷ leap 1000 nine ∷ [])
    (yes 0 ∷ yes one ∷ yes 0 ∷ refusal 101 ∷ refusal 101 ∷ refusal 101 ∷ refusal 10 ∷ leaps 1 1 ∷ [])
    (unlent 3 ++ (replicate 5 99 ∷ [] ∷ replicate 5 99 ∷ six ∷ (one ∷ 7 ∷ 70 ∷ replicate 6 99) ∷ []))
    (2 ∷ 10 ∷ replicate 8 0 ++ (2 ∷ 1 ∷ 1 ∷ 0 ∷ 7 ∷ 70 ∷ 0 ∷ 0 ∷ replicate 8 0))
    -- A table that is not sound: 100 before all else.
    ∷ calls (1 ∷ 10 ∷ 2 ∷ replicate 15 0) (leap 1000001 [] ∷ leap 1000001 three ∷ leap 0 three ∷ []) (replicate 3 (refusal 100)) ([] ∷ three ∷ three ∷ []) (1 ∷ 10 ∷ 2 ∷ replicate 15 0)
    -- It stops after a tick that only queues a timer, with count 0, and goes on from there to the one that fires. A serve hands out the queued one.
    ∷ calls (replicate 26 0)
    (lay_out 2 10 0 ∷ create 1 1 ∷ create 1 2 ∷ initiate_server ∷ fire_after 1 one 5 7 70 ∷ server_fire_after 1 two 3 8 80 ∷ leap 2 six ∷ leap 9 six ∷ leap 9 six
    ∷ serve 1 three ∷ leap 9 six ∷ [])
    (yes 0 ∷ yes one ∷ yes two ∷ yes 0 ∷ yes 0 ∷ yes 0 ∷ leaps 0 2 ∷ leaps 0 1 ∷ leaps 1 2 ∷ yes 1 ∷ leaps 0 9 ∷ [])
    (unlent 6 ++ (six ∷ six ∷ (one ∷ 7 ∷ 70 ∷ three) ∷ (two ∷ 8 ∷ 80 ∷ []) ∷ six ∷ []))
    (2 ∷ 10 ∷ 0 ∷ 0 ∷ 0 ∷ 0 ∷ 0 ∷ 0 ∷ 1 ∷ 0 ∷ 2 ∷ 1 ∷ 5 ∷ 0 ∷ 7 ∷ 70 ∷ 0 ∷ 0 ∷ 8 ∷ 2 ∷ 3 ∷ 0 ∷ 8 ∷ 80 ∷ 0 ∷ 0 ∷ [])
    -- One tick queues a timer and fires another: only that one is counted and listed.
    ∷ calls (replicate 26 0)
    (lay_out 2 10 0 ∷ create 1 1 ∷ create 1 2 ∷ initiate_server ∷ server_fire_after 1 two 3 8 80 ∷ fire_after 1 one 3 7 70 ∷ leap 9 six ∷ leap 9 six ∷ [])
    (yes 0 ∷ yes one ∷ yes two ∷ yes 0 ∷ yes 0 ∷ yes 0 ∷ leaps 1 3 ∷ leaps 0 9 ∷ [])
    (unlent 6 ++ ((one ∷ 7 ∷ 70 ∷ three) ∷ six ∷ []))
    (2 ∷ 10 ∷ 0 ∷ 0 ∷ 0 ∷ 0 ∷ 0 ∷ 0 ∷ 1 ∷ 2 ∷ 2 ∷ 1 ∷ 3 ∷ 0 ∷ 7 ∷ 70 ∷ 0 ∷ 0 ∷ 12 ∷ 2 ∷ 3 ∷ 0 ∷ 8 ∷ 80 ∷ 0 ∷ 0 ∷ [])
    -- T is 2: it stops in the tick that brings the clock to a date, after 3 ticks from the second tick of a second, and 2 seconds on.
    ∷ calls (replicate 18 0)
    (lay_out 1 2 0 ∷ create 1 1 ∷ set_clock (at 0) three ∷ fire_when 1 one (at 2) 7 70 ∷ tick three ∷ leap 2 three ∷ leap 1000 three ∷ leap 3 three ∷ [])
    (yes 0 ∷ yes one ∷ yes 0 ∷ yes 0 ∷ yes 0 ∷ leaps 0 2 ∷ leaps 1 1 ∷ leaps 0 3 ∷ [])
    ([] ∷ [] ∷ three ∷ [] ∷ three ∷ three ∷ fired ∷ three ∷ [])
    (1 ∷ 2 ∷ 1 ∷ 378691203 ∷ 1 ∷ 0 ∷ 0 ∷ 0 ∷ 0 ∷ 0 ∷ 3 ∷ 1 ∷ 0 ∷ 0 ∷ 7 ∷ 70 ∷ 0 ∷ 0 ∷ [])
    -- A server timer for a date is queued there: count 0, and the leap stops. An interval timer and a date in one tick: both, the interval first.
    ∷ calls (replicate 26 0)
    (lay_out 2 2 0 ∷ create 1 1 ∷ create 1 2 ∷ set_clock (at 0) six ∷ initiate_server ∷ server_fire_when 1 two (at 2) 8 80 ∷ leap 9 six ∷ fire_when 1 two (at 4) 8 80
    ∷ fire_after 1 one 4 7 70 ∷ leap 9 six ∷ [])
    (yes 0 ∷ yes one ∷ yes two ∷ yes 0 ∷ yes 0 ∷ yes 0 ∷ leaps 0 4 ∷ yes 0 ∷ yes 0 ∷ leaps 2 4 ∷ [])
    (unlent 3 ++ (six ∷ [] ∷ [] ∷ six ∷ [] ∷ [] ∷ (one ∷ 7 ∷ 70 ∷ two ∷ 8 ∷ 80 ∷ []) ∷ []))
    (2 ∷ 2 ∷ 1 ∷ 378691204 ∷ 0 ∷ 0 ∷ 0 ∷ 0 ∷ 1 ∷ 0 ∷ 2 ∷ 1 ∷ 4 ∷ 0 ∷ 7 ∷ 70 ∷ 0 ∷ 0 ∷ 3 ∷ 2 ∷ 0 ∷ 0 ∷ 8 ∷ 80 ∷ 0 ∷ 0 ∷ [])
    -- At the clock's end it stands still, and the ticks still count.
    ∷ calls (replicate 18 0)
    (lay_out 1 10 0 ∷ create 1 1 ∷ set_clock (final_second 7) three ∷ fire_after 1 one 7 7 70 ∷ leap 5 three ∷ leap 9 three ∷ leap 5 three ∷ [])
    (yes 0 ∷ yes one ∷ yes 0 ∷ yes 0 ∷ leaps 0 5 ∷ leaps 1 2 ∷ leaps 0 5 ∷ [])
    ([] ∷ [] ∷ three ∷ [] ∷ three ∷ fired ∷ three ∷ [])
    (1 ∷ 10 ∷ 1 ∷ 3534451199 ∷ 9 ∷ 0 ∷ 0 ∷ 0 ∷ 0 ∷ 0 ∷ 2 ∷ 1 ∷ 7 ∷ 0 ∷ 7 ∷ 70 ∷ 0 ∷ 0 ∷ [])
    -- A periodic timer stops it at each of its ticks, and waits again.
    ∷ calls (replicate 18 0)
    (lay_out 1 10 0 ∷ create 1 1 ∷ fire_every 1 one 4 7 70 ∷ leap 1000 three ∷ leap 3 three ∷ leap 3 three ∷ leap 4 three ∷ leap 1 three ∷ [])
    (yes 0 ∷ yes one ∷ yes 0 ∷ leaps 1 4 ∷ leaps 0 3 ∷ leaps 1 1 ∷ leaps 1 4 ∷ leaps 0 1 ∷ [])
    (unlent 3 ++ (fired ∷ three ∷ fired ∷ fired ∷ three ∷ []))
    (1 ∷ 10 ∷ 0 ∷ 0 ∷ 0 ∷ 1 ∷ 0 ∷ 0 ∷ 0 ∷ 0 ∷ 6 ∷ 1 ∷ 4 ∷ 3 ∷ 7 ∷ 70 ∷ 0 ∷ 0 ∷ [])
    ∷ []

pub leap-cases : map computed leap_cases ≡ leap_cases
unfolding months_of years valid seconds_of header_sound slot_sound chain_sound ticks_sound dates_sound queue_sound sound status_on outcome
leap-cases = refl

-- 1,000,000 is taken, 1,000,001 is not, where no timer waits; by their statuses alone.
pub limit : map (status_on (1 ∷ 10 ∷ replicate 16 0)) (leap 1000000 three ∷ leap 1000001 three ∷ leap 0 three ∷ []) ≡ 0 ∷ 10 ∷ 0 ∷ []
unfolding header_sound slot_sound chain_sound ticks_sound dates_sound queue_sound sound status_on
limit = refl

-- ---- two leaps, one leap, and single ticks

-- three timers in three slots, a second of 4 ticks: two for 6 ticks, the later start periodic, and a date in the tick after
abbrev waiting : List ℕ
waiting =
    after (replicate 34 0) (lay_out 3 4 0 ∷ create 1 1 ∷ create 1 2 ∷ create 1 3 ∷ set_clock (at 0) nine ∷ tick nine ∷ fire_when 1 0x12010003 (at 2) 9 90
    ∷ fire_after 1 one 6 7 70 ∷ fire_every 1 two 6 8 80 ∷ [])

-- A leap of 2 and a leap of 7 are one of 9, which is six ticks: the count, and 2 and 4 ticks done; the list; the table.
pub added : lines waiting (leap 2 nine ∷ leap 7 nine ∷ []) ++ lines waiting (leap 9 nine ∷ []) ≡ leaps 0 2 ∷ leaps 2 4 ∷ leaps 2 6 ∷ []
unfolding months_of years valid seconds_of header_sound slot_sound chain_sound ticks_sound dates_sound queue_sound sound status_on outcome
added = refl

pub same_lists : lists waiting (leap 2 nine ∷ leap 7 nine ∷ []) ++ lists waiting (leap 9 nine ∷ [])
    ≡ nine ∷ (one ∷ 7 ∷ 70 ∷ two ∷ 8 ∷ 80 ∷ three) ∷ (one ∷ 7 ∷ 70 ∷ two ∷ 8 ∷ 80 ∷ three) ∷ []
unfolding months_of years valid seconds_of header_sound slot_sound chain_sound ticks_sound dates_sound queue_sound sound status_on outcome
same_lists = refl

pub same_tables : map (after waiting) ((leap 2 nine ∷ leap 7 nine ∷ []) ∷ (leap 9 nine ∷ []) ∷ replicate 6 (tick nine) ∷ [])
    ≡ replicate 3 (3 ∷ 4 ∷ 1 ∷ 378691201 ∷ 3 ∷ 2 ∷ 3 ∷ 0 ∷ 0 ∷ 0
    ∷ 2 ∷ 1 ∷ 6 ∷ 0 ∷ 7 ∷ 70 ∷ 0 ∷ 0
    ∷ 6 ∷ 2 ∷ 6 ∷ 6 ∷ 8 ∷ 80 ∷ 0 ∷ 0
    ∷ 5 ∷ 3 ∷ 0 ∷ 378691202 ∷ 9 ∷ 90 ∷ 0 ∷ 0 ∷ [])
unfolding months_of years valid seconds_of header_sound slot_sound chain_sound ticks_sound dates_sound queue_sound sound status_on outcome
same_tables = refl

-- ---- leap among the calls

-- it alone is several ticks, and answers two numbers
pub several : map is_leap one_of_each ≡ replicate 18 false ++ (true ∷ [])
several = refl

pub two-numbers : map answer_count one_of_each ≡ replicate 11 1 ++ (7 ∷ replicate 6 1 ++ (2 ∷ []))
two-numbers = refl
