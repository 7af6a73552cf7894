-- Cases that document 01 does not star, computed from the definitions as the starred ones are: dates that fire by a tick and by a set clock, every
-- status with its other side, answers that no clause of demand 3 speaks of, and periodic timers. Assumes nothing.
use mathlib.Core.Path.{◌≡◌, refl}
use Prim.Native.Nat.{ℕ, ◌*◌}
use mathlib.Core.List.{List, [], ◌∷◌, ◌++◌, map}
use lib.ListN.{replicate}
use Rattle.calendar.specs.Calendar.{months_of, years, valid, seconds_of, date_of}
use Rattle.model.specs.Calls.{Call, lay_out, create, ident, cancel, delete, fire_after, fire_when, fire_every, reset, ticks_left, tick, set_clock, get_clock, next_due, initiate_server, server_fire_after, server_fire_when, serve, leap, call_number}
use Rattle.model.specs.Sound.{header_sound, slot_sound, chain_sound, ticks_sound, dates_sound, queue_sound, sound}
use Rattle.model.specs.Outcome.{status_on, outcome, after}
use Rattle.model.proofs.Cases.{Case, calls, computed, date, nine, unlent}

-- the first and the second id, and lists of three and of six words
abbrev pub one : ℕ
one = 0x12010001

abbrev pub two : ℕ
two = 0x12010002

abbrev pub three : List ℕ
three = replicate 3 99

abbrev pub six : List ℕ
six = replicate 6 99

-- a refusal, with the zero beside it
abbrev pub no : ℕ → List ℕ
no status = status ∷ 0 ∷ []

abbrev pub yes : ℕ → List ℕ
yes answer = 0 ∷ answer ∷ []

-- three timers, for 3 ticks, every 3 ticks and for 3 ticks, and three ticks
abbrev guarded : List Call
guarded =
    lay_out 3 10 0 ∷ create 1 1 ∷ create 1 2 ∷ create 1 3 ∷ fire_after 1 one 3 1 10 ∷ fire_every 1 two 3 2 20 ∷ fire_after 1 0x12010003 3 3 30
    ∷ tick nine ∷ tick nine ∷ tick nine ∷ []

abbrev guarded_lines : List (List ℕ)
guarded_lines = yes 0 ∷ yes one ∷ yes two ∷ yes 0x12010003 ∷ yes 0 ∷ yes 0 ∷ yes 0 ∷ yes 0 ∷ yes 0 ∷ yes 3 ∷ []

abbrev guarded_lists : List (List ℕ)
guarded_lists = unlent 7 ++ (nine ∷ nine ∷ (one ∷ 1 ∷ 10 ∷ two ∷ 2 ∷ 20 ∷ 0x12010003 ∷ 3 ∷ 30 ∷ []) ∷ [])

-- a table of one slot, which waits where `head` is 1; its ticks left are asked for
abbrev one_slot : ℕ → ℕ → ℕ → ℕ → List ℕ
one_slot head kind interval wait = 1 ∷ 10 ∷ 0 ∷ 0 ∷ 0 ∷ head ∷ 0 ∷ 0 ∷ 0 ∷ 0 ∷ kind ∷ 1 ∷ interval ∷ wait ∷ 7 ∷ 70 ∷ 0 ∷ 0 ∷ []

abbrev asked : List ℕ → List ℕ → Case
asked t line = calls t (ticks_left 1 one ∷ []) (line ∷ []) (unlent 1) t

abbrev pub worked_cases : List Case
worked_cases =
    -- T is 2: the second tick brings the next second, and the timer dated to it fires then; the third is one tick into it. Nothing else is written.
    calls (replicate 18 0)
    (lay_out 1 2 0 ∷ create 1 1 ∷ set_clock (date 2000 2 29 23 59 59) three ∷ fire_when 1 one (date 2000 3 1 0 0 0) 7 70 ∷ tick three ∷ tick three ∷ tick three
    ∷ get_clock ∷ [])
    (yes 0 ∷ yes one ∷ yes 0 ∷ yes 0 ∷ yes 0 ∷ yes 1 ∷ yes 0 ∷ (0 ∷ 2000 ∷ 3 ∷ 1 ∷ 0 ∷ 0 ∷ 0 ∷ 1 ∷ []) ∷ [])
    ([] ∷ [] ∷ three ∷ [] ∷ three ∷ (one ∷ 7 ∷ 70 ∷ []) ∷ three ∷ [] ∷ [])
    (1 ∷ 2 ∷ 1 ∷ 383875200 ∷ 1 ∷ 0 ∷ 0 ∷ 0 ∷ 0 ∷ 0 ∷ 3 ∷ 1 ∷ 0 ∷ 0 ∷ 7 ∷ 70 ∷ 0 ∷ 0 ∷ [])
    -- A set clock to the date fires it, the interval timer stays; set back it moves neither.
    ∷ calls (replicate 26 0)
    (lay_out 2 10 0 ∷ create 1 1 ∷ create 1 1 ∷ set_clock (date 2000 1 1 0 0 0) six ∷ fire_when 1 two (date 2000 1 1 0 0 5) 8 80 ∷ fire_after 1 one 3 7 70
    ∷ set_clock (date 2000 1 1 0 0 5) six ∷ set_clock (date 1999 1 1 0 0 0) six ∷ ticks_left 1 one ∷ ticks_left 1 two ∷ ident 1 1 ∷ [])
    (yes 0 ∷ yes one ∷ yes two ∷ yes 0 ∷ yes 0 ∷ yes 0 ∷ yes 1 ∷ yes 0 ∷ yes 3 ∷ yes 0 ∷ yes one ∷ [])
    (unlent 3 ++ (six ∷ [] ∷ [] ∷ (two ∷ 8 ∷ 80 ∷ 99 ∷ 99 ∷ 99 ∷ []) ∷ six ∷ unlent 3))
    (2 ∷ 10 ∷ 1 ∷ 347155200 ∷ 0 ∷ 1 ∷ 0 ∷ 0 ∷ 0 ∷ 0 ∷ 4 ∷ 1 ∷ 3 ∷ 3 ∷ 7 ∷ 70 ∷ 0 ∷ 0 ∷ 3 ∷ 1 ∷ 0 ∷ 0 ∷ 8 ∷ 80 ∷ 0 ∷ 0 ∷ [])
    -- Lay out: 10 at both sides of both limits, then 8; words past the table stay.
    ∷ calls (replicate 19 5) (lay_out 0 10 0 ∷ lay_out 256 10 0 ∷ lay_out 1 0 0 ∷ lay_out 1 1001 0 ∷ lay_out 2 10 0 ∷ lay_out 1 1000 0 ∷ [])
    (no 10 ∷ no 10 ∷ no 10 ∷ no 10 ∷ no 8 ∷ yes 0 ∷ []) (unlent 6) (1 ∷ 1000 ∷ replicate 16 0 ++ (5 ∷ []))
    -- Create 3, 5; ident 3 twice; an id that names no timer: 4, before reset's 11; after the delete it is free again.
    ∷ calls (replicate 18 0)
    (lay_out 1 10 0 ∷ create 1 0 ∷ ident 1 0 ∷ ident 1 1 ∷ cancel 1 one ∷ delete 1 one ∷ reset 1 one ∷ ticks_left 1 one ∷ create 1 1 ∷ create 1 2
    ∷ cancel 1 two ∷ reset 1 one ∷ cancel 1 one ∷ fire_after 1 one 5 7 70 ∷ cancel 1 one ∷ cancel 1 one ∷ delete 1 one ∷ delete 1 one ∷ create 1 2 ∷ [])
    (yes 0 ∷ no 3 ∷ no 3 ∷ no 3 ∷ no 4 ∷ no 4 ∷ no 4 ∷ no 4 ∷ yes one ∷ no 5 ∷ no 4 ∷ no 11 ∷ no 14 ∷ yes 0 ∷ yes 0 ∷ no 14 ∷ yes 0 ∷ no 4 ∷ yes one ∷ [])
    (unlent 19) (1 ∷ 10 ∷ replicate 8 0 ++ (1 ∷ 2 ∷ replicate 6 0))
    -- Fire after 10, 9, 4; fire when 11, 9, 20, 4; get clock 11, with seven zeros; 101 for a list of two words, which stays, before 20.
    ∷ calls (replicate 18 0)
    (lay_out 1 10 0 ∷ fire_after 1 two 0 0 0 ∷ fire_after 1 two 1 0 0 ∷ fire_after 1 two 1 7 0 ∷ fire_when 1 two (date 1989 2 29 0 0 0) 0 0 ∷ get_clock
    ∷ set_clock (date 1989 2 29 0 0 0) (1 ∷ 2 ∷ []) ∷ set_clock (date 1989 2 29 0 0 0) three ∷ tick (1 ∷ 2 ∷ []) ∷ set_clock (date 1989 3 1 0 0 0) three
    ∷ fire_when 1 two (date 1989 2 29 0 0 0) 0 0 ∷ fire_when 1 two (date 1989 2 29 0 0 0) 7 0 ∷ fire_when 1 two (date 1989 3 1 0 0 0) 7 0
    ∷ fire_when 1 two (date 1989 3 1 0 0 1) 7 0 ∷ get_clock ∷ [])
    (yes 0 ∷ no 10 ∷ no 9 ∷ no 4 ∷ no 11 ∷ (11 ∷ replicate 7 0) ∷ no 101 ∷ no 20 ∷ no 101 ∷ yes 0 ∷ no 9 ∷ no 20 ∷ no 20 ∷ no 4
    ∷ (0 ∷ 1989 ∷ 3 ∷ 1 ∷ 0 ∷ 0 ∷ 0 ∷ 0 ∷ []) ∷ [])
    (unlent 6 ++ ((1 ∷ 2 ∷ []) ∷ three ∷ (1 ∷ 2 ∷ []) ∷ three ∷ unlent 5))
    (1 ∷ 10 ∷ 1 ∷ 36720000 ∷ replicate 14 0)
    -- A table that is not sound: 100 before all else.
    ∷ calls (1 ∷ 10 ∷ 2 ∷ replicate 15 0) (create 1 0 ∷ fire_after 1 one 0 0 0 ∷ fire_every 1 one 0 0 0 ∷ tick [] ∷ get_clock ∷ lay_out 1 10 0 ∷ create 1 1 ∷ [])
    (no 100 ∷ no 100 ∷ no 100 ∷ no 100 ∷ (100 ∷ replicate 7 0) ∷ yes 0 ∷ yes one ∷ [])
    (unlent 7) (1 ∷ 10 ∷ replicate 8 0 ++ (1 ∷ 1 ∷ replicate 6 0))
    -- Every 2 ticks, and after the first of them once for 3 ticks: both are due at the fourth, and the other was started before the going back.
    ∷ calls (replicate 34 0)
    (lay_out 3 10 0 ∷ create 1 1 ∷ create 1 2 ∷ fire_every 1 one 2 7 70 ∷ tick nine ∷ fire_after 1 two 3 8 80 ∷ tick nine ∷ tick nine ∷ tick nine ∷ ticks_left 1 one
    ∷ tick nine ∷ tick nine ∷ [])
    (yes 0 ∷ yes one ∷ yes two ∷ yes 0 ∷ yes 0 ∷ yes 0 ∷ yes 1 ∷ yes 0 ∷ yes 2 ∷ yes 2 ∷ yes 0 ∷ yes 1 ∷ [])
    (unlent 4 ++ (nine ∷ [] ∷ (one ∷ 7 ∷ 70 ∷ replicate 6 99) ∷ nine ∷ (two ∷ 8 ∷ 80 ∷ one ∷ 7 ∷ 70 ∷ replicate 3 99) ∷ [] ∷ nine
    ∷ (one ∷ 7 ∷ 70 ∷ replicate 6 99) ∷ []))
    (3 ∷ 10 ∷ 0 ∷ 0 ∷ 0 ∷ 1 ∷ 0 ∷ 0 ∷ 0 ∷ 0 ∷ 6 ∷ 1 ∷ 2 ∷ 2 ∷ 7 ∷ 70 ∷ 0 ∷ 0 ∷ 2 ∷ 2 ∷ 3 ∷ 0 ∷ 8 ∷ 80 ∷ 0 ∷ 0 ∷ replicate 8 0)
    -- Fire every 10, 9, 4. Cancelled it is idle periodic; a reset starts it again as periodic, idle or waiting, counted from the reset.
    ∷ calls (replicate 18 0)
    (lay_out 1 10 0 ∷ create 1 1 ∷ fire_every 1 two 0 0 0 ∷ fire_every 1 two 3 0 0 ∷ fire_every 1 two 3 7 70 ∷ fire_every 1 one 3 7 70 ∷ tick three ∷ cancel 1 one
    ∷ ticks_left 1 one ∷ tick three ∷ reset 1 one ∷ ticks_left 1 one ∷ tick three ∷ reset 1 one ∷ tick three ∷ tick three ∷ tick three ∷ cancel 1 one ∷ [])
    (yes 0 ∷ yes one ∷ no 10 ∷ no 9 ∷ no 4 ∷ yes 0 ∷ yes 0 ∷ yes 0 ∷ yes 0 ∷ yes 0 ∷ yes 0 ∷ yes 3 ∷ yes 0 ∷ yes 0 ∷ yes 0 ∷ yes 0 ∷ yes 1 ∷ yes 0 ∷ [])
    (unlent 6 ++ (three ∷ [] ∷ [] ∷ three ∷ [] ∷ [] ∷ three ∷ [] ∷ three ∷ three ∷ (one ∷ 7 ∷ 70 ∷ []) ∷ [] ∷ []))
    (1 ∷ 10 ∷ replicate 8 0 ++ (7 ∷ 1 ∷ 3 ∷ 0 ∷ 7 ∷ 70 ∷ 0 ∷ 0 ∷ []))
    -- Three periodic timers of one interval keep their order; one of twice that, which waited for the second tick already, is ahead of them there.
    ∷ calls (replicate 42 0)
    (lay_out 4 10 0 ∷ create 1 1 ∷ create 1 2 ∷ create 1 3 ∷ create 1 4 ∷ fire_every 1 0x12010004 2 4 40 ∷ fire_every 1 0x12010003 1 3 30 ∷ fire_every 1 one 1 1 10
    ∷ fire_every 1 two 1 2 20 ∷ tick (replicate 12 9) ∷ tick (replicate 12 9) ∷ [])
    (yes 0 ∷ yes one ∷ yes two ∷ yes 0x12010003 ∷ yes 0x12010004 ∷ yes 0 ∷ yes 0 ∷ yes 0 ∷ yes 0 ∷ yes 3 ∷ yes 4 ∷ [])
    (unlent 9 ++ ((0x12010003 ∷ 3 ∷ 30 ∷ one ∷ 1 ∷ 10 ∷ two ∷ 2 ∷ 20 ∷ 9 ∷ 9 ∷ 9 ∷ [])
    ∷ (0x12010004 ∷ 4 ∷ 40 ∷ 0x12010003 ∷ 3 ∷ 30 ∷ one ∷ 1 ∷ 10 ∷ two ∷ 2 ∷ 20 ∷ []) ∷ []))
    (4 ∷ 10 ∷ 0 ∷ 0 ∷ 0 ∷ 3 ∷ 0 ∷ 0 ∷ 0 ∷ 0
    ∷ 6 ∷ 1 ∷ 1 ∷ 0 ∷ 1 ∷ 10 ∷ 2 ∷ 3
    ∷ 6 ∷ 2 ∷ 1 ∷ 0 ∷ 2 ∷ 20 ∷ 4 ∷ 1
    ∷ 6 ∷ 3 ∷ 1 ∷ 1 ∷ 3 ∷ 30 ∷ 1 ∷ 0
    ∷ 6 ∷ 4 ∷ 2 ∷ 1 ∷ 4 ∷ 40 ∷ 0 ∷ 2 ∷ [])
    -- A periodic guard of 3 ticks, a one-shot of 3 started before it and one after it: at the third tick in the order of their starts. The first is
    -- started again then, behind the going back, and so it is at the sixth; the guard is alone at the ninth. The table after the third tick, after the
    -- start, and after the ninth.
    ∷ calls (replicate 34 0) guarded guarded_lines guarded_lists
    (3 ∷ 10 ∷ 0 ∷ 0 ∷ 0 ∷ 2 ∷ 0 ∷ 0 ∷ 0 ∷ 0 ∷ 2 ∷ 1 ∷ 3 ∷ 0 ∷ 1 ∷ 10 ∷ 0 ∷ 0 ∷ 6 ∷ 2 ∷ 3 ∷ 3 ∷ 2 ∷ 20 ∷ 0 ∷ 0 ∷ 2 ∷ 3 ∷ 3 ∷ 0 ∷ 3 ∷ 30 ∷ 0 ∷ 0 ∷ [])
    ∷ calls (replicate 34 0) (guarded ++ (fire_after 1 one 3 1 10 ∷ [])) (guarded_lines ++ (yes 0 ∷ [])) (guarded_lists ++ ([] ∷ []))
    (3 ∷ 10 ∷ 0 ∷ 0 ∷ 0 ∷ 2 ∷ 0 ∷ 0 ∷ 0 ∷ 0 ∷ 4 ∷ 1 ∷ 3 ∷ 0 ∷ 1 ∷ 10 ∷ 0 ∷ 2 ∷ 6 ∷ 2 ∷ 3 ∷ 3 ∷ 2 ∷ 20 ∷ 1 ∷ 0 ∷ 2 ∷ 3 ∷ 3 ∷ 0 ∷ 3 ∷ 30 ∷ 0 ∷ 0 ∷ [])
    ∷ calls (replicate 34 0) (guarded ++ (fire_after 1 one 3 1 10 ∷ replicate 6 (tick nine)))
    (guarded_lines ++ (yes 0 ∷ yes 0 ∷ yes 0 ∷ yes 2 ∷ yes 0 ∷ yes 0 ∷ yes 1 ∷ []))
    (guarded_lists ++ ([] ∷ nine ∷ nine ∷ (two ∷ 2 ∷ 20 ∷ one ∷ 1 ∷ 10 ∷ replicate 3 99) ∷ nine ∷ nine ∷ (two ∷ 2 ∷ 20 ∷ replicate 6 99) ∷ []))
    (3 ∷ 10 ∷ 0 ∷ 0 ∷ 0 ∷ 2 ∷ 0 ∷ 0 ∷ 0 ∷ 0 ∷ 2 ∷ 1 ∷ 3 ∷ 0 ∷ 1 ∷ 10 ∷ 0 ∷ 0 ∷ 6 ∷ 2 ∷ 3 ∷ 3 ∷ 2 ∷ 20 ∷ 0 ∷ 0 ∷ 2 ∷ 3 ∷ 3 ∷ 0 ∷ 3 ∷ 30 ∷ 0 ∷ 0 ∷ [])
    -- Every tick.
    ∷ calls (replicate 18 0) (lay_out 1 10 0 ∷ create 1 1 ∷ fire_every 1 one 1 7 70 ∷ tick three ∷ tick three ∷ []) (yes 0 ∷ yes one ∷ yes 0 ∷ yes 1 ∷ yes 1 ∷ [])
    (unlent 3 ++ ((one ∷ 7 ∷ 70 ∷ []) ∷ (one ∷ 7 ∷ 70 ∷ []) ∷ [])) (1 ∷ 10 ∷ 0 ∷ 0 ∷ 0 ∷ 1 ∷ 0 ∷ 0 ∷ 0 ∷ 0 ∷ 6 ∷ 1 ∷ 1 ∷ 1 ∷ 7 ∷ 70 ∷ 0 ∷ 0 ∷ [])
    -- Every 2 and every 3 ticks meet at the sixth, where the one that went back earlier is first.
    ∷ calls (replicate 26 0) (lay_out 2 10 0 ∷ create 1 1 ∷ create 1 2 ∷ fire_every 1 one 2 1 10 ∷ fire_every 1 two 3 2 20 ∷ replicate 6 (tick six))
    (yes 0 ∷ yes one ∷ yes two ∷ yes 0 ∷ yes 0 ∷ yes 0 ∷ yes 1 ∷ yes 1 ∷ yes 1 ∷ yes 0 ∷ yes 2 ∷ [])
    (unlent 5 ++ (six ∷ (one ∷ 1 ∷ 10 ∷ three) ∷ (two ∷ 2 ∷ 20 ∷ three) ∷ (one ∷ 1 ∷ 10 ∷ three) ∷ six ∷ (two ∷ 2 ∷ 20 ∷ one ∷ 1 ∷ 10 ∷ []) ∷ []))
    (2 ∷ 10 ∷ 0 ∷ 0 ∷ 0 ∷ 1 ∷ 0 ∷ 0 ∷ 0 ∷ 0 ∷ 6 ∷ 1 ∷ 2 ∷ 2 ∷ 1 ∷ 10 ∷ 2 ∷ 0 ∷ 6 ∷ 2 ∷ 3 ∷ 1 ∷ 2 ∷ 20 ∷ 0 ∷ 1 ∷ [])
    -- Soundness and ticks left read 6 as 4 and 7 as 2: the wait is 1 to the interval and the slot is in the chain; the interval is 1 or more, and
    -- wait and links are zero. Where the server is not initiated there is no kind 8.
    ∷ asked (one_slot 1 4 3 3) (yes 3) ∷ asked (one_slot 1 6 3 3) (yes 3)
    ∷ asked (one_slot 1 4 3 4) (no 100) ∷ asked (one_slot 1 6 3 4) (no 100)
    ∷ asked (one_slot 1 4 3 0) (no 100) ∷ asked (one_slot 1 6 3 0) (no 100)
    ∷ asked (one_slot 0 4 3 3) (no 100) ∷ asked (one_slot 0 6 3 3) (no 100)
    ∷ asked (one_slot 0 2 3 0) (yes 0) ∷ asked (one_slot 0 7 3 0) (yes 0)
    ∷ asked (one_slot 0 2 0 0) (no 100) ∷ asked (one_slot 0 7 0 0) (no 100)
    ∷ asked (one_slot 0 2 3 1) (no 100) ∷ asked (one_slot 0 7 3 1) (no 100)
    ∷ asked (one_slot 1 2 3 1) (no 100) ∷ asked (one_slot 1 7 3 1) (no 100)
    ∷ asked (one_slot 0 8 0 0) (no 100) ∷ asked (one_slot 0 8 3 0) (no 100)
    ∷ []

pub worked : map computed worked_cases ≡ worked_cases
unfolding months_of years valid seconds_of date_of header_sound slot_sound chain_sound ticks_sound dates_sound queue_sound sound status_on outcome
worked = refl

-- ---- the calls' numbers: document 01's list from 1 on, then document 02's, item 8

abbrev pub one_of_each : List Call
one_of_each =
    lay_out 1 10 0 ∷ create 1 1 ∷ ident 1 1 ∷ cancel 1 1 ∷ delete 1 1 ∷ fire_after 1 1 1 1 1 ∷ fire_when 1 1 (date 2000 1 1 0 0 0) 1 1 ∷ reset 1 1
    ∷ ticks_left 1 1 ∷ tick []
    ∷ set_clock (date 2000 1 1 0 0 0) [] ∷ get_clock ∷ fire_every 1 1 1 1 1 ∷ next_due ∷ initiate_server ∷ server_fire_after 1 1 1 1 1
    ∷ server_fire_when 1 1 (date 2000 1 1 0 0 0) 1 1
    ∷ serve 1 [] ∷ leap 1 [] ∷ []

pub numbered : map call_number one_of_each ≡ 1 ∷ 2 ∷ 3 ∷ 4 ∷ 5 ∷ 6 ∷ 7 ∷ 8 ∷ 9 ∷ 10 ∷ 11 ∷ 12 ∷ 13 ∷ 14 ∷ 15 ∷ 16 ∷ 17 ∷ 18 ∷ 19 ∷ []
numbered = refl

-- ---- the guard's nine ticks, table by table

abbrev tables : List ℕ → List Call → List (List ℕ)
tables t [] = []
tables t (c ∷ cs) = (outcome t c).table ∷ tables (outcome t c).table cs

-- with this first slot in the interval chain, and the three slots as they are
abbrev guarded_table : ℕ → List ℕ → List ℕ → List ℕ → List ℕ
guarded_table first a b c = 3 ∷ 10 ∷ 0 ∷ 0 ∷ 0 ∷ first ∷ 0 ∷ 0 ∷ 0 ∷ 0 ∷ a ++ b ++ c

-- a slot: kind, name, wait, next, previous; interval 3, routine the name, data ten times that
abbrev slot : ℕ → ℕ → ℕ → ℕ → ℕ → List ℕ
slot kind name wait next previous = kind ∷ name ∷ 3 ∷ wait ∷ name ∷ name * 10 ∷ next ∷ previous ∷ []

-- the tables after three starts, after three ticks, after the first timer's new start, and after six ticks more
pub guarded-tables : tables
    (after (replicate 34 0) (lay_out 3 10 0 ∷ create 1 1 ∷ create 1 2 ∷ create 1 3 ∷ fire_after 1 one 3 1 10 ∷ fire_every 1 two 3 2 20 ∷ []))
    (fire_after 1 0x12010003 3 3 30 ∷ replicate 3 (tick nine) ++ (fire_after 1 one 3 1 10 ∷ replicate 6 (tick nine)))
    ≡ guarded_table 1 (slot 4 1 3 2 0) (slot 6 2 0 3 1) (slot 4 3 0 0 2)
    ∷ guarded_table 1 (slot 4 1 2 2 0) (slot 6 2 0 3 1) (slot 4 3 0 0 2)
    ∷ guarded_table 1 (slot 4 1 1 2 0) (slot 6 2 0 3 1) (slot 4 3 0 0 2)
    ∷ guarded_table 2 (slot 2 1 0 0 0) (slot 6 2 3 0 0) (slot 2 3 0 0 0)
    ∷ guarded_table 2 (slot 4 1 0 0 2) (slot 6 2 3 1 0) (slot 2 3 0 0 0)
    ∷ guarded_table 2 (slot 4 1 0 0 2) (slot 6 2 2 1 0) (slot 2 3 0 0 0)
    ∷ guarded_table 2 (slot 4 1 0 0 2) (slot 6 2 1 1 0) (slot 2 3 0 0 0)
    ∷ guarded_table 2 (slot 2 1 0 0 0) (slot 6 2 3 0 0) (slot 2 3 0 0 0)
    ∷ guarded_table 2 (slot 2 1 0 0 0) (slot 6 2 2 0 0) (slot 2 3 0 0 0)
    ∷ guarded_table 2 (slot 2 1 0 0 0) (slot 6 2 1 0 0) (slot 2 3 0 0 0)
    ∷ guarded_table 2 (slot 2 1 0 0 0) (slot 6 2 3 0 0) (slot 2 3 0 0 0)
    ∷ []
unfolding header_sound slot_sound chain_sound ticks_sound dates_sound queue_sound sound status_on outcome
guarded-tables = refl
