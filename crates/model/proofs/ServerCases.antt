-- Document 02, item 5, the deferred server: cases for each of its sentences, computed from the definitions as the starred ones are. Assumes nothing.
use mathlib.Core.Path.{◌≡◌, refl}
use Prim.Native.Nat.{ℕ, ◌+◌, ◌*◌}
use mathlib.Core.List.{List, [], ◌∷◌, ◌++◌, map}
use lib.ListN.{replicate, set}
use Rattle.calendar.specs.declared.WallTime.{WallTime}
use Rattle.calendar.specs.Calendar.{months_of, years, valid, seconds_of}
use Rattle.model.specs.Lists.{keep}
use Rattle.model.specs.Calls.{Call, lay_out, create, cancel, delete, fire_after, fire_when, fire_every, reset, tick, set_clock, initiate_server, server_fire_after, server_fire_when, serve}
use Rattle.model.specs.State.{id_base}
use Rattle.model.specs.Sound.{header_sound, slot_sound, chain_sound, ticks_sound, dates_sound, queue_sound, sound}
use Rattle.model.specs.Outcome.{status_on, outcome, after}
use Rattle.model.proofs.Cases.{Case, calls, computed, lists, date, nine, unlent}
use Rattle.model.proofs.WorkedCases.{one, two, three, no, yes}

abbrev third : ℕ
third = 0x12010003

abbrev fourth : ℕ
fourth = 0x12010004

-- so many seconds into 2000
abbrev at : ℕ → WallTime
at s = date 2000 1 1 0 0 s

-- twelve words lent
abbrev twelve : List ℕ
twelve = replicate 12 99

-- the slot of a timer that was created
abbrev created : ℕ → List ℕ
created name = 1 ∷ name ∷ replicate 6 0

-- the server initiated: three timers created, the clock not set; four, and the first second of 2000, with a tick a second
abbrev ready : List ℕ
ready = 3 ∷ 10 ∷ replicate 6 0 ++ (1 ∷ 0 ∷ created 1 ++ created 2 ++ created 3)

abbrev clocked : List ℕ
clocked = 4 ∷ 1 ∷ 1 ∷ 378691200 ∷ 0 ∷ 0 ∷ 0 ∷ 0 ∷ 1 ∷ 0 ∷ created 1 ++ created 2 ++ created 3 ++ created 4

-- one waits for ticks and one for a date, by word 8
abbrev started : ℕ → List ℕ
started server =
    2 ∷ 10 ∷ 1 ∷ 378691200 ∷ 3 ∷ 1 ∷ 2 ∷ 0 ∷ server ∷ 0
    ∷ 4 ∷ 1 ∷ 5 ∷ 4 ∷ 7 ∷ 70 ∷ 0 ∷ 0
    ∷ 5 ∷ 2 ∷ 0 ∷ 378691209 ∷ 8 ∷ 80 ∷ 0 ∷ 0 ∷ []

-- two queued timers, and one that fired between them
abbrev queued_around : List ℕ
queued_around =
    3 ∷ 10 ∷ 0 ∷ 0 ∷ 0 ∷ 0 ∷ 0 ∷ 0 ∷ 1 ∷ 1
    ∷ 12 ∷ 1 ∷ 1 ∷ 0 ∷ 7 ∷ 70 ∷ 3 ∷ 0
    ∷ 2 ∷ 2 ∷ 1 ∷ 0 ∷ 8 ∷ 80 ∷ 0 ∷ 0
    ∷ 12 ∷ 3 ∷ 1 ∷ 0 ∷ 9 ∷ 90 ∷ 0 ∷ 1 ∷ []

-- one queued by interval, then one by date, where two fired
abbrev queued_both : List ℕ
queued_both =
    4 ∷ 1 ∷ 1 ∷ 378691201 ∷ 0 ∷ 0 ∷ 0 ∷ 0 ∷ 1 ∷ 3
    ∷ 13 ∷ 1 ∷ 0 ∷ 0 ∷ 7 ∷ 70 ∷ 0 ∷ 3
    ∷ 3 ∷ 2 ∷ 0 ∷ 0 ∷ 8 ∷ 80 ∷ 0 ∷ 0
    ∷ 12 ∷ 3 ∷ 1 ∷ 0 ∷ 9 ∷ 90 ∷ 1 ∷ 0
    ∷ 2 ∷ 4 ∷ 1 ∷ 0 ∷ 10 ∷ 100 ∷ 0 ∷ 0 ∷ []

-- three queued timers: 2, 3 and 1
abbrev queued_in_turn : List ℕ
queued_in_turn =
    3 ∷ 10 ∷ 0 ∷ 0 ∷ 0 ∷ 0 ∷ 0 ∷ 0 ∷ 1 ∷ 2
    ∷ 12 ∷ 1 ∷ 3 ∷ 0 ∷ 7 ∷ 70 ∷ 0 ∷ 3
    ∷ 12 ∷ 2 ∷ 1 ∷ 0 ∷ 8 ∷ 80 ∷ 3 ∷ 0
    ∷ 12 ∷ 3 ∷ 2 ∷ 0 ∷ 9 ∷ 90 ∷ 1 ∷ 2 ∷ []

abbrev pub server_cases : List Case
server_cases =
    -- Initiate a second time since the lay out is 14; word 8 is 1 once initiated.
    calls (replicate 34 0) (lay_out 3 10 0 ∷ create 1 1 ∷ create 1 2 ∷ create 1 3 ∷ initiate_server ∷ initiate_server ∷ [])
    (yes 0 ∷ yes one ∷ yes two ∷ yes third ∷ yes 0 ∷ no 14 ∷ []) (unlent 6) ready
    -- It changes word 8 alone: timers wait on, and the clock stays.
    ∷ calls (started 0) (initiate_server ∷ []) (yes 0 ∷ []) (unlent 1) (started 1)
    -- Lay out clears words 8 and 9; initiate is 0 again, and the queue is empty.
    ∷ calls queued_around (lay_out 3 10 0 ∷ []) (yes 0 ∷ []) (unlent 1) (3 ∷ 10 ∷ replicate 32 0)
    ∷ calls queued_around (lay_out 3 10 0 ∷ serve 1 three ∷ initiate_server ∷ initiate_server ∷ serve 1 three ∷ [])
    (yes 0 ∷ no 14 ∷ yes 0 ∷ no 14 ∷ yes 0 ∷ []) ([] ∷ three ∷ [] ∷ [] ∷ three ∷ []) (3 ∷ 10 ∷ replicate 6 0 ++ (1 ∷ replicate 25 0))
    -- Any of the others before it is 14, right after 101, and before 10, 9, 11, 20 and 4; so where nothing else is wrong, and where the clock is set.
    ∷ calls (1 ∷ 10 ∷ replicate 8 0 ++ created 1)
    (serve 1 (1 ∷ 2 ∷ []) ∷ serve 1 three ∷ server_fire_after 1 two 0 0 0 ∷ server_fire_after 1 one 1 7 70 ∷ server_fire_when 1 two (date 1989 2 29 0 0 0) 0 0
    ∷ set_clock (at 0) three ∷ server_fire_when 1 two (date 1989 2 29 0 0 0) 0 0 ∷ server_fire_when 1 one (at 1) 7 70 ∷ serve 1 three ∷ [])
    (no 101 ∷ no 14 ∷ no 14 ∷ no 14 ∷ no 14 ∷ yes 0 ∷ no 14 ∷ no 14 ∷ no 14 ∷ [])
    ((1 ∷ 2 ∷ []) ∷ three ∷ [] ∷ [] ∷ [] ∷ three ∷ [] ∷ [] ∷ three ∷ []) (1 ∷ 10 ∷ 1 ∷ 378691200 ∷ replicate 6 0 ++ created 1)
    -- And 100 is before 101 and 14, initiated or not.
    ∷ calls (1 ∷ 10 ∷ replicate 5 0 ++ (1 ∷ 0 ∷ 0 ∷ created 1)) (server_fire_after 1 two 0 0 0 ∷ server_fire_when 1 two (at 1) 0 0 ∷ serve 1 [] ∷ [])
    (no 100 ∷ no 100 ∷ no 100 ∷ []) (unlent 3) (1 ∷ 10 ∷ replicate 5 0 ++ (1 ∷ 0 ∷ 0 ∷ created 1))
    ∷ calls (1 ∷ 10 ∷ replicate 5 0 ++ (1 ∷ 1 ∷ 0 ∷ created 1)) (initiate_server ∷ serve 1 [] ∷ []) (no 100 ∷ no 100 ∷ []) (unlent 2)
    (1 ∷ 10 ∷ replicate 5 0 ++ (1 ∷ 1 ∷ 0 ∷ created 1))
    -- After that the two starts refuse as fire after and fire when do: 10, 9, 4; 11, 9, 20, 4, where 20 is the present second's too.
    ∷ calls (1 ∷ 10 ∷ replicate 6 0 ++ (1 ∷ 0 ∷ created 1))
    (server_fire_after 1 two 0 0 0 ∷ server_fire_after 1 two 1 0 0 ∷ server_fire_after 1 two 1 7 0 ∷ server_fire_when 1 two (date 1989 2 29 0 0 0) 0 0
    ∷ set_clock (at 0) three
    ∷ server_fire_when 1 two (date 1989 2 29 0 0 0) 0 0 ∷ server_fire_when 1 two (date 1989 2 29 0 0 0) 7 0 ∷ server_fire_when 1 two (at 0) 7 0
    ∷ server_fire_when 1 two (at 1) 7 0 ∷ server_fire_after 1 one 1 7 70 ∷ server_fire_when 1 one (at 1) 8 80 ∷ [])
    (no 10 ∷ no 9 ∷ no 4 ∷ no 11 ∷ yes 0 ∷ no 9 ∷ no 20 ∷ no 20 ∷ no 4 ∷ yes 0 ∷ yes 0 ∷ []) (unlent 4 ++ (three ∷ unlent 6))
    (1 ∷ 10 ∷ 1 ∷ 378691200 ∷ 0 ∷ 0 ∷ 1 ∷ 0 ∷ 1 ∷ 0 ∷ 11 ∷ 1 ∷ 0 ∷ 378691201 ∷ 8 ∷ 80 ∷ 0 ∷ 0 ∷ [])
    -- When due they go to the back of the queue, not into the fired list or its count: two in one tick, and one that fires between them.
    ∷ calls ready (server_fire_after 1 one 1 7 70 ∷ fire_after 1 two 1 8 80 ∷ server_fire_after 1 third 1 9 90 ∷ tick nine ∷ []) (yes 0 ∷ yes 0 ∷ yes 0 ∷ yes 1 ∷ [])
    (unlent 3 ++ ((two ∷ 8 ∷ 80 ∷ replicate 6 99) ∷ [])) queued_around
    -- Serve needs three words of list, else 101. It hands out the front's three words, leaves it idle and answers 1.
    ∷ calls queued_around (serve 1 (1 ∷ 2 ∷ []) ∷ []) (no 101 ∷ []) ((1 ∷ 2 ∷ []) ∷ []) queued_around
    ∷ calls queued_around (serve 1 three ∷ []) (yes 1 ∷ []) ((one ∷ 7 ∷ 70 ∷ []) ∷ [])
    (3 ∷ 10 ∷ 0 ∷ 0 ∷ 0 ∷ 0 ∷ 0 ∷ 0 ∷ 1 ∷ 3
    ∷ 8 ∷ 1 ∷ 1 ∷ 0 ∷ 7 ∷ 70 ∷ 0 ∷ 0
    ∷ 2 ∷ 2 ∷ 1 ∷ 0 ∷ 8 ∷ 80 ∷ 0 ∷ 0
    ∷ 12 ∷ 3 ∷ 1 ∷ 0 ∷ 9 ∷ 90 ∷ 0 ∷ 0 ∷ [])
    -- It answers 0 if the queue is empty: 1, 1, 0, 0, and words past the entry stay. With an empty queue no word changes, and 101 is still 101.
    ∷ calls queued_around (serve 1 three ∷ serve 1 nine ∷ serve 1 three ∷ serve 1 nine ∷ []) (yes 1 ∷ yes 1 ∷ yes 0 ∷ yes 0 ∷ [])
    ((one ∷ 7 ∷ 70 ∷ []) ∷ (third ∷ 9 ∷ 90 ∷ replicate 6 99) ∷ three ∷ nine ∷ [])
    (3 ∷ 10 ∷ 0 ∷ 0 ∷ 0 ∷ 0 ∷ 0 ∷ 0 ∷ 1 ∷ 0
    ∷ 8 ∷ 1 ∷ 1 ∷ 0 ∷ 7 ∷ 70 ∷ 0 ∷ 0
    ∷ 2 ∷ 2 ∷ 1 ∷ 0 ∷ 8 ∷ 80 ∷ 0 ∷ 0
    ∷ 8 ∷ 3 ∷ 1 ∷ 0 ∷ 9 ∷ 90 ∷ 0 ∷ 0 ∷ [])
    ∷ calls ready (serve 1 three ∷ serve 1 (1 ∷ 2 ∷ []) ∷ []) (yes 0 ∷ no 101 ∷ []) (three ∷ (1 ∷ 2 ∷ []) ∷ []) ready
    -- Interval ones are queued first and then dated ones, as others are listed, although the dated one was started earlier.
    ∷ calls clocked (server_fire_when 1 one (at 1) 7 70 ∷ fire_when 1 two (at 1) 8 80 ∷ server_fire_after 1 third 1 9 90 ∷ fire_after 1 fourth 1 10 100
    ∷ tick twelve ∷ [])
    (yes 0 ∷ yes 0 ∷ yes 0 ∷ yes 0 ∷ yes 2 ∷ []) (unlent 4 ++ ((fourth ∷ 10 ∷ 100 ∷ two ∷ 8 ∷ 80 ∷ replicate 6 99) ∷ [])) queued_both
    ∷ calls queued_both (serve 1 three ∷ serve 1 three ∷ serve 1 three ∷ []) (yes 1 ∷ yes 1 ∷ yes 0 ∷ [])
    ((third ∷ 9 ∷ 90 ∷ []) ∷ (one ∷ 7 ∷ 70 ∷ []) ∷ three ∷ [])
    (4 ∷ 1 ∷ 1 ∷ 378691201 ∷ 0 ∷ 0 ∷ 0 ∷ 0 ∷ 1 ∷ 0
    ∷ 9 ∷ 1 ∷ 0 ∷ 0 ∷ 7 ∷ 70 ∷ 0 ∷ 0
    ∷ 3 ∷ 2 ∷ 0 ∷ 0 ∷ 8 ∷ 80 ∷ 0 ∷ 0
    ∷ 8 ∷ 3 ∷ 1 ∷ 0 ∷ 9 ∷ 90 ∷ 0 ∷ 0
    ∷ 2 ∷ 4 ∷ 1 ∷ 0 ∷ 10 ∷ 100 ∷ 0 ∷ 0 ∷ [])
    -- Set clock queues dated server timers, by their dates, and lists another; the interval one waits on.
    ∷ calls clocked
    (server_fire_when 1 one (at 6) 7 70 ∷ fire_when 1 two (at 5) 8 80 ∷ server_fire_when 1 third (at 5) 9 90 ∷ server_fire_after 1 fourth 1 10 100
    ∷ set_clock (at 6) twelve ∷ [])
    (yes 0 ∷ yes 0 ∷ yes 0 ∷ yes 0 ∷ yes 1 ∷ []) (unlent 4 ++ ((two ∷ 8 ∷ 80 ∷ replicate 9 99) ∷ []))
    (4 ∷ 1 ∷ 1 ∷ 378691206 ∷ 0 ∷ 4 ∷ 0 ∷ 0 ∷ 1 ∷ 3
    ∷ 13 ∷ 1 ∷ 0 ∷ 0 ∷ 7 ∷ 70 ∷ 0 ∷ 3
    ∷ 3 ∷ 2 ∷ 0 ∷ 0 ∷ 8 ∷ 80 ∷ 0 ∷ 0
    ∷ 13 ∷ 3 ∷ 0 ∷ 0 ∷ 9 ∷ 90 ∷ 1 ∷ 0
    ∷ 10 ∷ 4 ∷ 1 ∷ 1 ∷ 10 ∷ 100 ∷ 0 ∷ 0 ∷ [])
    -- Beside periodic timers: those are listed and go back, tick after tick, and the server timer is queued once and stays there.
    ∷ calls ready (fire_every 1 one 2 7 70 ∷ server_fire_after 1 two 2 8 80 ∷ fire_every 1 third 1 9 90 ∷ tick nine ∷ tick nine ∷ tick nine ∷ tick nine ∷ [])
    (yes 0 ∷ yes 0 ∷ yes 0 ∷ yes 1 ∷ yes 2 ∷ yes 1 ∷ yes 2 ∷ [])
    (unlent 3 ++ ((third ∷ 9 ∷ 90 ∷ replicate 6 99) ∷ (one ∷ 7 ∷ 70 ∷ third ∷ 9 ∷ 90 ∷ replicate 3 99) ∷ (third ∷ 9 ∷ 90 ∷ replicate 6 99)
    ∷ (one ∷ 7 ∷ 70 ∷ third ∷ 9 ∷ 90 ∷ replicate 3 99) ∷ []))
    (3 ∷ 10 ∷ 0 ∷ 0 ∷ 0 ∷ 3 ∷ 0 ∷ 0 ∷ 1 ∷ 2
    ∷ 6 ∷ 1 ∷ 2 ∷ 1 ∷ 7 ∷ 70 ∷ 0 ∷ 3
    ∷ 12 ∷ 2 ∷ 2 ∷ 0 ∷ 8 ∷ 80 ∷ 0 ∷ 0
    ∷ 6 ∷ 3 ∷ 1 ∷ 1 ∷ 9 ∷ 90 ∷ 1 ∷ 0 ∷ [])
    -- To the back: in the order of the ticks, 2, 3 and 1. The first of them is started again, and is the last when it is due.
    ∷ calls ready (server_fire_after 1 one 3 7 70 ∷ server_fire_after 1 two 1 8 80 ∷ server_fire_after 1 third 2 9 90 ∷ tick nine ∷ tick nine ∷ tick nine ∷ [])
    (yes 0 ∷ yes 0 ∷ yes 0 ∷ yes 0 ∷ yes 0 ∷ yes 0 ∷ []) (unlent 3 ++ (nine ∷ nine ∷ nine ∷ [])) queued_in_turn
    ∷ calls queued_in_turn (server_fire_after 1 two 1 8 81 ∷ tick nine ∷ tick nine ∷ serve 1 three ∷ serve 1 three ∷ serve 1 three ∷ serve 1 three ∷ [])
    (yes 0 ∷ yes 0 ∷ yes 0 ∷ yes 1 ∷ yes 1 ∷ yes 1 ∷ yes 0 ∷ [])
    ([] ∷ nine ∷ nine ∷ (third ∷ 9 ∷ 90 ∷ []) ∷ (one ∷ 7 ∷ 70 ∷ []) ∷ (two ∷ 8 ∷ 81 ∷ []) ∷ three ∷ [])
    (3 ∷ 10 ∷ 0 ∷ 0 ∷ 0 ∷ 0 ∷ 0 ∷ 0 ∷ 1 ∷ 0
    ∷ 8 ∷ 1 ∷ 3 ∷ 0 ∷ 7 ∷ 70 ∷ 0 ∷ 0
    ∷ 8 ∷ 2 ∷ 1 ∷ 0 ∷ 8 ∷ 81 ∷ 0 ∷ 0
    ∷ 8 ∷ 3 ∷ 2 ∷ 0 ∷ 9 ∷ 90 ∷ 0 ∷ 0 ∷ [])
    ∷ []

pub served : map computed server_cases ≡ server_cases
unfolding months_of years valid seconds_of header_sound slot_sound chain_sound ticks_sound dates_sound queue_sound sound status_on outcome
served = refl

-- ---- cancel, reset, start and delete take a queued timer off

-- A call on a table: its status, the words after it, and the lists that three serves then leave.
pub data Taken : Type 0 where
  taken : List ℕ → Call → ℕ → List ℕ → List (List ℕ) → Taken

abbrev pub tried : Taken → Taken
tried (taken t c status after handed) = taken t c (outcome t c).status (outcome t c).table (lists (outcome t c).table (replicate 3 (serve 1 three)))

-- three timers at 2000-01-01 00:00:01 and 3 ticks, with these first slots in the chains and in the queue
abbrev held : ℕ → ℕ → ℕ → List ℕ → List ℕ → List ℕ → List ℕ
held ticking dated front a b c = 3 ∷ 10 ∷ 1 ∷ 378691201 ∷ 3 ∷ ticking ∷ dated ∷ 0 ∷ 1 ∷ front ∷ a ++ b ++ c

-- a slot by its kind, name, interval, wait, next and previous; the words that a serve of slot i hands out
abbrev slot : ℕ → ℕ → ℕ → ℕ → ℕ → ℕ → List ℕ
slot kind name interval wait next previous = kind ∷ name ∷ interval ∷ wait ∷ 10 * name ∷ 100 * name ∷ next ∷ previous ∷ []

abbrev handed : ℕ → List ℕ
handed i = (id_base + i) ∷ 10 * i ∷ 100 * i ∷ []

-- the queue is 2, 3 and 1: by interval, by date, by interval; without its front, its middle and its end
abbrev mixed : List ℕ
mixed = held 0 0 2 (slot 12 1 5 0 0 3) (slot 12 2 6 0 3 0) (slot 13 3 0 0 1 2)

abbrev no_front : ℕ → ℕ → List ℕ → List ℕ
no_front ticking dated x = held ticking dated 3 (slot 12 1 5 0 0 3) x (slot 13 3 0 0 1 0)

abbrev no_middle : ℕ → ℕ → List ℕ → List ℕ
no_middle ticking dated x = held ticking dated 2 (slot 12 1 5 0 0 2) (slot 12 2 6 0 1 0) x

abbrev no_end : ℕ → ℕ → List ℕ → List ℕ
no_end ticking dated x = held ticking dated 2 x (slot 12 2 6 0 3 0) (slot 13 3 0 0 0 2)

-- the same by date, by interval, by date
abbrev crossed : List ℕ
crossed = held 0 0 2 (slot 13 1 0 0 0 3) (slot 13 2 0 0 3 0) (slot 12 3 6 0 1 2)

abbrev all_three : List (List ℕ)
all_three = handed 2 ∷ handed 3 ∷ handed 1 ∷ []

-- delete of slot i, and a new start of it in each of the five modes, which is then alone in its chain
abbrev anew : ℕ → ℕ → ℕ → ℕ → List ℕ
anew kind name interval wait = kind ∷ name ∷ interval ∷ wait ∷ 7 ∷ 70 ∷ 0 ∷ 0 ∷ []

abbrev taken_at : ℕ → (ℕ → ℕ → List ℕ → List ℕ) → List (List ℕ) → List Taken
taken_at i rest serves =
    taken mixed (delete 1 (id_base + i)) 0 (rest 0 0 (replicate 8 0)) serves
    ∷ taken mixed (fire_after 1 (id_base + i) 4 7 70) 0 (rest i 0 (anew 4 i 4 4)) serves
    ∷ taken mixed (fire_when 1 (id_base + i) (at 9) 7 70) 0 (rest 0 i (anew 5 i 0 378691209)) serves
    ∷ taken mixed (fire_every 1 (id_base + i) 4 7 70) 0 (rest i 0 (anew 6 i 4 4)) serves
    ∷ taken mixed (server_fire_after 1 (id_base + i) 4 7 70) 0 (rest i 0 (anew 10 i 4 4)) serves
    ∷ taken mixed (server_fire_when 1 (id_base + i) (at 9) 7 70) 0 (rest 0 i (anew 11 i 0 378691209)) serves
    ∷ []

abbrev pub taken_cases : List Taken
taken_cases =
    -- Delete and each start, at the front, in the middle and at the end: the others keep their order.
    taken_at 2 no_front (handed 3 ∷ handed 1 ∷ three ∷ []) ++ taken_at 3 no_middle (handed 2 ∷ handed 1 ∷ three ∷ [])
    ++ taken_at 1 no_end (handed 2 ∷ handed 3 ∷ three ∷ [])
    -- Cancel leaves it idle: 12 becomes 8, 13 becomes 9.
    ++ taken mixed (cancel 1 two) 0 (no_front 0 0 (slot 8 2 6 0 0 0)) (handed 3 ∷ handed 1 ∷ three ∷ [])
    ∷ taken mixed (cancel 1 third) 0 (no_middle 0 0 (slot 9 3 0 0 0 0)) (handed 2 ∷ handed 1 ∷ three ∷ [])
    ∷ taken mixed (cancel 1 one) 0 (no_end 0 0 (slot 8 1 5 0 0 0)) (handed 2 ∷ handed 3 ∷ three ∷ [])
    -- Reset takes 12 and starts it again as a server timer, with its interval; it gives 11 for 13, which stays queued.
    ∷ taken mixed (reset 1 two) 0 (no_front 2 0 (slot 10 2 6 6 0 0)) (handed 3 ∷ handed 1 ∷ three ∷ [])
    ∷ taken mixed (reset 1 third) 11 mixed all_three
    ∷ taken mixed (reset 1 one) 0 (no_end 1 0 (slot 10 1 5 5 0 0)) (handed 2 ∷ handed 3 ∷ three ∷ [])
    -- The same where 12 is in the middle and 13 at both ends.
    ∷ taken crossed (cancel 1 two) 0 (held 0 0 3 (slot 13 1 0 0 0 3) (slot 9 2 0 0 0 0) (slot 12 3 6 0 1 0)) (handed 3 ∷ handed 1 ∷ three ∷ [])
    ∷ taken crossed (cancel 1 third) 0 (held 0 0 2 (slot 13 1 0 0 0 2) (slot 13 2 0 0 1 0) (slot 8 3 6 0 0 0)) (handed 2 ∷ handed 1 ∷ three ∷ [])
    ∷ taken crossed (cancel 1 one) 0 (held 0 0 2 (slot 9 1 0 0 0 0) (slot 13 2 0 0 3 0) (slot 12 3 6 0 0 2)) (handed 2 ∷ handed 3 ∷ three ∷ [])
    ∷ taken crossed (reset 1 two) 11 crossed all_three
    ∷ taken crossed (reset 1 third) 0 (held 3 0 2 (slot 13 1 0 0 0 2) (slot 13 2 0 0 1 0) (slot 10 3 6 6 0 0)) (handed 2 ∷ handed 1 ∷ three ∷ [])
    ∷ taken crossed (reset 1 one) 11 crossed all_three
    -- A refused call leaves it queued.
    ∷ taken mixed (server_fire_after 1 two 0 7 70) 10 mixed all_three ∷ taken mixed (fire_after 1 third 1 0 70) 9 mixed all_three
    ∷ taken mixed (server_fire_when 1 one (at 1) 7 70) 20 mixed all_three ∷ taken mixed (delete 1 fourth) 4 mixed all_three
    ∷ []

pub taken-off : map tried taken_cases ≡ taken_cases
unfolding months_of years valid seconds_of header_sound slot_sound chain_sound ticks_sound dates_sound queue_sound sound status_on outcome
taken-off = refl

-- ---- the queue's links

-- The queue 2, 3, 1 is sound with word 9, and each next and previous, as they are, and with no other number up to 4.
abbrev sound_with : ℕ → List ℕ
sound_with i = keep (λ v. sound (set mixed i v)) (0 ∷ 1 ∷ 2 ∷ 3 ∷ 4 ∷ [])

pub only-these-links : map sound_with (9 ∷ 16 ∷ 17 ∷ 24 ∷ 25 ∷ 32 ∷ 33 ∷ []) ≡ (2 ∷ []) ∷ (0 ∷ []) ∷ (3 ∷ []) ∷ (3 ∷ []) ∷ (0 ∷ []) ∷ (1 ∷ []) ∷ (2 ∷ []) ∷ []
unfolding header_sound slot_sound chain_sound ticks_sound dates_sound queue_sound sound
only-these-links = refl
