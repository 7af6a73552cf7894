-- Two parties on one table, both sides of each edge, computed from the definitions as the starred cases are: L of 0, 1, N - 1 and N; slots L and L + 1;
-- the party numbers 0 to 3; the place of 4 among the other statuses; the other's timers ahead in the queue. Assumes nothing.
use mathlib.Core.Path.{◌≡◌, refl, sym, ap, subst}
use Prim.Native.Nat.{ℕ, zero, suc, ◌+◌}
use mathlib.Core.Bool.{Bool, true, false, not}
use mathlib.Core.List.{List, [], ◌∷◌, ◌++◌, map}
use lib.ListN.{replicate, get_or, set, drop}
use lib.Dec.{eqb}
use Rattle.calendar.specs.Calendar.{months_of, years, valid, seconds_of}
use Rattle.model.specs.Lists.{keep}
use Rattle.model.specs.Status.{when, first_of, NotSound}
use Rattle.model.specs.Calls.{Call, lay_out, create, ident, cancel, delete, fire_after, fire_when, fire_every, reset, ticks_left, tick, set_clock, get_clock, next_due, initiate_server, server_fire_after, server_fire_when, serve, leap}
use Rattle.model.specs.Parties.{owner_of, is_party}
use Rattle.model.specs.State.{id_base}
use Rattle.model.specs.Words.{read}
use Rattle.model.specs.Directives.{refusals}
use Rattle.model.specs.Sound.{header_sound, slot_sound, chain_sound, ticks_sound, dates_sound, queue_sound, sound}
use Rattle.model.specs.Outcome.{status_on, outcome}
use Rattle.model.proofs.Cases.{Case, calls, computed, date, unlent}
use Rattle.model.proofs.WorkedCases.{one, two, three, no, yes}
use Rattle.model.proofs.EveryKind.{every_kind}

abbrev third : ℕ
third = 0x12010003

abbrev fourth : ℕ
fourth = 0x12010004

-- n numbers from i on
abbrev from : ℕ → ℕ → List ℕ
from i zero = []
from i (suc n) = i ∷ from (suc i) n

-- ---- whose slots

-- Where L is 0 all slots are party 1's; else 1 to L, and party 2 has the rest. The party numbers are 1, and 2 where L is not 0.
pub owners : map (λ split. map (owner_of split) (from 1 4)) (0 ∷ 1 ∷ 2 ∷ 3 ∷ [])
    ≡ (1 ∷ 1 ∷ 1 ∷ 1 ∷ []) ∷ (1 ∷ 2 ∷ 2 ∷ 2 ∷ []) ∷ (1 ∷ 1 ∷ 2 ∷ 2 ∷ []) ∷ (1 ∷ 1 ∷ 1 ∷ 2 ∷ []) ∷ []
owners = refl

pub parties : map (λ split. keep (is_party split) (from 0 5)) (0 ∷ 1 ∷ 3 ∷ []) ≡ (1 ∷ []) ∷ (1 ∷ 2 ∷ []) ∷ (1 ∷ 2 ∷ []) ∷ []
parties = refl

pub no-parties : map (λ split. keep (is_party split) (255 ∷ 256 ∷ 257 ∷ 258 ∷ 65537 ∷ 65538 ∷ 4294967295 ∷ [])) (0 ∷ 1 ∷ 254 ∷ []) ≡ [] ∷ [] ∷ [] ∷ []
no-parties = refl

-- ---- every call that takes an id, at every slot, for the parties 0 to 3

-- the table with every kind, slot k of kind k and slot 14 free, where L is not 0
abbrev shared : ℕ → List ℕ
shared split = set every_kind 7 split

pub shared-sound : map (λ split. sound (shared split)) (0 ∷ 1 ∷ 6 ∷ 13 ∷ []) ≡ true ∷ true ∷ true ∷ true ∷ []
unfolding header_sound slot_sound chain_sound ticks_sound dates_sound queue_sound sound
shared-sound = refl

-- Word 7 is N, more than that, or the largest number: not sound.
pub not-shared : map (λ split. sound (shared split)) (14 ∷ 15 ∷ 4294967295 ∷ []) ≡ false ∷ false ∷ false ∷ []
unfolding header_sound slot_sound chain_sound ticks_sound dates_sound queue_sound sound
not-shared = refl

abbrev id_calls : List (ℕ → ℕ → Call)
id_calls =
    cancel ∷ delete ∷ reset ∷ ticks_left
    ∷ (λ party id. fire_after party id 2 7 70) ∷ (λ party id. fire_when party id (date 2000 1 1 0 0 9) 7 70) ∷ (λ party id. fire_every party id 2 7 70)
    ∷ (λ party id. server_fire_after party id 2 7 70) ∷ (λ party id. server_fire_when party id (date 2000 1 1 0 0 9) 7 70) ∷ []

-- the status of a call where it is given whether the table is sound, so that this is computed once
abbrev status_if : ℕ → Bool → Call → ℕ
status_if split b c = first_of (when NotSound (not b) ∷ drop 1 (refusals (shared split) (read (shared split)) c))

-- the statuses of a call of the party at the slots 0 to 15
abbrev at_slots : (Call → ℕ) → ℕ → (ℕ → ℕ → Call) → List ℕ
at_slots status party c = map (λ i. status (c party (id_base + i))) (from 0 16)

-- L is 6: party 1's calls at its slots 1 to 6, where they do what they do on a table of one party, and 4 at the others; party 2's at 7 to 13, of which 14
-- is free; and those of the numbers 0 and 3, which are 4 everywhere.
abbrev low : List (List ℕ)
low = map (λ statuses. 4 ∷ statuses ++ replicate 9 4)
    ((14 ∷ 14 ∷ 14 ∷ 0 ∷ 0 ∷ 0 ∷ []) ∷ replicate 6 0 ∷ (11 ∷ 0 ∷ 11 ∷ 0 ∷ 11 ∷ 0 ∷ []) ∷ replicate 6 (replicate 6 0))

abbrev high : List (List ℕ)
high = map (λ statuses. replicate 7 4 ++ statuses ++ (4 ∷ 4 ∷ []))
    ((14 ∷ 14 ∷ 14 ∷ 0 ∷ 0 ∷ 0 ∷ 0 ∷ []) ∷ replicate 7 0 ∷ (0 ∷ 0 ∷ 11 ∷ 0 ∷ 11 ∷ 0 ∷ 11 ∷ []) ∷ replicate 6 (replicate 7 0))

abbrev nowhere : List ℕ
nowhere = replicate 16 4

own-if-sound : map (λ party. map (at_slots (status_if 6 true) party) id_calls) (1 ∷ 2 ∷ 0 ∷ 3 ∷ [])
    ≡ low ∷ high ∷ replicate 9 nowhere ∷ replicate 9 nowhere ∷ []
unfolding months_of years valid seconds_of
own-if-sound = refl

pub at-own-slots : map (λ party. map (at_slots (status_on (shared 6)) party) id_calls) (1 ∷ 2 ∷ 0 ∷ 3 ∷ [])
    ≡ low ∷ high ∷ replicate 9 nowhere ∷ replicate 9 nowhere ∷ []
unfolding status_on
at-own-slots =
    subst (λ (b : Bool). map (λ party. map (at_slots (status_if 6 b) party) id_calls) (1 ∷ 2 ∷ 0 ∷ 3 ∷ [])
    ≡ low ∷ high ∷ replicate 9 nowhere ∷ replicate 9 nowhere ∷ [])
    (sym is-sound) own-if-sound
  where
    is-sound : sound (shared 6) ≡ true
    is-sound = ap (λ (l : List Bool). get_or l 2 false) shared-sound

-- L is 0, 1 and N - 1: the slots whose timers the parties 0 to 3 may name. Party 1's are up to slot L, party 2's from L + 1 on; where L is 0 party 2 is
-- none. (Slot 14 is free.)
abbrev named : (Call → ℕ) → List (List ℕ)
named status = map (λ party. keep (λ i. eqb (status (ticks_left party (id_base + i))) 0) (from 0 16)) (0 ∷ 1 ∷ 2 ∷ 3 ∷ [])

abbrev named_if : Bool → Bool → Bool → List (List (List ℕ))
named_if a b c = named (status_if 0 a) ∷ named (status_if 1 b) ∷ named (status_if 13 c) ∷ []

abbrev named_at_edges : List (List (List ℕ))
named_at_edges = ([] ∷ from 1 13 ∷ [] ∷ [] ∷ []) ∷ ([] ∷ (1 ∷ []) ∷ from 2 12 ∷ [] ∷ []) ∷ ([] ∷ from 1 13 ∷ [] ∷ [] ∷ []) ∷ []

edges-if-sound : named_if true true true ≡ named_at_edges
edges-if-sound = refl

pub at-edges : map (λ split. named (status_on (shared split))) (0 ∷ 1 ∷ 13 ∷ []) ≡ named_at_edges
unfolding status_on
at-edges =
    subst (λ (a : Bool). named_if a (sound (shared 1)) (sound (shared 13)) ≡ named_at_edges) (sym (sound-at 0))
    (subst (λ (b : Bool). named_if true b (sound (shared 13)) ≡ named_at_edges) (sym (sound-at 1))
    (subst (λ (c : Bool). named_if true true c ≡ named_at_edges) (sym (sound-at 3)) edges-if-sound))
  where
    sound-at : (k : ℕ) → get_or (map (λ split. sound (shared split)) (0 ∷ 1 ∷ 6 ∷ 13 ∷ [])) k false ≡ get_or (true ∷ true ∷ true ∷ true ∷ []) k false
    sound-at k = ap (λ (l : List Bool). get_or l k false) shared-sound

-- ---- lay out, create, ident, the place of 4, serve

-- a table of four slots for T 10, with L and these words from word 8 on
abbrev four : ℕ → List ℕ → List ℕ
four split words = 4 ∷ 10 ∷ 0 ∷ 0 ∷ 0 ∷ 0 ∷ 0 ∷ split ∷ words

-- the same where L is 1, and the clock is set to 1988-01-01 00:00:00
abbrev four_at_zero : List ℕ → List ℕ
four_at_zero words = 4 ∷ 10 ∷ 1 ∷ 0 ∷ 0 ∷ 0 ∷ 0 ∷ 1 ∷ words

abbrev free : List ℕ
free = replicate 8 0

abbrev created : ℕ → List ℕ
created name = 1 ∷ name ∷ replicate 6 0

-- a slot that is queued, and one that was served
abbrev queued : ℕ → ℕ → ℕ → List ℕ
queued name next previous = 12 ∷ name ∷ 1 ∷ 0 ∷ 7 ∷ name ∷ next ∷ previous ∷ []

abbrev idle : ℕ → List ℕ
idle name = 8 ∷ name ∷ 1 ∷ 0 ∷ 7 ∷ name ∷ 0 ∷ 0 ∷ []

-- L is 2, and the queue is 1, 3, 2, 4
abbrev turns : List ℕ
turns = four 2 (1 ∷ 1 ∷ queued 1 3 0 ++ queued 2 4 3 ++ queued 3 2 1 ++ queued 4 0 2)

abbrev entry_of : ℕ → List ℕ
entry_of i = (id_base + i) ∷ 7 ∷ i ∷ []

abbrev pub party_cases : List Case
party_cases =
    -- Lay out with L from 0 to N - 1; 10 where L is N or more, before 8. L is in word 7.
    calls (replicate 42 5) (lay_out 4 10 0 ∷ lay_out 4 10 4 ∷ lay_out 4 10 5 ∷ lay_out 4 10 4294967295 ∷ lay_out 1 10 1 ∷ lay_out 5 10 5 ∷ lay_out 5 10 4 ∷ [])
    (yes 0 ∷ no 10 ∷ no 10 ∷ no 10 ∷ no 10 ∷ no 10 ∷ no 8 ∷ []) (unlent 7) (four 0 (replicate 34 0))
    ∷ calls (replicate 42 5) (lay_out 4 10 3 ∷ lay_out 1 10 0 ∷ lay_out 4 10 1 ∷ []) (yes 0 ∷ yes 0 ∷ yes 0 ∷ []) (unlent 3) (four 1 (replicate 34 0))
    -- A later lay out sets L anew, 0 too.
    ∷ calls (four 1 (replicate 34 0)) (lay_out 4 10 0 ∷ []) (yes 0 ∷ []) (unlent 1) (four 0 (replicate 34 0))
    -- Create takes the caller's lowest free slot, and is 5 where it has none, whatever the other has. L is 1: slot 1, and slots 2 to 4.
    ∷ calls (four 1 (replicate 34 0))
    (create 2 7 ∷ create 1 8 ∷ create 1 9 ∷ create 2 9 ∷ create 2 9 ∷ create 2 9 ∷ delete 1 one ∷ create 2 9 ∷ create 1 7 ∷ [])
    (yes two ∷ yes one ∷ no 5 ∷ yes third ∷ yes fourth ∷ no 5 ∷ yes 0 ∷ no 5 ∷ yes one ∷ []) (unlent 9)
    (four 1 (0 ∷ 0 ∷ created 7 ++ created 7 ++ created 9 ++ created 9))
    -- L is 3: slots 1 to 3, and slot 4.
    ∷ calls (four 3 (replicate 34 0)) (create 2 7 ∷ create 2 7 ∷ create 1 7 ∷ create 1 7 ∷ create 1 7 ∷ create 1 7 ∷ [])
    (yes fourth ∷ no 5 ∷ yes one ∷ yes two ∷ yes third ∷ no 5 ∷ []) (unlent 6) (four 3 (0 ∷ 0 ∷ created 7 ++ created 7 ++ created 7 ++ created 7))
    -- L is 0: all are party 1's.
    ∷ calls (four 0 (replicate 34 0)) (create 1 7 ∷ create 1 7 ∷ create 1 7 ∷ create 2 7 ∷ create 1 7 ∷ create 1 7 ∷ [])
    (yes one ∷ yes two ∷ yes third ∷ no 4 ∷ yes fourth ∷ no 5 ∷ []) (unlent 6) (four 0 (0 ∷ 0 ∷ created 7 ++ created 7 ++ created 7 ++ created 7))
    -- Ident finds the caller's lowest slot with the name, and not the other's: 3.
    ∷ calls (four 2 (0 ∷ 0 ∷ created 7 ++ created 8 ++ created 8 ++ created 9)) (ident 1 7 ∷ ident 2 7 ∷ ident 1 8 ∷ ident 2 8 ∷ ident 1 9 ∷ ident 2 9 ∷ [])
    (yes one ∷ no 3 ∷ yes two ∷ yes third ∷ no 3 ∷ yes fourth ∷ []) (unlent 6) (four 2 (0 ∷ 0 ∷ created 7 ++ created 8 ++ created 8 ++ created 9))
    -- A number that is no party's is 4 before 14, 3, 10, 9, 11 and 20, and after 101, in every call of a party; here 3, and 2 where L is 0.
    ∷ calls (four 1 (0 ∷ 0 ∷ replicate 32 0))
    (create 3 0 ∷ ident 3 0 ∷ cancel 3 one ∷ delete 3 one ∷ fire_after 3 one 0 0 0 ∷ fire_when 3 one (date 1989 2 29 0 0 0) 0 0
    ∷ fire_every 3 one 0 0 0 ∷ reset 3 one ∷ ticks_left 3 one ∷ server_fire_after 3 one 0 0 0 ∷ server_fire_when 3 one (date 1989 2 29 0 0 0) 0 0 ∷ serve 3 (1 ∷ 2
    ∷ []) ∷ serve 3 three ∷ serve 0 three
    ∷ [])
    (replicate 11 (no 4) ++ (no 101 ∷ no 4 ∷ no 4 ∷ [])) (unlent 11 ++ ((1 ∷ 2 ∷ []) ∷ three ∷ three ∷ [])) (four 1 (0 ∷ 0 ∷ replicate 32 0))
    ∷ calls (four 0 (0 ∷ 0 ∷ replicate 32 0))
    (create 2 0 ∷ ident 2 0 ∷ cancel 2 one ∷ delete 2 one ∷ fire_after 2 one 0 0 0 ∷ fire_when 2 one (date 1989 2 29 0 0 0) 0 0
    ∷ fire_every 2 one 0 0 0 ∷ reset 2 one ∷ ticks_left 2 one ∷ server_fire_after 2 one 0 0 0 ∷ server_fire_when 2 one (date 1989 2 29 0 0 0) 0 0 ∷ serve 2 (1 ∷ 2
    ∷ []) ∷ serve 2 three ∷ [])
    (replicate 11 (no 4) ++ (no 101 ∷ no 4 ∷ [])) (unlent 11 ++ ((1 ∷ 2 ∷ []) ∷ three ∷ [])) (four 0 (0 ∷ 0 ∷ replicate 32 0))
    -- An id outside the caller's slots is 4 in its usual place: after 14, 10 and 9, 11, 9 and 20; before reset's 11 and cancel's 14.
    ∷ calls (four 1 (0 ∷ 0 ∷ free ++ created 7 ++ free ++ free))
    (server_fire_after 1 two 0 0 0 ∷ server_fire_when 1 two (date 1989 2 29 0 0 0) 0 0 ∷ initiate_server ∷ server_fire_after 1 two 0 0 0 ∷ server_fire_after 1 two 1 0 0
    ∷ server_fire_after 1 two 1 7 0 ∷ fire_after 1 two 0 0 0 ∷ fire_after 1 two 1 0 0 ∷ fire_after 1 two 1 7 0 ∷ fire_every 1 two 1 0 0 ∷ fire_every 1 two 1 7 0
    ∷ fire_when 1 two (date 1989 2 29 0 0 0) 0 0 ∷ reset 1 two ∷ reset 2 two ∷ cancel 1 two ∷ cancel 2 two ∷ delete 1 two ∷ ticks_left 1 two ∷ ticks_left 2 two
    ∷ [])
    (no 14 ∷ no 14 ∷ yes 0 ∷ no 10 ∷ no 9 ∷ no 4 ∷ no 10 ∷ no 9 ∷ no 4 ∷ no 9 ∷ no 4 ∷ no 11 ∷ no 4 ∷ no 11 ∷ no 4 ∷ no 14 ∷ no 4 ∷ no 4 ∷ yes 0 ∷ [])
    (unlent 19) (four 1 (1 ∷ 0 ∷ free ++ created 7 ++ free ++ free))
    -- For a date, where the clock is set: after 9 and 20, of no date and of one that is not ahead.
    ∷ calls (four_at_zero (1 ∷ 0 ∷ free ++ created 7 ++ free ++ free))
    (fire_when 1 two (date 1989 2 29 0 0 0) 0 0 ∷ fire_when 1 two (date 1989 2 29 0 0 0) 7 0 ∷ fire_when 1 two (date 1988 1 1 0 0 0) 7 0
    ∷ fire_when 1 two (date 1988 1 1 0 0 1) 7 0 ∷ server_fire_when 1 two (date 1989 2 29 0 0 0) 0 0 ∷ server_fire_when 1 two (date 1989 2 29 0 0 0) 7 0
    ∷ server_fire_when 1 two (date 1988 1 1 0 0 0) 7 0 ∷ server_fire_when 1 two (date 1988 1 1 0 0 1) 7 0 ∷ [])
    (no 9 ∷ no 20 ∷ no 20 ∷ no 4 ∷ no 9 ∷ no 20 ∷ no 20 ∷ no 4 ∷ []) (unlent 8) (four_at_zero (1 ∷ 0 ∷ free ++ created 7 ++ free ++ free))
    -- Word 7 is N: 100 before 101, 4, 10, 11 and 20, in every call but lay out and next due.
    ∷ calls (four 4 (replicate 34 0))
    (create 3 0 ∷ ident 2 0 ∷ cancel 3 one ∷ delete 3 one ∷ fire_after 3 one 0 0 0 ∷ fire_every 3 one 0 0 0 ∷ reset 3 one
    ∷ ticks_left 3 one ∷ server_fire_after 3 one 0 0 0 ∷ serve 3 [] ∷ tick [] ∷ initiate_server ∷ fire_when 3 one (date 1989 2 29 0 0 0) 0 0
    ∷ server_fire_when 3 one (date 1989 2 29 0 0 0) 0 0 ∷ set_clock (date 1989 2 29 0 0 0) [] ∷ get_clock ∷ leap 1000001 [] ∷ next_due ∷ [])
    (replicate 15 (no 100) ++ ((100 ∷ replicate 7 0) ∷ (100 ∷ replicate 2 0) ∷ yes 0 ∷ [])) (unlent 18) (four 4 (replicate 34 0))
    -- Serve takes the caller's first queued timer, wherever it stands, and answers 0 where it has none.
    ∷ calls turns (serve 2 three ∷ []) (yes 1 ∷ []) (entry_of 3 ∷ []) (four 2 (1 ∷ 1 ∷ queued 1 2 0 ++ queued 2 4 1 ++ idle 3 ++ queued 4 0 2))
    ∷ calls turns (serve 2 three ∷ serve 2 three ∷ serve 2 three ∷ []) (yes 1 ∷ yes 1 ∷ yes 0 ∷ []) (entry_of 3 ∷ entry_of 4 ∷ three ∷ [])
    (four 2 (1 ∷ 1 ∷ queued 1 2 0 ++ queued 2 0 1 ++ idle 3 ++ idle 4))
    ∷ calls turns (serve 1 three ∷ serve 2 three ∷ serve 1 three ∷ serve 1 three ∷ serve 2 three ∷ serve 2 three ∷ [])
    (yes 1 ∷ yes 1 ∷ yes 1 ∷ yes 0 ∷ yes 1 ∷ yes 0 ∷ []) (entry_of 1 ∷ entry_of 3 ∷ entry_of 2 ∷ three ∷ entry_of 4 ∷ three ∷ [])
    (four 2 (1 ∷ 0 ∷ idle 1 ++ idle 2 ++ idle 3 ++ idle 4))
    ∷ []

pub parted : map computed party_cases ≡ party_cases
unfolding months_of years valid seconds_of header_sound slot_sound chain_sound ticks_sound dates_sound queue_sound sound status_on outcome
parted = refl

-- At both ends of N: L is N - 1 and N.
pub largest-l : map (status_on (replicate 2050 5)) (lay_out 255 10 254 ∷ lay_out 255 10 255 ∷ lay_out 2 10 1 ∷ lay_out 2 10 2 ∷ []) ≡ 0 ∷ 10 ∷ 0 ∷ 10 ∷ []
unfolding status_on
largest-l = refl
