-- A table with every kind from 0 to 13 at once: it is sound, every call is tried on it at every slot, and with one word changed it is not sound.
-- Computed from the definitions, as the starred cases are. Assumes nothing.
use mathlib.Core.Path.{◌≡◌, refl, sym, subst}
use Prim.Native.Nat.{ℕ, zero, suc, ◌+◌, ◌*◌}
use mathlib.Core.Bool.{Bool, true, cond, not}
use mathlib.Core.List.{List, [], ◌∷◌, ◌++◌, map}
use lib.ListN.{replicate, get_or, set, drop}
use lib.Dec.{eqb}
use Rattle.calendar.specs.declared.WallTime.{WallTime}
use Rattle.calendar.specs.Calendar.{months_of, years, valid, seconds_of, date_of}
use Rattle.model.specs.Lists.{keep, every}
use Rattle.model.specs.Status.{when, first_of, NotSound}
use Rattle.model.specs.Calls.{Call, create, ident, cancel, delete, fire_after, fire_when, fire_every, reset, ticks_left, tick, set_clock, get_clock, initiate_server, server_fire_after, server_fire_when, serve, leap}
use Rattle.model.specs.State.{id_base}
use Rattle.model.specs.Words.{kind_of, read}
use Rattle.model.specs.Directives.{refusals}
use Rattle.model.specs.Sound.{header_sound, slot_sound, chain_sound, ticks_sound, dates_sound, queue_sound, sound}
use Rattle.model.specs.Outcome.{Outcome, outcome_of, status_on, refused, accepted, outcome, after}
use Rattle.model.proofs.Cases.{date}

-- Slot k is of kind k, and slot 14 is free. It is 2000-01-01 00:00:01 and 3 ticks. In the interval chain are 10, 6 and 4, with 1, 1 and 2 ticks left;
-- in the dated chain 11 and 5; in the queue 13 and 12.
abbrev pub every_kind : List ℕ
every_kind =
    14 ∷ 10 ∷ 1 ∷ 378691201 ∷ 3 ∷ 10 ∷ 11 ∷ 0 ∷ 1 ∷ 13
    ∷ 1 ∷ 1 ∷ 0 ∷ 0 ∷ 0 ∷ 0 ∷ 0 ∷ 0
    ∷ 2 ∷ 2 ∷ 5 ∷ 0 ∷ 22 ∷ 20 ∷ 0 ∷ 0
    ∷ 3 ∷ 3 ∷ 0 ∷ 0 ∷ 23 ∷ 30 ∷ 0 ∷ 0
    ∷ 4 ∷ 4 ∷ 5 ∷ 1 ∷ 24 ∷ 40 ∷ 0 ∷ 6
    ∷ 5 ∷ 5 ∷ 0 ∷ 378691210 ∷ 25 ∷ 50 ∷ 0 ∷ 11
    ∷ 6 ∷ 6 ∷ 5 ∷ 0 ∷ 26 ∷ 60 ∷ 4 ∷ 10
    ∷ 7 ∷ 7 ∷ 5 ∷ 0 ∷ 27 ∷ 70 ∷ 0 ∷ 0
    ∷ 8 ∷ 8 ∷ 5 ∷ 0 ∷ 28 ∷ 80 ∷ 0 ∷ 0
    ∷ 9 ∷ 9 ∷ 0 ∷ 0 ∷ 29 ∷ 90 ∷ 0 ∷ 0
    ∷ 10 ∷ 10 ∷ 5 ∷ 1 ∷ 30 ∷ 100 ∷ 6 ∷ 0
    ∷ 11 ∷ 11 ∷ 0 ∷ 378691209 ∷ 31 ∷ 110 ∷ 5 ∷ 0
    ∷ 12 ∷ 12 ∷ 5 ∷ 0 ∷ 32 ∷ 120 ∷ 0 ∷ 13
    ∷ 13 ∷ 13 ∷ 0 ∷ 0 ∷ 33 ∷ 130 ∷ 12 ∷ 0
    ∷ replicate 8 0

pub is-sound : sound every_kind ≡ true
unfolding header_sound slot_sound chain_sound ticks_sound dates_sound queue_sound sound
is-sound = refl

-- n numbers from i on
abbrev from : ℕ → ℕ → List ℕ
from i zero = []
from i (suc n) = i ∷ from (suc i) n

abbrev at : ℕ → WallTime
at s = date 2000 1 1 0 0 s

-- ---- every call that takes an id, at every slot

-- the call at each slot from 0 to 15: its statuses; its answers; and the kinds that the slots 1 to 13 then have
abbrev at_each : (Call → Outcome) → (ℕ → Call) → List (List ℕ)
at_each f c =
    map (λ i. (f (c (id_base + i))).status) (from 0 16)
    ∷ map (λ i. get_or (f (c (id_base + i))).answer 0 99) (from 0 16)
    ∷ map (λ i. kind_of (f (c (id_base + i))).table i) (from 1 13) ∷ []

-- where the words of two tables differ, from word i on: its number, and what it is in the second
abbrev differences : ℕ → List ℕ → List ℕ → List (ℕ × ℕ)
differences i [] [] = []
differences i [] (v ∷ vs) = (i, v) ∷ differences (suc i) [] vs
differences i (u ∷ us) [] = (i, 0) ∷ differences (suc i) us []
differences i (u ∷ us) (v ∷ vs) = cond (eqb u v) (differences (suc i) us vs) ((i, v) ∷ differences (suc i) us vs)

abbrev changes_at : (Call → Outcome) → (ℕ → Call) → List (List (ℕ × ℕ))
changes_at f c = map (λ i. differences 0 every_kind (f (c (id_base + i))).table) (from 1 13)

-- 4 where there is no timer: slot 0, the free one, and past the last
abbrev named : List ℕ → List ℕ
named statuses = 4 ∷ statuses ++ (4 ∷ 4 ∷ [])

abbrev accepts : ℕ → List (List ℕ)
accepts kind = named (replicate 13 0) ∷ replicate 16 0 ∷ replicate 13 kind ∷ []

abbrev pub id_calls : List (ℕ → Call)
id_calls =
    cancel 1 ∷ delete 1 ∷ reset 1 ∷ ticks_left 1
    ∷ (λ id. fire_after 1 id 2 7 70) ∷ (λ id. fire_when 1 id (at 9) 7 70) ∷ (λ id. fire_every 1 id 2 7 70)
    ∷ (λ id. server_fire_after 1 id 2 7 70) ∷ (λ id. server_fire_when 1 id (at 9) 7 70) ∷ []

abbrev pub id_results : List (List (List ℕ))
id_results =
    -- Cancel: 4 becomes 2, 5 becomes 3, 6 becomes 7, 10 and 12 become 8, 11 and 13 become 9. Any other stays: 14.
    (named (14 ∷ 14 ∷ 14 ∷ 0 ∷ 0 ∷ 0 ∷ 14 ∷ 14 ∷ 14 ∷ 0 ∷ 0 ∷ 0 ∷ 0 ∷ []) ∷ replicate 16 0 ∷ (1 ∷ 2 ∷ 3 ∷ 2 ∷ 3 ∷ 7 ∷ 7 ∷ 8 ∷ 9 ∷ 8 ∷ 9 ∷ 8 ∷ 9 ∷ []) ∷ [])
    -- Delete: the slot is free.
    ∷ accepts 0
    -- Reset: 2 and 4 start as 4, 6 and 7 as 6, 8, 10 and 12 as 10; 11 for 1, 3, 5, 9, 11 and 13.
    ∷ (named (11 ∷ 0 ∷ 11 ∷ 0 ∷ 11 ∷ 0 ∷ 0 ∷ 0 ∷ 11 ∷ 0 ∷ 11 ∷ 0 ∷ 11 ∷ []) ∷ replicate 16 0
    ∷ (1 ∷ 4 ∷ 3 ∷ 4 ∷ 5 ∷ 6 ∷ 6 ∷ 10 ∷ 9 ∷ 10 ∷ 11 ∷ 10 ∷ 13 ∷ []) ∷ [])
    -- Ticks left: of 4, 6 and 10; of any other 0.
    ∷ (named (replicate 13 0) ∷ (replicate 4 0 ++ (2 ∷ 0 ∷ 1 ∷ 0 ∷ 0 ∷ 0 ∷ 1 ∷ replicate 5 0)) ∷ from 1 13 ∷ [])
    -- Each start takes every kind.
    ∷ accepts 4 ∷ accepts 5 ∷ accepts 6 ∷ accepts 10 ∷ accepts 11 ∷ []

-- ---- every call that takes no id

abbrev list : ℕ → List ℕ
list n = replicate n 99

-- what a tick leaves: 10 is queued, behind the others, and 6 goes back
abbrev ticked_table : List ℕ
ticked_table =
    14 ∷ 10 ∷ 1 ∷ 378691201 ∷ 4 ∷ 4 ∷ 11 ∷ 0 ∷ 1 ∷ 13
    ∷ 1 ∷ 1 ∷ 0 ∷ 0 ∷ 0 ∷ 0 ∷ 0 ∷ 0
    ∷ 2 ∷ 2 ∷ 5 ∷ 0 ∷ 22 ∷ 20 ∷ 0 ∷ 0
    ∷ 3 ∷ 3 ∷ 0 ∷ 0 ∷ 23 ∷ 30 ∷ 0 ∷ 0
    ∷ 4 ∷ 4 ∷ 5 ∷ 1 ∷ 24 ∷ 40 ∷ 6 ∷ 0
    ∷ 5 ∷ 5 ∷ 0 ∷ 378691210 ∷ 25 ∷ 50 ∷ 0 ∷ 11
    ∷ 6 ∷ 6 ∷ 5 ∷ 4 ∷ 26 ∷ 60 ∷ 0 ∷ 4
    ∷ 7 ∷ 7 ∷ 5 ∷ 0 ∷ 27 ∷ 70 ∷ 0 ∷ 0
    ∷ 8 ∷ 8 ∷ 5 ∷ 0 ∷ 28 ∷ 80 ∷ 0 ∷ 0
    ∷ 9 ∷ 9 ∷ 0 ∷ 0 ∷ 29 ∷ 90 ∷ 0 ∷ 0
    ∷ 12 ∷ 10 ∷ 5 ∷ 0 ∷ 30 ∷ 100 ∷ 0 ∷ 12
    ∷ 11 ∷ 11 ∷ 0 ∷ 378691209 ∷ 31 ∷ 110 ∷ 5 ∷ 0
    ∷ 12 ∷ 12 ∷ 5 ∷ 0 ∷ 32 ∷ 120 ∷ 10 ∷ 13
    ∷ 13 ∷ 13 ∷ 0 ∷ 0 ∷ 33 ∷ 130 ∷ 12 ∷ 0
    ∷ replicate 8 0

abbrev pub other_calls : List Call
other_calls =
    create 1 0 ∷ create 1 7 ∷ ident 1 0 ∷ ident 1 7 ∷ ident 1 12 ∷ ident 1 14
    ∷ tick (list 41) ∷ tick (list 42) ∷ set_clock (at 60) (list 41) ∷ set_clock (at 60) (list 42) ∷ set_clock (at 10) (list 42) ∷ get_clock
    ∷ initiate_server ∷ serve 1 (list 2) ∷ serve 1 (list 3)
    ∷ leap 4294967295 (list 41) ∷ leap 4294967295 (list 42) ∷ leap 0 (list 41) ∷ leap 0 (list 42) ∷ leap 1 (list 42) ∷ leap 9 (list 43) ∷ []

-- a call that leaves table and list as they are
abbrev keeps : ℕ → List ℕ → List ℕ → Outcome
keeps status answer lent = outcome_of status answer every_kind lent

abbrev pub other_outcomes : List Outcome
other_outcomes =
    -- Create: 3, and the free slot. Ident: 3, a timer of any kind, and 3.
    keeps 3 (0 ∷ []) []
    ∷ outcome_of 0 ((id_base + 14) ∷ [])
    (14 ∷ 10 ∷ 1 ∷ 378691201 ∷ 3 ∷ 10 ∷ 11 ∷ 0 ∷ 1 ∷ 13
    ∷ 1 ∷ 1 ∷ 0 ∷ 0 ∷ 0 ∷ 0 ∷ 0 ∷ 0
    ∷ 2 ∷ 2 ∷ 5 ∷ 0 ∷ 22 ∷ 20 ∷ 0 ∷ 0
    ∷ 3 ∷ 3 ∷ 0 ∷ 0 ∷ 23 ∷ 30 ∷ 0 ∷ 0
    ∷ 4 ∷ 4 ∷ 5 ∷ 1 ∷ 24 ∷ 40 ∷ 0 ∷ 6
    ∷ 5 ∷ 5 ∷ 0 ∷ 378691210 ∷ 25 ∷ 50 ∷ 0 ∷ 11
    ∷ 6 ∷ 6 ∷ 5 ∷ 0 ∷ 26 ∷ 60 ∷ 4 ∷ 10
    ∷ 7 ∷ 7 ∷ 5 ∷ 0 ∷ 27 ∷ 70 ∷ 0 ∷ 0
    ∷ 8 ∷ 8 ∷ 5 ∷ 0 ∷ 28 ∷ 80 ∷ 0 ∷ 0
    ∷ 9 ∷ 9 ∷ 0 ∷ 0 ∷ 29 ∷ 90 ∷ 0 ∷ 0
    ∷ 10 ∷ 10 ∷ 5 ∷ 1 ∷ 30 ∷ 100 ∷ 6 ∷ 0
    ∷ 11 ∷ 11 ∷ 0 ∷ 378691209 ∷ 31 ∷ 110 ∷ 5 ∷ 0
    ∷ 12 ∷ 12 ∷ 5 ∷ 0 ∷ 32 ∷ 120 ∷ 0 ∷ 13
    ∷ 13 ∷ 13 ∷ 0 ∷ 0 ∷ 33 ∷ 130 ∷ 12 ∷ 0
    ∷ 1 ∷ 7 ∷ 0 ∷ 0 ∷ 0 ∷ 0 ∷ 0 ∷ 0 ∷ [])
    []
    ∷ keeps 3 (0 ∷ []) [] ∷ keeps 0 ((id_base + 7) ∷ []) [] ∷ keeps 0 ((id_base + 12) ∷ []) [] ∷ keeps 3 (0 ∷ []) []
    -- Tick: 101; 6 is listed.
    ∷ keeps 101 (0 ∷ []) (list 41)
    ∷ outcome_of 0 (1 ∷ []) ticked_table
    ((id_base + 6) ∷ 26 ∷ 60 ∷ list 39)
    -- Set clock: 101, 20; 11 is queued, behind the others, and 5 is listed. Get clock.
    ∷ keeps 101 (0 ∷ []) (list 41) ∷ keeps 20 (0 ∷ []) (list 42)
    ∷ outcome_of 0 (1 ∷ [])
    (14 ∷ 10 ∷ 1 ∷ 378691210 ∷ 0 ∷ 10 ∷ 0 ∷ 0 ∷ 1 ∷ 13
    ∷ 1 ∷ 1 ∷ 0 ∷ 0 ∷ 0 ∷ 0 ∷ 0 ∷ 0
    ∷ 2 ∷ 2 ∷ 5 ∷ 0 ∷ 22 ∷ 20 ∷ 0 ∷ 0
    ∷ 3 ∷ 3 ∷ 0 ∷ 0 ∷ 23 ∷ 30 ∷ 0 ∷ 0
    ∷ 4 ∷ 4 ∷ 5 ∷ 1 ∷ 24 ∷ 40 ∷ 0 ∷ 6
    ∷ 3 ∷ 5 ∷ 0 ∷ 0 ∷ 25 ∷ 50 ∷ 0 ∷ 0
    ∷ 6 ∷ 6 ∷ 5 ∷ 0 ∷ 26 ∷ 60 ∷ 4 ∷ 10
    ∷ 7 ∷ 7 ∷ 5 ∷ 0 ∷ 27 ∷ 70 ∷ 0 ∷ 0
    ∷ 8 ∷ 8 ∷ 5 ∷ 0 ∷ 28 ∷ 80 ∷ 0 ∷ 0
    ∷ 9 ∷ 9 ∷ 0 ∷ 0 ∷ 29 ∷ 90 ∷ 0 ∷ 0
    ∷ 10 ∷ 10 ∷ 5 ∷ 1 ∷ 30 ∷ 100 ∷ 6 ∷ 0
    ∷ 13 ∷ 11 ∷ 0 ∷ 0 ∷ 31 ∷ 110 ∷ 0 ∷ 12
    ∷ 12 ∷ 12 ∷ 5 ∷ 0 ∷ 32 ∷ 120 ∷ 11 ∷ 13
    ∷ 13 ∷ 13 ∷ 0 ∷ 0 ∷ 33 ∷ 130 ∷ 12 ∷ 0
    ∷ replicate 8 0)
    ((id_base + 5) ∷ 25 ∷ 50 ∷ list 39)
    ∷ keeps 0 (2000 ∷ 1 ∷ 1 ∷ 0 ∷ 0 ∷ 1 ∷ 3 ∷ []) []
    -- Initiate: 14. Serve: 101, and 13, which is the front.
    ∷ keeps 14 (0 ∷ []) [] ∷ keeps 101 (0 ∷ []) (list 2)
    ∷ outcome_of 0 (1 ∷ [])
    (14 ∷ 10 ∷ 1 ∷ 378691201 ∷ 3 ∷ 10 ∷ 11 ∷ 0 ∷ 1 ∷ 12
    ∷ 1 ∷ 1 ∷ 0 ∷ 0 ∷ 0 ∷ 0 ∷ 0 ∷ 0
    ∷ 2 ∷ 2 ∷ 5 ∷ 0 ∷ 22 ∷ 20 ∷ 0 ∷ 0
    ∷ 3 ∷ 3 ∷ 0 ∷ 0 ∷ 23 ∷ 30 ∷ 0 ∷ 0
    ∷ 4 ∷ 4 ∷ 5 ∷ 1 ∷ 24 ∷ 40 ∷ 0 ∷ 6
    ∷ 5 ∷ 5 ∷ 0 ∷ 378691210 ∷ 25 ∷ 50 ∷ 0 ∷ 11
    ∷ 6 ∷ 6 ∷ 5 ∷ 0 ∷ 26 ∷ 60 ∷ 4 ∷ 10
    ∷ 7 ∷ 7 ∷ 5 ∷ 0 ∷ 27 ∷ 70 ∷ 0 ∷ 0
    ∷ 8 ∷ 8 ∷ 5 ∷ 0 ∷ 28 ∷ 80 ∷ 0 ∷ 0
    ∷ 9 ∷ 9 ∷ 0 ∷ 0 ∷ 29 ∷ 90 ∷ 0 ∷ 0
    ∷ 10 ∷ 10 ∷ 5 ∷ 1 ∷ 30 ∷ 100 ∷ 6 ∷ 0
    ∷ 11 ∷ 11 ∷ 0 ∷ 378691209 ∷ 31 ∷ 110 ∷ 5 ∷ 0
    ∷ 12 ∷ 12 ∷ 5 ∷ 0 ∷ 32 ∷ 120 ∷ 0 ∷ 0
    ∷ 9 ∷ 13 ∷ 0 ∷ 0 ∷ 33 ∷ 130 ∷ 0 ∷ 0
    ∷ replicate 8 0)
    ((id_base + 13) ∷ 33 ∷ 130 ∷ [])
    -- Leap: 101, 10; by 0, by 1 and by more.
    ∷ keeps 101 (0 ∷ 0 ∷ []) (list 41) ∷ keeps 10 (0 ∷ 0 ∷ []) (list 42) ∷ keeps 101 (0 ∷ 0 ∷ []) (list 41) ∷ keeps 0 (0 ∷ 0 ∷ []) (list 42)
    ∷ outcome_of 0 (1 ∷ 1 ∷ []) ticked_table ((id_base + 6) ∷ 26 ∷ 60 ∷ list 39)
    ∷ outcome_of 0 (1 ∷ 1 ∷ []) ticked_table ((id_base + 6) ∷ 26 ∷ 60 ∷ list 40)
    ∷ []

-- what comes of a call where it is given whether the table is sound, so that this is computed once and not for each call
abbrev status_if : Bool → Call → ℕ
status_if b c = first_of (when NotSound (not b) ∷ drop 1 (refusals every_kind (read every_kind) c))

abbrev outcome_if : Bool → Call → Outcome
outcome_if b c = cond (eqb (status_if b c) 0) (accepted every_kind c) (refused (status_if b c) every_kind c)

ids-if-sound : map (at_each (outcome_if true)) id_calls ≡ id_results
unfolding months_of years valid seconds_of
ids-if-sound = refl

pub at-each-kind : map (at_each (outcome every_kind)) id_calls ≡ id_results
unfolding status_on outcome
at-each-kind = subst (λ (b : Bool). map (at_each (outcome_if b)) id_calls ≡ id_results) (sym is-sound) ids-if-sound

-- Every word that a cancel changes, and a reset, of each timer from slot 1 on: its number and what it becomes.
abbrev pub changed_words : List (List (List (ℕ × ℕ)))
changed_words =
    ([] ∷ [] ∷ [] ∷ ((34, 2) ∷ (37, 0) ∷ (41, 0) ∷ (56, 0) ∷ []) ∷ ((42, 3) ∷ (45, 0) ∷ (49, 0) ∷ (96, 0) ∷ [])
    ∷ ((41, 10) ∷ (50, 7) ∷ (56, 0) ∷ (57, 0) ∷ (88, 4) ∷ []) ∷ [] ∷ [] ∷ [] ∷ ((5, 6) ∷ (53, 1) ∷ (57, 0) ∷ (82, 8) ∷ (85, 0) ∷ (88, 0) ∷ [])
    ∷ ((6, 5) ∷ (49, 0) ∷ (90, 9) ∷ (93, 0) ∷ (96, 0) ∷ []) ∷ ((98, 8) ∷ (105, 0) ∷ (112, 0) ∷ []) ∷ ((9, 12) ∷ (105, 0) ∷ (106, 9) ∷ (112, 0) ∷ []) ∷ [])
    ∷ ([] ∷ ((18, 4) ∷ (21, 3) ∷ (25, 4) ∷ (40, 2) ∷ []) ∷ [] ∷ ((37, 4) ∷ []) ∷ [] ∷ ((40, 6) ∷ (41, 10) ∷ (53, 3) ∷ (56, 0) ∷ (57, 4) ∷ (88, 4) ∷ [])
    ∷ ((40, 7) ∷ (58, 6) ∷ (61, 3) ∷ (65, 4) ∷ []) ∷ ((40, 8) ∷ (66, 10) ∷ (69, 3) ∷ (73, 4) ∷ []) ∷ []
    ∷ ((5, 6) ∷ (40, 10) ∷ (53, 1) ∷ (57, 0) ∷ (85, 3) ∷ (88, 0) ∷ (89, 4) ∷ []) ∷ [] ∷ ((40, 12) ∷ (98, 10) ∷ (101, 3) ∷ (105, 4) ∷ (112, 0) ∷ []) ∷ [] ∷ [])
    ∷ []

changes-if-sound : map (changes_at (outcome_if true)) (cancel 1 ∷ reset 1 ∷ []) ≡ changed_words
changes-if-sound = refl

pub cancel-and-reset : map (changes_at (outcome every_kind)) (cancel 1 ∷ reset 1 ∷ []) ≡ changed_words
unfolding status_on outcome
cancel-and-reset = subst (λ (b : Bool). map (changes_at (outcome_if b)) (cancel 1 ∷ reset 1 ∷ []) ≡ changed_words) (sym is-sound) changes-if-sound

others-if-sound : map (outcome_if true) other_calls ≡ other_outcomes
unfolding months_of years valid seconds_of date_of
others-if-sound = refl

pub with-every-kind : map (outcome every_kind) other_calls ≡ other_outcomes
unfolding status_on outcome
with-every-kind = subst (λ (b : Bool). map (outcome_if b) other_calls ≡ other_outcomes) (sym is-sound) others-if-sound

-- Each start of a waiting or queued timer takes it off its chain: one after the other, in another chain or mode than before.
pub all-started : after every_kind
    (server_fire_when 1 (id_base + 4) (at 9) 7 70 ∷ server_fire_after 1 (id_base + 5) 4 7 70 ∷ server_fire_after 1 (id_base + 6) 4 7 70
    ∷ fire_when 1 (id_base + 10) (at 9) 7 70
    ∷ fire_every 1 (id_base + 11) 4 7 70 ∷ fire_after 1 (id_base + 12) 4 7 70 ∷ server_fire_when 1 (id_base + 13) (at 10) 7 70 ∷ [])
    ≡ 14 ∷ 10 ∷ 1 ∷ 378691201 ∷ 3 ∷ 5 ∷ 4 ∷ 0 ∷ 1 ∷ 0
    ∷ 1 ∷ 1 ∷ 0 ∷ 0 ∷ 0 ∷ 0 ∷ 0 ∷ 0
    ∷ 2 ∷ 2 ∷ 5 ∷ 0 ∷ 22 ∷ 20 ∷ 0 ∷ 0
    ∷ 3 ∷ 3 ∷ 0 ∷ 0 ∷ 23 ∷ 30 ∷ 0 ∷ 0
    ∷ 11 ∷ 4 ∷ 0 ∷ 378691209 ∷ 7 ∷ 70 ∷ 10 ∷ 0
    ∷ 10 ∷ 5 ∷ 4 ∷ 4 ∷ 7 ∷ 70 ∷ 6 ∷ 0
    ∷ 10 ∷ 6 ∷ 4 ∷ 0 ∷ 7 ∷ 70 ∷ 11 ∷ 5
    ∷ 7 ∷ 7 ∷ 5 ∷ 0 ∷ 27 ∷ 70 ∷ 0 ∷ 0
    ∷ 8 ∷ 8 ∷ 5 ∷ 0 ∷ 28 ∷ 80 ∷ 0 ∷ 0
    ∷ 9 ∷ 9 ∷ 0 ∷ 0 ∷ 29 ∷ 90 ∷ 0 ∷ 0
    ∷ 5 ∷ 10 ∷ 0 ∷ 378691209 ∷ 7 ∷ 70 ∷ 13 ∷ 4
    ∷ 6 ∷ 11 ∷ 4 ∷ 0 ∷ 7 ∷ 70 ∷ 12 ∷ 6
    ∷ 4 ∷ 12 ∷ 4 ∷ 0 ∷ 7 ∷ 70 ∷ 0 ∷ 11
    ∷ 11 ∷ 13 ∷ 0 ∷ 378691210 ∷ 7 ∷ 70 ∷ 0 ∷ 10
    ∷ replicate 8 0
unfolding months_of years valid seconds_of header_sound slot_sound chain_sound ticks_sound dates_sound queue_sound sound status_on outcome
all-started = refl

-- ---- soundness

-- the table with word f of slot i changed
abbrev changed : ℕ → ℕ → ℕ → List ℕ
changed i f v = set every_kind (2 + 8 * i + f) v

abbrev pub damages : List (List ℕ)
damages =
    -- Word 7 is N. Word 8 is 0 where there are kinds from 8 on; or neither 0 nor 1. Word 9 is 0, or names a waiting, an idle or a free slot.
    set every_kind 7 14 ∷ set every_kind 8 0 ∷ set every_kind 8 2 ∷ map (set every_kind 9) (0 ∷ 10 ∷ 8 ∷ 14 ∷ [])
    -- Kind 14. No name; no routine. No interval by interval, and one by date.
    ++ map (λ i. changed i 0 14) (8 ∷ 12 ∷ 14 ∷ []) ++ map (λ i. changed i 1 0) (from 8 6) ++ map (λ i. changed i 4 0) (from 8 6)
    ++ map (λ i. changed i 2 0) (8 ∷ 10 ∷ 12 ∷ []) ++ map (λ i. changed i 2 1) (9 ∷ 11 ∷ 13 ∷ [])
    -- A wait in the queue; a wait, next or previous of an idle one.
    ++ map (λ i. changed i 3 1) (8 ∷ 9 ∷ 12 ∷ 13 ∷ []) ++ changed 8 6 12 ∷ changed 9 7 13
    -- Next of the front is 0, and 12 outside the queue; or a waiting one. Next of the end is the front, a loop; or a waiting one. Previous of both.
    ∷ map (changed 13 6) (0 ∷ 10 ∷ []) ++ map (changed 12 6) (13 ∷ 11 ∷ []) ++ changed 13 7 12 ∷ changed 12 7 0
    -- 12 or 13 outside the queue, idle or in another chain; another kind in it.
    ∷ changed 8 0 12 ∷ changed 9 0 13 ∷ changed 10 0 12 ∷ changed 11 0 13 ∷ changed 12 0 10 ∷ changed 13 0 11
    -- The first wait is 0; ticks left exceed the interval. A date is not above word 3, or is above the one behind it.
    ∷ map (changed 10 3) (0 ∷ 6 ∷ []) ++ map (changed 11 3) (378691201 ∷ 378691211 ∷ [])

pub damaged : every (λ t. not (sound t)) damages ≡ true
unfolding header_sound slot_sound chain_sound ticks_sound dates_sound queue_sound sound
damaged = refl

-- The other side: it is sound with L from 1 to N - 1; with an interval of 1, or of its ticks left; with another name, routine or data; with the last
-- second.
pub undamaged : every sound
    (set every_kind 7 1 ∷ set every_kind 7 13 ∷ changed 8 2 1 ∷ changed 12 2 1 ∷ changed 10 2 1 ∷ changed 12 1 1 ∷ changed 13 4 1 ∷ changed 13 5 0
    ∷ changed 11 3 378691202 ∷ changed 5 3 3534451199 ∷ [])
    ≡ true
unfolding header_sound slot_sound chain_sound ticks_sound dates_sound queue_sound sound
undamaged = refl

-- the kinds up to 14 that the one slot of a table may have, by words 2 and 8, the word that names it, and its words after the kind
abbrev kinds_with : ℕ → ℕ → ℕ → ℕ → ℕ → List ℕ → List ℕ
kinds_with is_set server ticking dated front words =
    keep (λ k. sound (1 ∷ 10 ∷ is_set ∷ 0 ∷ 0 ∷ ticking ∷ dated ∷ 0 ∷ server ∷ front ∷ k ∷ words)) (from 0 15)

-- where all is zero; with a name; idle with and without an interval; in the interval chain; in the dated chain; in the queue with and without one
abbrev kinds_by : ℕ → ℕ → List (List ℕ)
kinds_by is_set server =
    kinds_with is_set server 0 0 0 (replicate 7 0)
    ∷ kinds_with is_set server 0 0 0 (1 ∷ replicate 6 0)
    ∷ kinds_with is_set server 0 0 0 (1 ∷ 5 ∷ 0 ∷ 7 ∷ 70 ∷ 0 ∷ 0 ∷ [])
    ∷ kinds_with is_set server 0 0 0 (1 ∷ 0 ∷ 0 ∷ 7 ∷ 70 ∷ 0 ∷ 0 ∷ [])
    ∷ kinds_with is_set server 1 0 0 (1 ∷ 5 ∷ 5 ∷ 7 ∷ 70 ∷ 0 ∷ 0 ∷ [])
    ∷ kinds_with is_set server 0 1 0 (1 ∷ 0 ∷ 9 ∷ 7 ∷ 70 ∷ 0 ∷ 0 ∷ [])
    ∷ kinds_with is_set server 0 0 1 (1 ∷ 5 ∷ 0 ∷ 7 ∷ 70 ∷ 0 ∷ 0 ∷ [])
    ∷ kinds_with is_set server 0 0 1 (1 ∷ 0 ∷ 0 ∷ 7 ∷ 70 ∷ 0 ∷ 0 ∷ [])
    ∷ []

-- Soundness reads 8 to 11 as 2 to 5, 12 and 13 as queued. They occur only when word 8 is 1: where it is 0 no slot is queued either. It is not 2. Where
-- the clock is not set only 5 and 11 do not occur.
pub kinds-allowed : kinds_by 1 1 ∷ kinds_by 1 0 ∷ kinds_by 1 2 ∷ kinds_by 0 1 ∷ []
    ≡ ((0 ∷ []) ∷ (1 ∷ []) ∷ (2 ∷ 7 ∷ 8 ∷ []) ∷ (3 ∷ 9 ∷ []) ∷ (4 ∷ 6 ∷ 10 ∷ []) ∷ (5 ∷ 11 ∷ []) ∷ (12 ∷ []) ∷ (13 ∷ []) ∷ [])
    ∷ ((0 ∷ []) ∷ (1 ∷ []) ∷ (2 ∷ 7 ∷ []) ∷ (3 ∷ []) ∷ (4 ∷ 6 ∷ []) ∷ (5 ∷ []) ∷ [] ∷ [] ∷ [])
    ∷ replicate 8 []
    ∷ ((0 ∷ []) ∷ (1 ∷ []) ∷ (2 ∷ 7 ∷ 8 ∷ []) ∷ (3 ∷ 9 ∷ []) ∷ (4 ∷ 6 ∷ 10 ∷ []) ∷ [] ∷ (12 ∷ []) ∷ (13 ∷ []) ∷ [])
    ∷ []
unfolding header_sound slot_sound chain_sound ticks_sound dates_sound queue_sound sound
kinds-allowed = refl
