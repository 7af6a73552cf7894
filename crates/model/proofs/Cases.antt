-- The starred cases of document 01, "Both sides of each edge", in one table under one statement that the checker computes from the
-- definitions. Assumes nothing.
use mathlib.Core.Path.{◌≡◌, refl}
use Prim.Native.Nat.{ℕ}
use mathlib.Core.List.{List, [], ◌∷◌, ◌++◌, map}
use lib.ListN.{replicate}
use Rattle.calendar.specs.declared.WallTime.{WallTime}
use Rattle.std.specs.Prelude.{Option, Some, None}
use Rattle.calendar.specs.Calendar.{months_of, years, valid, seconds_of, instant_of}
use Rattle.model.specs.Calls.{Call, lay_out, create, cancel, fire_after, fire_when, reset, ticks_left, tick, set_clock}
use Rattle.model.specs.Sound.{header_sound, slot_sound, chain_sound, ticks_sound, dates_sound, queue_sound, sound}
use Rattle.model.specs.Outcome.{status_on, outcome, after}

-- A date and what it is in seconds; or calls on a slice, each with the status and the answer that it gives and the list that it leaves, and the
-- words that they all leave.
pub data Case : Type 0 where
  day : WallTime → Option ℕ → Case
  calls : List ℕ → List Call → List (List ℕ) → List (List ℕ) → List ℕ → Case

abbrev pub lines : List ℕ → List Call → List (List ℕ)
lines t [] = []
lines t (c ∷ cs) = ((outcome t c).status ∷ (outcome t c).answer) ∷ lines (outcome t c).table cs

abbrev pub lists : List ℕ → List Call → List (List ℕ)
lists t [] = []
lists t (c ∷ cs) = (outcome t c).list ∷ lists (outcome t c).table cs

-- a case as the definitions have it
abbrev pub computed : Case → Case
computed (day w i) = day w (instant_of w)
computed (calls t cs seen listed table) = calls t cs (lines t cs) (lists t cs) (after t cs)

-- a wall time with ticks 0
abbrev pub date : ℕ → ℕ → ℕ → ℕ → ℕ → ℕ → WallTime
date y mo d h mi s = record { year = y; month = mo; day = d; hour = h; minute = mi; second = s; ticks = 0 }

-- so many calls that are lent no list
abbrev pub unlent : ℕ → List (List ℕ)
unlent n = replicate n []

-- nine words lent for the fired list
abbrev pub nine : List ℕ
nine = replicate 9 99

-- the session's start: N 3, T 10, two timers started for 5 ticks
abbrev pub opening : List Call
opening = lay_out 3 10 0 ∷ create 1 1 ∷ create 1 2 ∷ fire_after 1 0x12010001 5 7 70 ∷ fire_after 1 0x12010002 5 8 80 ∷ []

abbrev pub opening_lines : List (List ℕ)
opening_lines = (0 ∷ 0 ∷ []) ∷ (0 ∷ 302055425 ∷ []) ∷ (0 ∷ 302055426 ∷ []) ∷ (0 ∷ 0 ∷ []) ∷ (0 ∷ 0 ∷ []) ∷ []

-- one slot, with the clock set
abbrev pub clocked : List Call
clocked = lay_out 1 10 0 ∷ set_clock (date 2000 1 1 0 0 0) nine ∷ create 1 1 ∷ []

abbrev pub clocked_lines : List (List ℕ)
clocked_lines = (0 ∷ 0 ∷ []) ∷ (0 ∷ 0 ∷ []) ∷ (0 ∷ 302055425 ∷ []) ∷ []

abbrev pub starred_cases : List Case
starred_cases =
    day (date 1988 1 1 0 0 0) (Some 0)
    ∷ day (date 1988 2 29 0 0 0) (Some 5097600)
    ∷ day (date 1989 1 1 0 0 0) (Some 31622400)
    ∷ day (date 2000 1 1 0 0 0) (Some 378691200)
    ∷ day (date 2099 12 31 23 59 59) (Some 3534451199)
    ∷ day (date 1989 2 29 0 0 0) None
    ∷ day (date 1999 12 31 23 59 60) None
    ∷ day (date 2100 1 1 0 0 0) None
    -- The session. Word 5 is 1; the waits are 5 and 0.
    ∷ calls (replicate 34 0) opening opening_lines (unlent 5)
    (3 ∷ 10 ∷ 0 ∷ 0 ∷ 0 ∷ 1 ∷ 0 ∷ 0 ∷ 0 ∷ 0
    ∷ 4 ∷ 1 ∷ 5 ∷ 5 ∷ 7 ∷ 70 ∷ 2 ∷ 0
    ∷ 4 ∷ 2 ∷ 5 ∷ 0 ∷ 8 ∷ 80 ∷ 0 ∷ 1
    ∷ replicate 8 0)
    -- Four ticks answer 0. The fifth answers 2, and the list has three words of nine untouched.
    ∷ calls (replicate 34 0) (opening ++ (tick nine ∷ tick nine ∷ tick nine ∷ tick nine ∷ tick nine ∷ []))
    (opening_lines ++ ((0 ∷ 0 ∷ []) ∷ (0 ∷ 0 ∷ []) ∷ (0 ∷ 0 ∷ []) ∷ (0 ∷ 0 ∷ []) ∷ (0 ∷ 2 ∷ []) ∷ []))
    (unlent 5 ++ (nine ∷ nine ∷ nine ∷ nine ∷ (0x12010001 ∷ 7 ∷ 70 ∷ 0x12010002 ∷ 8 ∷ 80 ∷ 99 ∷ 99 ∷ 99 ∷ []) ∷ []))
    (3 ∷ 10 ∷ 0 ∷ 0 ∷ 0 ∷ 0 ∷ 0 ∷ 0 ∷ 0 ∷ 0
    ∷ 2 ∷ 1 ∷ 5 ∷ 0 ∷ 7 ∷ 70 ∷ 0 ∷ 0
    ∷ 2 ∷ 2 ∷ 5 ∷ 0 ∷ 8 ∷ 80 ∷ 0 ∷ 0
    ∷ replicate 8 0)
    -- Ticks 1 fires at the very next tick.
    ∷ calls (replicate 18 0) (lay_out 1 10 0 ∷ create 1 1 ∷ fire_after 1 0x12010001 1 7 70 ∷ tick nine ∷ [])
    ((0 ∷ 0 ∷ []) ∷ (0 ∷ 302055425 ∷ []) ∷ (0 ∷ 0 ∷ []) ∷ (0 ∷ 1 ∷ []) ∷ [])
    (unlent 3 ++ ((0x12010001 ∷ 7 ∷ 70 ∷ replicate 6 99) ∷ []))
    (1 ∷ 10 ∷ 0 ∷ 0 ∷ 0 ∷ 0 ∷ 0 ∷ 0 ∷ 0 ∷ 0 ∷ 2 ∷ 1 ∷ 1 ∷ 0 ∷ 7 ∷ 70 ∷ 0 ∷ 0 ∷ [])
    -- Fire when at the present second: 20; one second later: accepted.
    ∷ calls (replicate 18 0) (clocked ++ (fire_when 1 0x12010001 (date 2000 1 1 0 0 0) 7 70 ∷ fire_when 1 0x12010001 (date 2000 1 1 0 0 1) 7 70 ∷ []))
    (clocked_lines ++ ((20 ∷ 0 ∷ []) ∷ (0 ∷ 0 ∷ []) ∷ []))
    ([] ∷ nine ∷ unlent 3)
    (1 ∷ 10 ∷ 1 ∷ 378691200 ∷ 0 ∷ 0 ∷ 1 ∷ 0 ∷ 0 ∷ 0 ∷ 5 ∷ 1 ∷ 0 ∷ 378691201 ∷ 7 ∷ 70 ∷ 0 ∷ 0 ∷ [])
    -- Reset after cancel starts again.
    ∷ calls (replicate 18 0)
    (lay_out 1 10 0 ∷ create 1 1 ∷ fire_after 1 0x12010001 5 7 70 ∷ tick nine ∷ ticks_left 1 0x12010001 ∷ cancel 1 0x12010001 ∷ ticks_left 1 0x12010001
    ∷ reset 1 0x12010001 ∷ ticks_left 1 0x12010001 ∷ [])
    ((0 ∷ 0 ∷ []) ∷ (0 ∷ 302055425 ∷ []) ∷ (0 ∷ 0 ∷ []) ∷ (0 ∷ 0 ∷ []) ∷ (0 ∷ 4 ∷ []) ∷ (0 ∷ 0 ∷ []) ∷ (0 ∷ 0 ∷ []) ∷ (0 ∷ 0 ∷ []) ∷ (0 ∷ 5 ∷ []) ∷ [])
    (unlent 3 ++ (nine ∷ unlent 5))
    (1 ∷ 10 ∷ 0 ∷ 0 ∷ 0 ∷ 1 ∷ 0 ∷ 0 ∷ 0 ∷ 0 ∷ 4 ∷ 1 ∷ 5 ∷ 5 ∷ 7 ∷ 70 ∷ 0 ∷ 0 ∷ [])
    -- Reset of a timer never started: 11.
    ∷ calls (replicate 18 0) (lay_out 1 10 0 ∷ create 1 1 ∷ reset 1 0x12010001 ∷ [])
    ((0 ∷ 0 ∷ []) ∷ (0 ∷ 302055425 ∷ []) ∷ (11 ∷ 0 ∷ []) ∷ [])
    (unlent 3)
    (1 ∷ 10 ∷ 0 ∷ 0 ∷ 0 ∷ 0 ∷ 0 ∷ 0 ∷ 0 ∷ 0 ∷ 1 ∷ 1 ∷ replicate 6 0)
    ∷ []

pub starred : map computed starred_cases ≡ starred_cases
unfolding months_of years valid seconds_of header_sound slot_sound chain_sound ticks_sound dates_sound queue_sound sound status_on outcome
starred = refl
