-- Set clock, computed from the definitions: its ticks field on both sides of T, which fire when ignores, and how far it moved the clock.
-- Assumes nothing.
use mathlib.Core.Path.{◌≡◌, refl}
use Prim.Native.Nat.{ℕ}
use mathlib.Core.List.{List, [], ◌∷◌, map}
use lib.ListN.{replicate}
use lib.IntN.{ℤ, pos, negsuc}
use Rattle.calendar.specs.declared.WallTime.{WallTime}
use Rattle.calendar.specs.Calendar.{months_of, years, valid, seconds_of, date_of}
use Rattle.model.specs.Calls.{Call, lay_out, create, fire_after, fire_when, ticks_left, tick, set_clock, get_clock, initiate_server, server_fire_when}
use Rattle.model.specs.Sound.{header_sound, slot_sound, chain_sound, ticks_sound, dates_sound, queue_sound, sound}
use Rattle.model.specs.Outcome.{status_on, outcome, movement, after}
use Rattle.model.proofs.Cases.{Case, calls, computed}
use Rattle.model.proofs.WorkedCases.{one, three, no, yes}

-- so many ticks into: 2000-01-01 12:00:00, the second after it and 12:20:34, a day that is none, the first second and the last
abbrev noon : ℕ → WallTime
noon ticks = record { year = 2000; month = 1; day = 1; hour = 12; minute = 0; second = 0; ticks = ticks }

abbrev after_noon : ℕ → WallTime
after_noon ticks = record { year = 2000; month = 1; day = 1; hour = 12; minute = 0; second = 1; ticks = ticks }

abbrev twenty_past_noon : ℕ → WallTime
twenty_past_noon ticks = record { year = 2000; month = 1; day = 1; hour = 12; minute = 20; second = 34; ticks = ticks }

abbrev no_day : ℕ → WallTime
no_day ticks = record { year = 1989; month = 2; day = 29; hour = 0; minute = 0; second = 0; ticks = ticks }

abbrev first_second : ℕ → WallTime
first_second ticks = record { year = 1988; month = 1; day = 1; hour = 0; minute = 0; second = 0; ticks = ticks }

abbrev final_second : ℕ → WallTime
final_second ticks = record { year = 2099; month = 12; day = 31; hour = 23; minute = 59; second = 59; ticks = ticks }

abbrev set : WallTime → Call
set w = set_clock w three

-- what get clock answers there
abbrev clock_reads : WallTime → List ℕ
clock_reads w = 0 ∷ w.year ∷ w.month ∷ w.day ∷ w.hour ∷ w.minute ∷ w.second ∷ w.ticks ∷ []

abbrev clock_cases : List Case
clock_cases =
    -- Ticks of T and more are 20, after 101 and beside a date that is not valid; T - 1 are taken, and the next tick brings the next second.
    calls (replicate 18 0)
    (lay_out 1 10 0 ∷ set (noon 10) ∷ set (noon 4294967295) ∷ set_clock (noon 10) [] ∷ set (no_day 9) ∷ set (no_day 10) ∷ get_clock
    ∷ set (noon 9) ∷ get_clock ∷ set (noon 10) ∷ get_clock ∷ tick three ∷ get_clock ∷ set (noon 0) ∷ get_clock ∷ set (noon 3) ∷ [])
    (yes 0 ∷ no 20 ∷ no 20 ∷ no 101 ∷ no 20 ∷ no 20 ∷ (11 ∷ replicate 7 0)
    ∷ yes 0 ∷ clock_reads (noon 9) ∷ no 20 ∷ clock_reads (noon 9) ∷ yes 0 ∷ clock_reads (after_noon 0) ∷ yes 0 ∷ clock_reads (noon 0) ∷ yes 0 ∷ [])
    ([] ∷ three ∷ three ∷ [] ∷ three ∷ three ∷ [] ∷ three ∷ [] ∷ three ∷ [] ∷ three ∷ [] ∷ three ∷ [] ∷ three ∷ [])
    (1 ∷ 10 ∷ 1 ∷ 378734400 ∷ 3 ∷ replicate 13 0)
    -- T is 7: 5 ticks are read as they were set. T is 1, and 1,000.
    ∷ calls (replicate 18 0) (lay_out 1 7 0 ∷ set (noon 7) ∷ set (noon 5) ∷ get_clock ∷ []) (yes 0 ∷ no 20 ∷ yes 0 ∷ clock_reads (noon 5) ∷ [])
    ([] ∷ three ∷ three ∷ [] ∷ []) (1 ∷ 7 ∷ 1 ∷ 378734400 ∷ 5 ∷ replicate 13 0)
    ∷ calls (replicate 18 0) (lay_out 1 1 0 ∷ set (noon 1) ∷ set (noon 0) ∷ lay_out 1 1000 0 ∷ set (noon 1000) ∷ set (noon 999) ∷ [])
    (yes 0 ∷ no 20 ∷ yes 0 ∷ yes 0 ∷ no 20 ∷ yes 0 ∷ []) ([] ∷ three ∷ three ∷ [] ∷ three ∷ three ∷ [])
    (1 ∷ 1000 ∷ 1 ∷ 378734400 ∷ 999 ∷ replicate 13 0)
    -- Fire when ignores the ticks, of any size: at the present second it is 20, one later accepted. A set clock to that second fires it, whatever
    -- its ticks, and one to the last tick before does not.
    ∷ calls (replicate 18 0)
    (lay_out 1 10 0 ∷ create 1 1 ∷ set (noon 3) ∷ fire_when 1 one (noon 9) 7 70 ∷ fire_when 1 one (after_noon 4294967295) 7 70 ∷ set (noon 9) ∷ set (after_noon 0)
    ∷ set (noon 3) ∷ fire_when 1 one (after_noon 10) 7 70 ∷ set (after_noon 9) ∷ [])
    (yes 0 ∷ yes one ∷ yes 0 ∷ no 20 ∷ yes 0 ∷ yes 0 ∷ yes 1 ∷ yes 0 ∷ yes 0 ∷ yes 1 ∷ [])
    ([] ∷ [] ∷ three ∷ [] ∷ [] ∷ three ∷ (one ∷ 7 ∷ 70 ∷ []) ∷ three ∷ [] ∷ (one ∷ 7 ∷ 70 ∷ []) ∷ [])
    (1 ∷ 10 ∷ 1 ∷ 378734401 ∷ 9 ∷ 0 ∷ 0 ∷ 0 ∷ 0 ∷ 0 ∷ 3 ∷ 1 ∷ 0 ∷ 0 ∷ 7 ∷ 70 ∷ 0 ∷ 0 ∷ [])
    -- So does server fire when.
    ∷ calls (replicate 18 0)
    (lay_out 1 10 0 ∷ create 1 1 ∷ initiate_server ∷ set (noon 3) ∷ server_fire_when 1 one (noon 9) 7 70 ∷ server_fire_when 1 one (after_noon 4294967295) 7 70
    ∷ set (noon 9) ∷ set (after_noon 0) ∷ [])
    (yes 0 ∷ yes one ∷ yes 0 ∷ yes 0 ∷ no 20 ∷ yes 0 ∷ yes 0 ∷ yes 0 ∷ [])
    ([] ∷ [] ∷ [] ∷ three ∷ [] ∷ [] ∷ three ∷ three ∷ [])
    (1 ∷ 10 ∷ 1 ∷ 378734401 ∷ 0 ∷ 0 ∷ 0 ∷ 0 ∷ 1 ∷ 1 ∷ 13 ∷ 1 ∷ 0 ∷ 0 ∷ 7 ∷ 70 ∷ 0 ∷ 0 ∷ [])
    -- An interval timer knows no date: three ticks to go, whatever the clock did.
    ∷ calls (replicate 18 0)
    (lay_out 1 10 0 ∷ create 1 1 ∷ fire_after 1 one 3 7 70 ∷ set (noon 9) ∷ tick three ∷ set (noon 0) ∷ set (final_second 9) ∷ tick three ∷ ticks_left 1 one
    ∷ set (first_second 9) ∷ tick three ∷ [])
    (yes 0 ∷ yes one ∷ yes 0 ∷ yes 0 ∷ yes 0 ∷ yes 0 ∷ yes 0 ∷ yes 0 ∷ yes 1 ∷ yes 0 ∷ yes 1 ∷ [])
    ([] ∷ [] ∷ [] ∷ three ∷ three ∷ three ∷ three ∷ three ∷ [] ∷ three ∷ (one ∷ 7 ∷ 70 ∷ []) ∷ [])
    (1 ∷ 10 ∷ 1 ∷ 1 ∷ 0 ∷ 0 ∷ 0 ∷ 0 ∷ 0 ∷ 0 ∷ 2 ∷ 1 ∷ 3 ∷ 0 ∷ 7 ∷ 70 ∷ 0 ∷ 0 ∷ [])
    ∷ []

pub clock-cases : map computed clock_cases ≡ clock_cases
unfolding months_of years valid seconds_of date_of header_sound slot_sound chain_sound ticks_sound dates_sound queue_sound sound status_on outcome
clock-cases = refl

-- how far a set clock with that list moves the clock after those calls on a fresh table of one slot
pub record Move : Type 0 where
  pub per_second : ℕ
  pub calls : List Call
  pub to : WallTime
  pub list : List ℕ

abbrev moved : Move → ℤ
moved m = movement (after (replicate 18 0) (lay_out 1 m.per_second 0 ∷ m.calls)) m.to m.list

abbrev at : ℕ → List Call → WallTime → Move
at t cs w = record { per_second = t; calls = cs; to = w; list = three }

abbrev short_list : ℕ → List Call → WallTime → Move
short_list t cs w = record { per_second = t; calls = cs; to = w; list = replicate 2 99 }

pub moves-cases : map moved
    -- the first since the lay out, with refused ones before it; the next, to the same tick; the first since a second lay out
    (at 10 [] (noon 3) ∷ at 10 (set (noon 10) ∷ set (no_day 0) ∷ tick three ∷ []) (noon 3) ∷ at 10 (set (noon 3) ∷ []) (noon 3)
    ∷ at 10 (set (noon 3) ∷ lay_out 1 10 0 ∷ []) (after_noon 0) ∷ at 10 (set (noon 3) ∷ lay_out 1 10 0 ∷ set (noon 3) ∷ []) (after_noon 0)
    -- by many ticks; forward and back by one, within a second and over its end; ticks since are counted
    ∷ at 10 (set (noon 3) ∷ []) (twenty_past_noon 8) ∷ at 10 (set (noon 3) ∷ []) (noon 4) ∷ at 10 (set (noon 4) ∷ []) (noon 3) ∷ at 10 (set (noon 9) ∷ []) (after_noon 0) ∷ at 10 (set (after_noon 0) ∷ []) (noon 9)
    ∷ at 10 (set (noon 9) ∷ tick three ∷ tick three ∷ []) (noon 9) ∷ at 10 (set (noon 3) ∷ set (noon 10) ∷ []) (after_noon 4)
    -- refused: ticks of T, a day that is none, a list too short
    ∷ at 10 (set (noon 3) ∷ []) (noon 10) ∷ at 10 (set (noon 3) ∷ []) (no_day 0) ∷ short_list 10 (set (noon 3) ∷ []) (noon 4)
    -- from end to end of the calendar, with 1 and with 1,000 ticks a second, and at its end, where the clock stands still
    ∷ at 1 (set (first_second 0) ∷ []) (final_second 0) ∷ at 1 (set (final_second 0) ∷ []) (first_second 0)
    ∷ at 1000 (set (first_second 0) ∷ []) (final_second 999) ∷ at 1000 (set (final_second 999) ∷ []) (first_second 0)
    ∷ at 1000 (set (final_second 999) ∷ tick three ∷ tick three ∷ []) (final_second 999) ∷ at 1000 (set (final_second 998) ∷ tick three ∷ tick three ∷ []) (final_second 998)
    ∷ [])
    ≡ pos 0 ∷ pos 0 ∷ pos 0 ∷ pos 0 ∷ pos 7
    ∷ pos 12345 ∷ pos 1 ∷ negsuc 0 ∷ pos 1 ∷ negsuc 0
    ∷ negsuc 1 ∷ pos 11
    ∷ pos 0 ∷ pos 0 ∷ pos 0
    ∷ pos 3534451199 ∷ negsuc 3534451198
    ∷ pos 3534451199999 ∷ negsuc 3534451199998
    ∷ pos 0 ∷ negsuc 0
    ∷ []
unfolding months_of years valid seconds_of header_sound slot_sound chain_sound ticks_sound dates_sound queue_sound sound status_on outcome
moves-cases = refl
