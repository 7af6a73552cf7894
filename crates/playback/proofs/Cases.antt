-- Recordings that are replayed, in tables, each under one statement that is computed from the definitions. Assumes nothing.
use mathlib.Core.Path.{◌≡◌, refl}
use Prim.Native.Nat.{ℕ, ◌-◌}
use mathlib.Core.Option.{Option, none, some}
use mathlib.Core.List.{List, [], ◌∷◌, ◌++◌, map}
use lib.ListN.{length, replicate}
use Rattle.calendar.specs.Calendar.{months_of, years, valid, seconds_of}
use Rattle.model.specs.Sound.{header_sound, slot_sound, chain_sound, ticks_sound, dates_sound, queue_sound, sound}
use Rattle.model.specs.Outcome.{status_on, outcome}
use Rattle.recording.specs.Format.{words_of, bytes_of, arguments, call_rules, calls_rules, layout, right, reading_of}
use Rattle.recorded_timer.specs.RecordedCalls.{call_of, step}
use Rattle.playback.specs.Replay.{Replay, played_from, replaying}

-- ---- recordings

-- a call with the status expected of it
pub record Expected : Type 0 where
  pub words : List ℕ
  pub status : ℕ

-- a call's number and its arguments
abbrev call : ℕ → List ℕ → ℕ → Expected
call number arguments status = record { words = number ∷ arguments ++ replicate (10 - length arguments) 0; status = status }

abbrev joined : List Expected → List ℕ
joined [] = []
joined (e ∷ es) = e.words ++ joined es

abbrev file_for : ℕ → ℕ → List Expected → List ℕ
file_for slots rate day = bytes_of (2 ∷ slots ∷ rate ∷ length day ∷ (joined day ++ length day ∷ map (λ (e : Expected). e.status) day))

-- N 3, T 10
abbrev file : List Expected → List ℕ
file day = file_for 3 10 day

abbrev first : ℕ
first = 302055425

abbrev second : ℕ
second = 302055426

-- ---- document 01's session

abbrev session : ℕ → List Expected
session last =
    call 2 (1 ∷ []) 0 ∷ call 2 (2 ∷ []) 0
    ∷ call 6 (first ∷ 5 ∷ 7 ∷ 70 ∷ []) 0 ∷ call 6 (second ∷ 5 ∷ 8 ∷ 80 ∷ []) 0
    ∷ call 10 [] 0 ∷ call 10 [] 0 ∷ call 10 [] 0 ∷ call 10 [] 0 ∷ call 10 [] last ∷ []

-- the table and the list that it leaves, and a word more of each, which stays
abbrev table_after : List ℕ
table_after = 3 ∷ 10 ∷ replicate 8 0 ++ 2 ∷ 1 ∷ 5 ∷ 0 ∷ 7 ∷ 70 ∷ 0 ∷ 0 ∷ 2 ∷ 2 ∷ 5 ∷ 0 ∷ 8 ∷ 80 ∷ 0 ∷ 0 ∷ replicate 8 0 ++ 9 ∷ []

abbrev list_after : List ℕ
list_after = first ∷ 7 ∷ 70 ∷ second ∷ 8 ∷ 80 ∷ replicate 4 5

abbrev after : Option ℕ → Replay
after place = record { status = 0; place = place; table = table_after; list = list_after }

-- what is refused, and leaves words of table and list
abbrev refused : ℕ → ℕ → ℕ → ℕ → Replay
refused status position words entries = record { status = status; place = some position; table = replicate words 9; list = replicate entries 5 }

-- a replay on so many words of table and list
abbrev on : ℕ → ℕ → List ℕ → Replay
on words entries bytes = replaying bytes (replicate words 9) (replicate entries 5)

-- a tick that fires nothing, and get clock before the clock is set: they leave what the session left
abbrev later : List Expected
later = call 10 [] 0 ∷ call 12 [] 11 ∷ []

-- ten words more of each, which stay
abbrev after_more : Replay
after_more = record { status = 0; place = none; table = table_after ++ replicate 10 9; list = list_after ++ replicate 10 5 }

-- it agrees; another status of the last tick differs there; calls behind that tick; longer lists; one word too few of table, of list, of both; a wrong
-- file, with both too short besides
pub session-cases : on 35 10 (file (session 0)) ∷ on 35 10 (file (session 100))
    ∷ on 35 10 (file (session 0 ++ later)) ∷ on 45 20 (file (session 0))
    ∷ on 33 9 (file (session 0)) ∷ on 34 8 (file (session 0)) ∷ on 33 8 (file (session 0))
    ∷ on 33 8 (file (session 0) ++ 0 ∷ []) ∷ on 0 0 [] ∷ []
    ≡ after none ∷ after (some 8) ∷ after none ∷ after_more ∷ refused 8 0 33 9 ∷ refused 101 0 34 8 ∷ refused 8 0 33 8 ∷ refused 10 113 33 8 ∷ refused 10 0 0 0 ∷ []
unfolding header_sound slot_sound chain_sound ticks_sound dates_sound queue_sound sound status_on outcome words_of bytes_of arguments call_rules calls_rules layout right reading_of call_of step played_from replaying
session-cases = refl

-- nothing is replayed behind the call that differs: the second timer is not created
pub stops-there : on 34 9 (file (call 2 (1 ∷ []) 4 ∷ call 2 (2 ∷ []) 0 ∷ []))
    ≡ record { status = 0; place = some 0; table = 3 ∷ 10 ∷ replicate 8 0 ++ 1 ∷ 1 ∷ replicate 22 0; list = replicate 9 5 }
unfolding header_sound slot_sound chain_sound ticks_sound dates_sound queue_sound sound status_on outcome words_of bytes_of arguments call_rules calls_rules layout right reading_of call_of step played_from replaying
stops-there = refl

-- ---- the place

-- a day with the place of the first call that differs
pub record Day : Type 0 where
  pub calls : List Expected
  pub place : Option ℕ

abbrev day : List Expected → Option ℕ → Day
day calls place = record { calls = calls; place = place }

-- 2000-01-01 00:00:00
abbrev clock_set : Expected
clock_set = call 11 (2000 ∷ 1 ∷ 1 ∷ 0 ∷ 0 ∷ 0 ∷ 0 ∷ []) 0

-- with a routine and user data
abbrev dated : ℕ → ℕ → List ℕ
dated routine user_data = first ∷ 2000 ∷ 1 ∷ 1 ∷ 0 ∷ 0 ∷ 1 ∷ 0 ∷ routine ∷ user_data ∷ []

abbrev days : List Day
days =
    -- no call; two statuses differ, and the first counts; a status that only differs in its highest byte
    day [] none
    ∷ day (call 2 (1 ∷ []) 0 ∷ call 2 (0 ∷ []) 4 ∷ call 12 [] 11 ∷ call 12 [] 0 ∷ []) (some 1)
    ∷ day (call 2 (1 ∷ []) 0 ∷ call 2 (0 ∷ []) 3 ∷ call 12 [] 11 ∷ call 12 [] 0 ∷ []) (some 3)
    ∷ day (call 2 (1 ∷ []) 16777216 ∷ []) (some 0)
    -- calls 4 and 9: a timer that never started is not cancelled, and has no ticks left
    ∷ day (call 2 (1 ∷ []) 0 ∷ call 4 (first ∷ []) 14 ∷ call 9 (first ∷ []) 0 ∷ []) none
    ∷ day (call 2 (1 ∷ []) 0 ∷ call 4 (first ∷ []) 0 ∷ []) (some 1)
    -- calls 4 and 5: what is deleted is named no more
    ∷ day (call 2 (1 ∷ []) 0 ∷ call 5 (first ∷ []) 0 ∷ call 4 (first ∷ []) 4 ∷ []) none
    -- a start whose routine is 0 and data is not
    ∷ day (call 2 (1 ∷ []) 0 ∷ clock_set ∷ call 15 [] 0 ∷ call 6 (first ∷ 1 ∷ 0 ∷ 7 ∷ []) 9 ∷ call 7 (dated 0 7) 9 ∷ call 13 (first ∷ 1 ∷ 0 ∷ 7 ∷ []) 9
    ∷ call 16 (first ∷ 1 ∷ 0 ∷ 7 ∷ []) 9 ∷ call 17 (dated 0 7) 9 ∷ []) none
    -- and one whose data is 0 and routine is not
    ∷ day (call 2 (1 ∷ []) 0 ∷ clock_set ∷ call 15 [] 0 ∷ call 6 (first ∷ 1 ∷ 7 ∷ 0 ∷ []) 0 ∷ call 7 (dated 7 0) 0 ∷ call 13 (first ∷ 1 ∷ 7 ∷ 0 ∷ []) 0
    ∷ call 16 (first ∷ 1 ∷ 7 ∷ 0 ∷ []) 0 ∷ call 17 (dated 7 0) 0 ∷ []) none
    -- a timer of the server is due in a leap, is started again, cancelled, and is not there to be served
    ∷ day (call 2 (1 ∷ []) 0 ∷ call 18 [] 14 ∷ call 15 [] 0 ∷ call 15 [] 14 ∷ call 16 (first ∷ 3 ∷ 7 ∷ 70 ∷ []) 0 ∷ call 14 [] 0 ∷ call 19 (1000001 ∷ []) 10
    ∷ call 19 (5 ∷ []) 0 ∷ call 8 (first ∷ []) 0 ∷ call 4 (first ∷ []) 0 ∷ call 4 (first ∷ []) 14 ∷ call 18 [] 0 ∷ call 3 (1 ∷ []) 0 ∷ call 3 (2 ∷ []) 3 ∷ []) none
    -- a fourth timer does not go into the table
    ∷ day (call 2 (1 ∷ []) 0 ∷ call 2 (1 ∷ []) 0 ∷ call 2 (1 ∷ []) 0 ∷ call 2 (1 ∷ []) 0 ∷ []) (some 3)
    ∷ []

pub places : map (λ (d : Day). (on 34 9 (file d.calls)).place) days ≡ map (λ (d : Day). d.place) days
unfolding months_of years valid seconds_of header_sound slot_sound chain_sound ticks_sound dates_sound queue_sound sound status_on outcome words_of bytes_of arguments call_rules calls_rules layout right reading_of call_of step played_from replaying
places = refl

-- ---- N and T are those of the recording

-- 2000-01-01 00:00:00 and so many ticks
abbrev set_to : ℕ → ℕ → Expected
set_to ticks status = call 11 (2000 ∷ 1 ∷ 1 ∷ 0 ∷ 0 ∷ 0 ∷ ticks ∷ []) status

-- N 1, T 1: a second timer is too many, a tick is a second, and there is no tick 1 of a second
abbrev small : List Expected
small = call 2 (1 ∷ []) 0 ∷ call 2 (1 ∷ []) 5 ∷ set_to 1 20 ∷ set_to 0 0 ∷ call 10 [] 0 ∷ []

abbrev small_after : Replay
small_after = record { status = 0; place = none; table = 1 ∷ 1 ∷ 1 ∷ 378691201 ∷ replicate 6 0 ++ 1 ∷ 1 ∷ replicate 6 0; list = replicate 3 5 }

-- N 4, T 1,000: four timers fire in one tick, the last of a second, and the list is full
abbrev large : List Expected
large =
    call 2 (1 ∷ []) 0 ∷ call 2 (1 ∷ []) 0 ∷ call 2 (1 ∷ []) 0 ∷ call 2 (1 ∷ []) 0 ∷ call 2 (1 ∷ []) 5
    ∷ set_to 1000 20 ∷ set_to 999 0
    ∷ call 6 (first ∷ 1 ∷ 7 ∷ 71 ∷ []) 0 ∷ call 6 (second ∷ 1 ∷ 7 ∷ 72 ∷ []) 0
    ∷ call 6 (302055427 ∷ 1 ∷ 7 ∷ 73 ∷ []) 0 ∷ call 6 (302055428 ∷ 1 ∷ 7 ∷ 74 ∷ []) 0
    ∷ call 10 [] 0 ∷ []

abbrev fired : ℕ → List ℕ
fired user_data = 2 ∷ 1 ∷ 1 ∷ 0 ∷ 7 ∷ user_data ∷ 0 ∷ 0 ∷ []

abbrev large_after : Replay
large_after = record {
  status = 0;
  place = none;
  table = 4 ∷ 1000 ∷ 1 ∷ 378691201 ∷ replicate 6 0 ++ fired 71 ++ fired 72 ++ fired 73 ++ fired 74;
  list = first ∷ 7 ∷ 71 ∷ second ∷ 7 ∷ 72 ∷ 302055427 ∷ 7 ∷ 73 ∷ 302055428 ∷ 7 ∷ 74 ∷ [];
}

-- each on just enough words, and on one too few of table and of list
pub numbers-used : on 18 3 (file_for 1 1 small) ∷ on 17 3 (file_for 1 1 small) ∷ on 18 2 (file_for 1 1 small)
    ∷ on 42 12 (file_for 4 1000 large) ∷ on 41 12 (file_for 4 1000 large) ∷ on 42 11 (file_for 4 1000 large) ∷ []
    ≡ small_after ∷ refused 8 0 17 3 ∷ refused 101 0 18 2 ∷ large_after ∷ refused 8 0 41 12 ∷ refused 101 0 42 11 ∷ []
unfolding months_of years valid seconds_of header_sound slot_sound chain_sound ticks_sound dates_sound queue_sound sound status_on outcome words_of bytes_of arguments call_rules calls_rules layout right reading_of call_of step played_from replaying
numbers-used = refl
