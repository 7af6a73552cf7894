-- Document 02, item 8: the calls of a recording, and what each leaves. Assumes nothing: these are definitions.
use Rattle.std.specs.Prelude.{ℕ, ◌+◌, ◌-◌, List, [], ◌∷◌, ◌++◌, length, get_or, drop}
use Rattle.calendar.specs.declared.WallTime.{WallTime}
use Rattle.model.specs.Calls.{Call, create, ident, cancel, delete, fire_after, fire_when, reset, ticks_left, tick, set_clock, get_clock}
use Rattle.model.specs.Calls.{fire_every, next_due, initiate_server, server_fire_after, server_fire_when, serve, leap}
use Rattle.model.specs.Outcome.{outcome}

-- the seven words of a wall time, from a word on
abbrev pub wall_time_at : List ℕ → ℕ → WallTime
wall_time_at ws i =
    record {
      year = get_or ws i 0;
      month = get_or ws (i + 1) 0;
      day = get_or ws (i + 2) 0;
      hour = get_or ws (i + 3) 0;
      minute = get_or ws (i + 4) 0;
      second = get_or ws (i + 5) 0;
      ticks = get_or ws (i + 6) 0;
    }

-- "Calls are numbered by the list that opens document 01, create being 2 and get clock 12 .., then 13 to 19: periodic start, next due, initiate, the two
-- server starts, serve, leap": those from create on, each with its arguments in document 01's order, which stand from word 1 on, and with the list
-- that it is lent. "Recordings stay at L = 0, party 1" (item 10).
abbrev pub numbered : List ℕ → List ℕ → List Call
numbered list ws =
    let id = get_or ws 1 0 in
    create 1 (get_or ws 1 0) ∷ ident 1 (get_or ws 1 0) ∷ cancel 1 id ∷ delete 1 id
    ∷ fire_after 1 id (get_or ws 2 0) (get_or ws 3 0) (get_or ws 4 0) ∷ fire_when 1 id (wall_time_at ws 2) (get_or ws 9 0) (get_or ws 10 0)
    ∷ reset 1 id ∷ ticks_left 1 id ∷ tick list ∷ set_clock (wall_time_at ws 1) list ∷ get_clock
    ∷ fire_every 1 id (get_or ws 2 0) (get_or ws 3 0) (get_or ws 4 0) ∷ next_due ∷ initiate_server
    ∷ server_fire_after 1 id (get_or ws 2 0) (get_or ws 3 0) (get_or ws 4 0) ∷ server_fire_when 1 id (wall_time_at ws 2) (get_or ws 9 0) (get_or ws 10 0)
    ∷ serve 1 list ∷ leap (get_or ws 1 0) list ∷ []

-- the call of eleven words
unfoldable pub call_of : List ℕ → List ℕ → Call
call_of list ws = get_or (numbered list ws) (get_or ws 0 0 - 2) get_clock

-- what a call leaves: its status, the table, and the list, which stays but for the words that the call was lent
pub record Step : Type 0 where
  pub status : ℕ
  pub table : List ℕ
  pub list : List ℕ

abbrev pub step_of : ℕ → List ℕ → List ℕ → Step
step_of status table list = record { status = status; table = table; list = list }

unfoldable pub step : List ℕ → List ℕ → List ℕ → Step
step table list ws =
    let o = outcome table (call_of list ws) in
    step_of o.status o.table (o.list ++ drop (length o.list) list)
