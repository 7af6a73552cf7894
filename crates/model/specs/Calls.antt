-- The calls with their arguments, in document 01's order, document 02's beside those that they are like or behind them. A list that is lent to a call
-- comes with its words. A call of a party has its number first; get clock takes none, and all other calls are the bench's own.
-- Assumes nothing: these are definitions.
use Rattle.std.specs.Prelude.{ℕ, Bool, cond, List, [], eqb}
use Rattle.calendar.specs.declared.WallTime.{WallTime}

pub data Call : Type 0 where
  -- N, T, L
  lay_out : ℕ → ℕ → ℕ → Call
  -- party, name
  create : ℕ → ℕ → Call
  ident : ℕ → ℕ → Call
  -- party, id
  cancel : ℕ → ℕ → Call
  delete : ℕ → ℕ → Call
  -- party, id, ticks or wall time, routine, data
  fire_after : ℕ → ℕ → ℕ → ℕ → ℕ → Call
  fire_when : ℕ → ℕ → WallTime → ℕ → ℕ → Call
  fire_every : ℕ → ℕ → ℕ → ℕ → ℕ → Call
  -- party, id
  reset : ℕ → ℕ → Call
  ticks_left : ℕ → ℕ → Call
  -- the lent list, after set clock's wall time
  tick : List ℕ → Call
  set_clock : WallTime → List ℕ → Call
  get_clock : Call
  next_due : Call
  -- the timer server: initiate; starts as fire after and fire when; serve, with the party and the lent list
  initiate_server : Call
  server_fire_after : ℕ → ℕ → ℕ → ℕ → ℕ → Call
  server_fire_when : ℕ → ℕ → WallTime → ℕ → ℕ → Call
  serve : ℕ → List ℕ → Call
  -- ticks in one call, and the lent list
  leap : ℕ → List ℕ → Call

-- the calls' numbers: from 1 by the list that opens document 01, then by document 02, item 8
abbrev pub call_number : Call → ℕ
call_number (lay_out n t split) = 1
call_number (create party name) = 2
call_number (ident party name) = 3
call_number (cancel party id) = 4
call_number (delete party id) = 5
call_number (fire_after party id n r u) = 6
call_number (fire_when party id w r u) = 7
call_number (reset party id) = 8
call_number (ticks_left party id) = 9
call_number (tick list) = 10
call_number (set_clock w list) = 11
call_number get_clock = 12
call_number (fire_every party id n r u) = 13
call_number next_due = 14
call_number initiate_server = 15
call_number (server_fire_after party id n r u) = 16
call_number (server_fire_when party id w r u) = 17
call_number (serve party list) = 18
call_number (leap k list) = 19

-- lay out takes any slice of words, and next due any in which it finds what it reads; every other call wants a sound table
abbrev pub is_lay_out : Call → Bool
is_lay_out c = eqb (call_number c) 1

abbrev pub is_next_due : Call → Bool
is_next_due c = eqb (call_number c) 14

-- a leap is several ticks
abbrev pub is_leap : Call → Bool
is_leap c = eqb (call_number c) 19

-- the list that is lent to a call; no words where it takes none
abbrev pub lent_to : Call → List ℕ
lent_to (lay_out n t split) = []
lent_to (create party name) = []
lent_to (ident party name) = []
lent_to (cancel party id) = []
lent_to (delete party id) = []
lent_to (fire_after party id n r u) = []
lent_to (fire_when party id w r u) = []
lent_to (fire_every party id n r u) = []
lent_to (reset party id) = []
lent_to (ticks_left party id) = []
lent_to (tick list) = list
lent_to (set_clock w list) = list
lent_to get_clock = []
lent_to next_due = []
lent_to initiate_server = []
lent_to (server_fire_after party id n r u) = []
lent_to (server_fire_when party id w r u) = []
lent_to (serve party list) = list
lent_to (leap k list) = list

-- how many numbers a call answers: get clock seven, leap two, any other one; how far a set clock moved stands beside (`movement`)
abbrev pub answer_count : Call → ℕ
answer_count c = cond (is_leap c) 2 (cond (eqb (call_number c) 12) 7 1)
