-- Document 01, "Status numbers", and document 02, read by call: the number that each call gives on any slice of words. Assumes nothing: these are
-- definitions.
use Rattle.std.specs.Prelude.{◌≡◌, ℕ, ◌+◌, ◌*◌, ◌≤◌, ◌<◌, Bool, true, false, cond, not, ◌&&◌, List, [], ◌∷◌, length, leb, ltb, eqb}
use Rattle.calendar.specs.declared.WallTime.{WallTime}
use Rattle.calendar.specs.Calendar.{all_of, valid, seconds_of}
use Rattle.model.specs.Lists.{count, all_from}
use Rattle.model.specs.Calls.{Call, lay_out, create, ident, cancel, delete, fire_after, fire_when, fire_every, reset, ticks_left, tick, set_clock, get_clock, next_due, initiate_server, server_fire_after, server_fire_when, serve, leap}
use Rattle.model.specs.Kinds.{last_by_ticks}
use Rattle.model.specs.Parties.{owns, is_party}
use Rattle.model.specs.State.{id_base, index_of}
use Rattle.model.specs.Words.{sum_of, read, slot_count, ticks_per_second, clock_set, seconds, party_split, server_initiated, kind_of, name_of}
use Rattle.model.specs.Sound.{sound}
use Rattle.model.specs.Directives.{first_tests}
use Rattle.model.specs.Outcome.{outcome}

-- Any call but lay out: 100 where the table is not sound. A call that is lent the fired list: 101 where that is shorter than 3N words.
abbrev pub on_sound : List ℕ → ℕ → ℕ
on_sound t status = cond (sound t) status 100

abbrev pub with_list : List ℕ → List ℕ → ℕ → ℕ
with_list t list status = cond (ltb (length list) (3 * slot_count t)) 101 status

-- A call of a party: 4, right after those, where the number is not 1 or 2, or is 2 and L is 0.
abbrev pub as_party : List ℕ → ℕ → ℕ → ℕ
as_party t party status = cond (is_party (party_split t) party) status 4

-- A call of the timer server: 14, right after those, where that was not initiated.
abbrev pub on_server : List ℕ → ℕ → ℕ
on_server t status = cond (eqb (server_initiated t) 1) status 14

-- A call on a timer: 4 where the index is not 1 to N, the slot is free, or it is not the caller's.
abbrev pub on_timer : List ℕ → ℕ → ℕ → ℕ → ℕ
on_timer t party id status =
    let i = index_of id in cond (all_of (ltb id_base id ∷ leb i (slot_count t) ∷ not (eqb (kind_of t i) 0) ∷ owns (party_split t) party i ∷ [])) status 4

-- none of the caller's slots passes the test
abbrev pub none_own : List ℕ → ℕ → (ℕ → Bool) → Bool
none_own t party p = all_from (λ i. not (owns (party_split t) party i && p i)) 1 (slot_count t)

-- how often a slot stands in the chains of a table
abbrev pub times_linked : List ℕ → ℕ → ℕ
times_linked t i = sum_of (λ _ l. count (λ w. eqb w.slot i) l) (read t)

-- a start for ticks: 10, 9, 4; for a date: 11, 9, 20, 4
abbrev pub for_ticks : List ℕ → ℕ → ℕ → ℕ → ℕ → ℕ
for_ticks t party id n r = cond (eqb n 0) 10 (cond (eqb r 0) 9 (on_timer t party id 0))

abbrev pub for_date : List ℕ → ℕ → ℕ → WallTime → ℕ → ℕ
for_date t party id d r =
    cond (eqb (clock_set t) 1) (cond (eqb r 0) 9 (cond (valid d && ltb (seconds t) (seconds_of d)) (on_timer t party id 0) 20)) 11

abbrev pub status_for : List ℕ → Call → ℕ
status_for t (lay_out n k split) =
    cond (all_of (leb 1 n ∷ leb n 255 ∷ leb 1 k ∷ leb k 1000 ∷ ltb split n ∷ [])) (cond (ltb (length t) (10 + 8 * n)) 8 0) 10
status_for t (create party name) = on_sound t (as_party t party (cond (eqb name 0) 3 (cond (none_own t party (λ i. eqb (kind_of t i) 0)) 5 0)))
status_for t (ident party name) = on_sound t (as_party t party (cond (eqb name 0) 3 (cond (none_own t party (λ i. eqb (name_of t i) name)) 3 0)))
status_for t (cancel party id) = on_sound t (as_party t party (on_timer t party id (cond (eqb (times_linked t (index_of id)) 0) 14 0)))
status_for t (delete party id) = on_sound t (as_party t party (on_timer t party id 0))
status_for t (fire_after party id n r u) = on_sound t (as_party t party (for_ticks t party id n r))
status_for t (fire_when party id d r u) = on_sound t (as_party t party (for_date t party id d r))
status_for t (fire_every party id n r u) = on_sound t (as_party t party (for_ticks t party id n r))
status_for t (reset party id) = on_sound t (as_party t party (on_timer t party id (cond (last_by_ticks (kind_of t (index_of id))) 0 11)))
status_for t (ticks_left party id) = on_sound t (as_party t party (on_timer t party id 0))
status_for t (tick list) = on_sound t (with_list t list 0)
status_for t (set_clock d list) = on_sound t (with_list t list (cond (valid d && ltb d.ticks (ticks_per_second t)) 0 20))
status_for t get_clock = on_sound t (cond (eqb (clock_set t) 1) 0 11)
status_for t next_due = cond (all_of (first_tests t)) 0 100
status_for t initiate_server = on_sound t (cond (eqb (server_initiated t) 1) 14 0)
status_for t (server_fire_after party id n r u) = on_sound t (as_party t party (on_server t (for_ticks t party id n r)))
status_for t (server_fire_when party id d r u) = on_sound t (as_party t party (on_server t (for_date t party id d r)))
status_for t (serve party list) = on_sound t (cond (ltb (length list) 3) 101 (as_party t party (on_server t 0)))
status_for t (leap k list) = on_sound t (with_list t list (cond (leb k 1000000) 0 10))

-- on any slice of words, sound or not
abbrev pub StatusesAre : Type 0
StatusesAre = (t : List ℕ) (c : Call) → (outcome t c).status ≡ status_for t c

-- ---- the slot that create and ident answer

-- slot i is the caller's lowest that passes the test
pub record LowestOwn (t : List ℕ) (party : ℕ) (p : ℕ → Bool) (i : ℕ) : Type 0 where
  pub low : 1 ≤ i
  pub high : i ≤ slot_count t
  pub own : owns (party_split t) party i ≡ true
  pub passes : p i ≡ true
  pub least : (j : ℕ) → 1 ≤ j → j < i → owns (party_split t) party j ≡ true → p j ≡ false
