-- Next due: both sides of each of its rules, computed from the definitions on tables that no other call takes. Assumes nothing.
use mathlib.Core.Path.{◌≡◌, refl}
use Prim.Native.Nat.{ℕ}
use mathlib.Core.Bool.{true, not}
use mathlib.Core.List.{List, [], ◌∷◌, ◌++◌, map}
use lib.ListN.{replicate}
use Rattle.model.specs.Lists.{every}
use Rattle.model.specs.Calls.{next_due}
use Rattle.model.specs.Sound.{header_sound, slot_sound, chain_sound, ticks_sound, dates_sound, queue_sound, sound}
use Rattle.model.specs.Outcome.{outcome_of, status_on, outcome}
use Rattle.model.specs.NextDue.{slots_up}

-- 100, and status 0 with that answer
abbrev refused : List ℕ
refused = 100 ∷ 0 ∷ []

abbrev answers : ℕ → List ℕ
answers n = 0 ∷ n ∷ []

-- status and answer on each table
abbrev asked : List (List ℕ) → List (List ℕ)
asked ts = map (λ t. (outcome t next_due).status ∷ (outcome t next_due).answer) ts

-- ---- the rules: the slice, and N

-- N and then so many zeros
abbrev sized : ℕ → ℕ → List ℕ
sized n zeros = n ∷ replicate zeros 0

-- no word; 9 words; 10, where N is 0; 17, 18 and 19 where it is 1; 2049 and 2050 where it is 255; enough where it is 256, and where it is 0
pub by_size : asked ([] ∷ sized 1 8 ∷ sized 0 9 ∷ sized 1 16 ∷ sized 1 17 ∷ sized 1 18 ∷ sized 255 2048 ∷ sized 255 2049 ∷ sized 256 2057 ∷ sized 0 2057 ∷ [])
    ≡ refused ∷ refused ∷ refused ∷ refused ∷ answers 0 ∷ answers 0 ∷ refused ∷ answers 0 ∷ refused ∷ refused ∷ []
unfolding status_on outcome
by_size = refl

-- ---- the rules: word 5 and the slot that it names

-- Two slots and one past them, each of kind 4, with waits 7, 8 and 9; every other word is of no sound table. Word 5 is 0 to 4, and the greatest number.
abbrev three_slots : ℕ → List ℕ
three_slots head =
    2 ∷ 0 ∷ 6 ∷ 6 ∷ 6 ∷ head ∷ 6 ∷ 6 ∷ 6 ∷ 6
    ∷ 4 ∷ 0 ∷ 0 ∷ 7 ∷ 0 ∷ 5 ∷ 1 ∷ 1
    ∷ 4 ∷ 0 ∷ 0 ∷ 8 ∷ 0 ∷ 5 ∷ 1 ∷ 1
    ∷ 4 ∷ 0 ∷ 0 ∷ 9 ∷ 0 ∷ 5 ∷ 1 ∷ 1 ∷ []

pub by-head : asked (map three_slots (0 ∷ 1 ∷ 2 ∷ 3 ∷ 4 ∷ 4294967295 ∷ [])) ≡ answers 0 ∷ answers 7 ∷ answers 8 ∷ refused ∷ refused ∷ refused ∷ []
unfolding status_on outcome
by-head = refl

-- one slot, which word 5 names, with that word 8, kind and wait; every other word is 0
abbrev one_slot : ℕ → ℕ → ℕ → List ℕ
one_slot server kind wait = 1 ∷ 0 ∷ 0 ∷ 0 ∷ 0 ∷ 1 ∷ 0 ∷ 0 ∷ server ∷ 0 ∷ kind ∷ 0 ∷ 0 ∷ wait ∷ 0 ∷ 0 ∷ 0 ∷ 0 ∷ []

-- Kinds 4, 6 and 10 wait for ticks, no other from 0 to 14 does, and word 8 is not asked.
abbrev by_kind : List (List ℕ)
by_kind = replicate 4 (refused) ++ (answers 3 ∷ refused ∷ answers 3 ∷ refused ∷ refused ∷ refused ∷ answers 3 ∷ replicate 4 (refused))

pub by-kind : map (λ server. asked (map (λ kind. one_slot server kind 3) (slots_up 0 15))) (0 ∷ 1 ∷ 2 ∷ []) ≡ by_kind ∷ by_kind ∷ by_kind ∷ []
unfolding status_on outcome
by-kind = refl

-- A wait of 0, of 1 and the greatest, for each of these kinds.
pub by-wait : map (λ kind. asked (map (one_slot 0 kind) (0 ∷ 1 ∷ 4294967295 ∷ []))) (4 ∷ 6 ∷ 10 ∷ [])
    ≡ replicate 3 (refused ∷ answers 1 ∷ answers 4294967295 ∷ [])
unfolding status_on outcome
by-wait = refl

-- No other call takes these tables.
pub none-sound : every (λ t. not (sound t)) (sized 1 17 ∷ three_slots 0 ∷ three_slots 2 ∷ one_slot 0 4 3 ∷ []) ≡ true
unfolding header_sound slot_sound chain_sound ticks_sound dates_sound queue_sound sound
none-sound = refl

-- The words stay where it answers and where it refuses.
pub words-stay : map (λ t. outcome t next_due) (three_slots 2 ∷ three_slots 3 ∷ [])
    ≡ outcome_of 0 (8 ∷ []) (three_slots 2) [] ∷ outcome_of 100 (0 ∷ []) (three_slots 3) [] ∷ []
unfolding status_on outcome
words-stay = refl

-- ---- 100 far off its limits: many slots, and numbers that are no kind

abbrev of_kind : ℕ → List ℕ
of_kind kind = 1 ∷ 10 ∷ 0 ∷ 0 ∷ 0 ∷ 1 ∷ 0 ∷ 0 ∷ 0 ∷ 0 ∷ kind ∷ 1 ∷ 5 ∷ 5 ∷ 7 ∷ 70 ∷ 0 ∷ 0 ∷ []

pub far-off : map (λ t. status_on t next_due)
    ((257 ∷ replicate 2065 0) ∷ (1000 ∷ replicate 8009 0) ∷ map of_kind (14 ∷ 15 ∷ 16 ∷ 260 ∷ 4294967295 ∷ []))
    ≡ replicate 7 100
unfolding status_on
far-off = refl
