-- Document 01, "A table is sound when all of this holds", a definition for each bullet, and document 02, items 1, 5 and 10. Assumes nothing: these are
-- definitions.
use Rattle.std.specs.Prelude.{ℕ, suc, ◌+◌, ◌*◌, Bool, true, cond, not, ◌&&◌, ◌||◌, List, [], ◌∷◌, length, leb, ltb, eqb}
use Rattle.model.specs.Lists.{count, every, all_from}
use Rattle.model.specs.Kinds.{Chain, ByTicks, ByDate, Queue, linked, waits_in, last_by_ticks}
use Rattle.model.specs.State.{Link}
use Rattle.calendar.specs.Calendar.{all_of, last_second}
use Rattle.model.specs.Words.{word, head_word, along, links, slot_count, ticks_per_second, clock_set, seconds, ticks_into, first_dated, party_split, server_initiated, kind_of, name_of, interval_of, wait_of, routine_of, data_of, next_of, previous_of}

-- The slice has 10 + 8N words or more and the header is as above, word 7 0 to N - 1, word 8 0 or 1. If the clock is not set, words 3, 4 and 6 are
-- zero.
abbrev pub header_tests : List ℕ → List Bool
header_tests t =
    leb 1 (slot_count t) ∷ leb (slot_count t) 255 ∷ leb (10 + 8 * slot_count t) (length t)
    ∷ leb 1 (ticks_per_second t) ∷ leb (ticks_per_second t) 1000 ∷ leb (clock_set t) 1 ∷ leb (seconds t) last_second ∷ ltb (ticks_into t) (ticks_per_second t)
    ∷ ltb (party_split t) (slot_count t) ∷ leb (server_initiated t) 1
    ∷ (eqb (clock_set t) 1 || all_of (eqb (seconds t) 0 ∷ eqb (ticks_into t) 0 ∷ eqb (first_dated t) 0 ∷ [])) ∷ []

unfoldable pub header_sound : List ℕ → Bool
header_sound t = all_of (header_tests t)

-- wait, next and previous are zero; interval, routine and user data are zero
abbrev pub unlinked : List ℕ → ℕ → Bool
unlinked t i = all_of (eqb (wait_of t i) 0 ∷ eqb (next_of t i) 0 ∷ eqb (previous_of t i) 0 ∷ [])

abbrev pub unstarted : List ℕ → ℕ → Bool
unstarted t i = all_of (eqb (interval_of t i) 0 ∷ eqb (routine_of t i) 0 ∷ eqb (data_of t i) 0 ∷ [])

-- Every kind is 0 to 13, 8 to 13 only where word 8 is 1. Kind 0: every other word zero. Kind 1: name not zero, the rest zero. Others: name and
-- routine not zero. Interval is 1 or more for 2, 4, 6 to 8, 10 and 12, zero for 3, 5, 9, 11 and 13. Those in no chain have wait and links zero.
abbrev pub slot_tests : List ℕ → ℕ → ℕ → List Bool
slot_tests t i kind =
    leb kind 13
    ∷ (not (eqb kind 0) || eqb (name_of t i) 0)
    ∷ (eqb kind 0 || ltb 0 (name_of t i))
    ∷ (ltb 1 kind || unstarted t i)
    ∷ (ltb kind 2 || ltb 0 (routine_of t i))
    ∷ cond (last_by_ticks kind) (ltb 0 (interval_of t i)) (eqb (interval_of t i) 0)
    ∷ (linked kind || unlinked t i)
    ∷ (ltb kind 8 || eqb (server_initiated t) 1) ∷ []

abbrev pub slot_sound_as : List ℕ → ℕ → ℕ → Bool
slot_sound_as t i kind = all_of (slot_tests t i kind)

unfoldable pub slot_sound : List ℕ → ℕ → Bool
slot_sound t i = slot_sound_as t i (kind_of t i)

-- Previous is the slot before, 0 for the first.
abbrev pub previous_sound : List ℕ → ℕ → List ℕ → Bool
previous_sound t p [] = true
previous_sound t p (i ∷ l) = eqb (previous_of t i) p && previous_sound t i l

-- The chain, followed by next from its head word, ends at 0 and meets every slot of its kind exactly once and no other.
abbrev pub chain_tests : Chain → List ℕ → List Bool
chain_tests k t =
    let slots = along (next_of t) (slot_count t) (word t (head_word k)) in
    leb (length (along (next_of t) (suc (slot_count t)) (word t (head_word k)))) (slot_count t)
    ∷ every (λ i. leb i (slot_count t)) slots
    ∷ all_from (λ i. eqb (count (λ j. eqb j i) slots) (cond (waits_in k (kind_of t i)) 1 0)) 1 (slot_count t)
    ∷ previous_sound t 0 slots ∷ []

unfoldable pub chain_sound : Chain → List ℕ → Bool
chain_sound k t = all_of (chain_tests k t)

-- The first wait is at least 1. No ticks left exceed the slot's interval.
abbrev pub first_sound : List Link → Bool
first_sound [] = true
first_sound (w ∷ ws) = leb 1 w.wait

unfoldable pub ticks_sound : List ℕ → Bool
ticks_sound t = first_sound (links ByTicks t) && every (λ w. leb w.wait (interval_of t w.slot)) (links ByTicks t)

-- A date is above word 3 and not past the last second. Dates never fall along the chain.
abbrev pub rising : ℕ → List Link → Bool
rising b [] = true
rising b (w ∷ ws) = leb b w.wait && rising w.wait ws

unfoldable pub dates_sound : List ℕ → Bool
dates_sound t = rising (suc (seconds t)) (links ByDate t) && every (λ w. leb w.wait last_second) (links ByDate t)

-- In the queue every wait is 0.
unfoldable pub queue_sound : List ℕ → Bool
queue_sound t = every (λ w. eqb w.wait 0) (links Queue t)

-- A table is sound when all of this holds.
abbrev pub sound_tests : List ℕ → List Bool
sound_tests t =
    header_sound t ∷ all_from (slot_sound t) 1 (slot_count t) ∷ chain_sound ByTicks t ∷ chain_sound ByDate t ∷ chain_sound Queue t ∷ ticks_sound t ∷ dates_sound t
    ∷ queue_sound t ∷ []

unfoldable pub sound : List ℕ → Bool
sound t = all_of (sound_tests t)
