-- The tests of a slot's words as the code makes them. Assumes nothing: these are definitions.
use Rattle.std.specs.Prelude.{ℕ, Bool, true, cond, ◌&&◌, ◌||◌, List, [], ◌∷◌, get_or, set, ltb, eqb}
use Rattle.calendar.specs.Calendar.{all_of}
use Rattle.model.specs.declared.Chain.TheVariants.{ByTicks}
use Rattle.model.specs.Kinds.{waits_in}
use Rattle.model.specs.Words.{kind_of, name_of, interval_of}
use Rattle.model.specs.Sound.{unlinked, unstarted, slot_tests}

-- all three numbers are zero
abbrev pub all_zero : ℕ → ℕ → ℕ → Bool
all_zero a b c = all_of (eqb a 0 ∷ eqb b 0 ∷ eqb c 0 ∷ [])

-- a slot that is free or was never started: its name is zero just where it is free
abbrev pub new_tested : List ℕ → ℕ → ℕ → Bool
new_tested t i kind = cond (eqb kind 0) (eqb (name_of t i) 0) (ltb 0 (name_of t i)) && (unstarted t i && unlinked t i)

-- an idle slot: its interval is zero after a start by date, 1 or more after one by interval
abbrev pub idle_tested : List ℕ → ℕ → Bool → Bool
idle_tested t i dated = unlinked t i && cond dated (eqb (interval_of t i) 0) (ltb 0 (interval_of t i))

-- The tests of a slot's words that are made: the model's, but for that of the interval where the slot waits for ticks. Whether server timers may occur
-- is known beforehand.
abbrev pub slot_tests_made : Bool → List ℕ → ℕ → ℕ → List Bool
slot_tests_made server t i kind =
    set (set (slot_tests t i kind) 5 (waits_in ByTicks kind || get_or (slot_tests t i kind) 5 true)) 7 (ltb kind 8 || server)

abbrev pub slot_tested_as : Bool → List ℕ → ℕ → ℕ → Bool
slot_tested_as server t i kind = all_of (slot_tests_made server t i kind)

unfoldable pub slot_tested : Bool → List ℕ → ℕ → Bool
slot_tested server t i = slot_tested_as server t i (kind_of t i)
