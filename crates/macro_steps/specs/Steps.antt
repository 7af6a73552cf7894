-- Document 02, item 11, the macro runner: a macro's words as steps. Assumes nothing: these are definitions.
use Rattle.std.specs.Prelude.{ℕ, zero, suc, ◌+◌, ◌*◌, ◌/◌, cond, List, [], ◌∷◌, length, get_or, leb, ltb, eqb}
use Rattle.calendar.specs.Calendar.{all_of}
pub use Rattle.macro_steps.specs.declared.Step.{Step}
pub use Rattle.macro_steps.specs.declared.Step.TheVariants.{Arm, Cancel, Wait, Check, Repeat, End, Sign, NoStep}

-- "kinds 1 to 7: arm .., cancel, wait .., check, repeat .., end, sign"; 0 where there is no step
abbrev pub kind_of : Step → ℕ
kind_of (Arm id ticks routine user_data) = 1
kind_of (Cancel id) = 2
kind_of (Wait id) = 3
kind_of Check = 4
kind_of (Repeat times) = 5
kind_of End = 6
kind_of Sign = 7
kind_of NoStep = 0

-- how many times a repeat step repeats
abbrev pub times_of : Step → ℕ
times_of (Arm id ticks routine user_data) = 0
times_of (Cancel id) = 0
times_of (Wait id) = 0
times_of Check = 0
times_of (Repeat times) = times
times_of End = 0
times_of Sign = 0
times_of NoStep = 0

-- check, end and sign have no argument
unfoldable pub bare : ℕ → Step
bare kind = cond (eqb kind 4) Check (cond (eqb kind 6) End (cond (eqb kind 7) Sign NoStep))

-- cancel and wait have an id, "repeat 1 to 100 times" its number
unfoldable pub with_one : ℕ → ℕ → Step
with_one kind a =
    cond (eqb kind 2) (Cancel a)
    (cond (eqb kind 3) (Wait a)
    (cond (eqb kind 5) (cond (all_of (leb 1 a ∷ leb a 100 ∷ [])) (Repeat a) NoStep)
    (cond (eqb a 0) (bare kind) NoStep)))

-- "five 32-bit words (kind, arguments, zeros to fill)": arm has four arguments, "as fire after", and any other step one at most
unfoldable pub step_of : ℕ → ℕ → ℕ → ℕ → ℕ → Step
step_of kind a b c d =
    cond (eqb kind 1) (Arm a b c d) (cond (all_of (eqb b 0 ∷ eqb c 0 ∷ eqb d 0 ∷ [])) (with_one kind a) NoStep)

-- how many steps the words are
abbrev pub count : List ℕ → ℕ
count ws = length ws / 5

-- the step at a place, counted from 0; none past the last
unfoldable pub step_at : List ℕ → ℕ → Step
step_at ws i =
    cond (ltb i (count ws))
    (step_of (get_or ws (5 * i) 0) (get_or ws (5 * i + 1) 0) (get_or ws (5 * i + 2) 0) (get_or ws (5 * i + 3) 0) (get_or ws (5 * i + 4) 0))
    NoStep

abbrev pub kind_at : List ℕ → ℕ → ℕ
kind_at ws i = kind_of (step_at ws i)

-- the kinds of n steps from place i on, and of all
abbrev pub kinds_from : List ℕ → ℕ → ℕ → List ℕ
kinds_from ws i zero = []
kinds_from ws i (suc n) = kind_at ws i ∷ kinds_from ws (suc i) n

abbrev pub kinds : List ℕ → List ℕ
kinds ws = kinds_from ws 0 (count ws)
