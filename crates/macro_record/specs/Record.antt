-- Document 02, item 11: the runner's record. When a step on it is refused, and what becomes of it in a step, by what the manager answered. Assumes nothing:
-- these are definitions.
use Rattle.std.specs.Prelude.{ℕ, ◌+◌, ◌-◌, Bool, cond, List, [], ◌∷◌, length, get_or, set, replicate, eqb, leb, ltb}
use Rattle.calendar.specs.Calendar.{all_of}
use Rattle.model.specs.Lists.{all_from}
use Rattle.macro_steps.specs.declared.Step.{Step}
use Rattle.macro_steps.specs.declared.Step.TheVariants.{Arm, Cancel, Wait, Check, Repeat, End, Sign, NoStep}
use Rattle.macro_steps.specs.Steps.{times_of, count, step_at}
use Rattle.macro_check.specs.Passed.{passed}
use Rattle.macro_check.specs.Blocks.{opened}
use Rattle.macro_record.specs.declared.Runner.{Runner}

-- "The runner's place, repeat counts and last status are one record": with these
abbrev pub runner_of : ℕ → List ℕ → ℕ → Runner
runner_of place counts last = record { place = place; counts = counts; last = last }

-- "A fresh one is all zero."
abbrev pub fresh : Runner
fresh = runner_of 0 (replicate 8 0) 0

-- ---- when a step is refused

-- how many times the repeat at a place repeats: "its repeat's number"
abbrev pub times_at : List ℕ → ℕ → ℕ
times_at ws i = times_of (step_at ws i)

-- a count at a depth is 1 "to its repeat's number inside that repeat", and 0 outside; `os` are the repeats that the place is inside
abbrev pub count_fits : List ℕ → List ℕ → ℕ → ℕ → Bool
count_fits ws os c depth = cond (ltb depth (length os)) (all_of (leb 1 c ∷ leb c (times_at ws (get_or os depth 0)) ∷ [])) (eqb c 0)

unfoldable pub counts_fit : List ℕ → List ℕ → List ℕ → Bool
counts_fit ws os counts = all_from (λ depth. count_fits ws os (get_or counts depth 0) depth) 0 8

-- not "a macro not passed, a place past the end, or a count outside 1 to its repeat's number inside that repeat, or not 0 outside"
unfoldable pub ready : List ℕ → Runner → Bool
ready ws r = all_of (passed ws ∷ leb r.place (count ws) ∷ counts_fit ws (opened ws r.place) r.counts ∷ [])

-- ---- what becomes of the record

-- on to the next step
abbrev pub onward : Runner → Runner
onward r = runner_of (r.place + 1) r.counts r.last

-- "go to the end, counts 0"
abbrev pub ended : List ℕ → Runner → Runner
ended ws r = runner_of (count ws) (replicate 8 0) r.last

-- an arm or cancel: its status is "the last arm or cancel"'s
abbrev pub called : Runner → ℕ → Runner
called r status = runner_of (r.place + 1) r.counts status

-- "wait until a timer's ticks left answer 0", stopping "if its ticks left is refused"
abbrev pub waited : List ℕ → Runner → ℕ → ℕ → Runner
waited ws r status ticks = cond (eqb status 0) (cond (eqb ticks 0) (onward r) r) (ended ws r)

-- "Check stops the macro if the last arm or cancel was not 0"
abbrev pub checked : List ℕ → Runner → Runner
checked ws r = cond (eqb r.last 0) (onward r) (ended ws r)

-- "Repeat sets its depth's count to 1"
abbrev pub repeated : List ℕ → Runner → Runner
repeated os r = runner_of (r.place + 1) (set r.counts (length os) 1) r.last

-- "end adds one and goes back to the step after the repeat, or at the repeat's number clears it and goes on": of the innermost repeat
abbrev pub ended_at : ℕ → ℕ → ℕ → Runner → Runner
ended_at depth start times r =
    let c = get_or r.counts depth 0 in
    cond (ltb c times) (runner_of (start + 1) (set r.counts depth (c + 1)) r.last) (runner_of (r.place + 1) (set r.counts depth 0) r.last)

abbrev pub block_ended : List ℕ → List ℕ → Runner → Runner
block_ended ws os r = let depth = length os - 1 in ended_at depth (get_or os depth 0) (times_at ws (get_or os depth 0)) r

-- the record after a step for which the manager answered so; at the end "steps do nothing"
abbrev pub moved : List ℕ → Runner → ℕ → ℕ → Step → Runner
moved ws r status number (Arm id ticks routine user_data) = called r status
moved ws r status number (Cancel id) = called r status
moved ws r status number (Wait id) = waited ws r status number
moved ws r status number Check = checked ws r
moved ws r status number (Repeat times) = repeated (opened ws r.place) r
moved ws r status number End = block_ended ws (opened ws r.place) r
moved ws r status number Sign = ended ws r
moved ws r status number NoStep = r
