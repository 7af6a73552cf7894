-- Steps and runs on tables: both sides of each edge, computed from the definitions. Assumes nothing.
use Prim.Native.Nat.{ℕ}
use mathlib.Core.Path.{◌≡◌, refl}
use mathlib.Core.Bool.{true}
use mathlib.Core.List.{List, [], ◌∷◌, ◌++◌, map}
use lib.ListN.{length, get_or, take, replicate}
use Rattle.model.specs.Lists.{All}
use Rattle.model.specs.Calls.{cancel as cancels, fire_after, ticks_left}
use Rattle.model.specs.Sound.{header_sound, slot_sound, chain_sound, ticks_sound, dates_sound, queue_sound, sound}
use Rattle.model.specs.Outcome.{status_on, outcome}
use Rattle.macro_steps.specs.declared.Step.TheVariants.{Sign}
use Rattle.macro_steps.specs.Steps.{bare, with_one, step_of, step_at}
use Rattle.macro_check.specs.Passed.{nested, guarded, passed}
use Rattle.macro_check.specs.Blocks.{opened}
use Rattle.macro_steps.proofs.Cases.{arm, cancel, wait, check, repeats, end, sign}
use Rattle.macro_record.specs.declared.Runner.{Runner}
use Rattle.macro_record.specs.Record.{runner_of, fresh, counts_fit, ready}
use Rattle.macros.specs.Stepping.{Taken, taken_as, stepped}
use Rattle.macros.specs.Runs.{Turn, turn_of, ran, statuses, Claimed, ran_for, stops, StopsAsItWas, RunCall, run_of, ran_in, ran_over, turns_over, RunEarned}

-- ---- tables of one slot

-- a timer that was never started; armed for 5 ticks, routine 7, data 70; cancelled
abbrev timer : ℕ
timer = 0x12010001

abbrev header : ℕ → List ℕ
header first = 1 ∷ 10 ∷ 0 ∷ 0 ∷ 0 ∷ first ∷ replicate 4 0

abbrev idle : List ℕ
idle = header 0 ++ 1 ∷ 1 ∷ replicate 6 0

abbrev armed : List ℕ
armed = header 1 ++ 4 ∷ 1 ∷ 5 ∷ 5 ∷ 7 ∷ 70 ∷ 0 ∷ 0 ∷ []

abbrev cancelled : List ℕ
cancelled = header 0 ++ 2 ∷ 1 ∷ 5 ∷ 0 ∷ 7 ∷ 70 ∷ 0 ∷ 0 ∷ []

-- ---- a step of each kind

-- arm, check, wait, cancel, check, sign
abbrev guarded-write : List ℕ
guarded-write = arm timer ++ check ++ wait timer ++ cancel timer ++ check ++ sign

abbrev at : ℕ → ℕ → Runner
at place last = runner_of place (replicate 8 0) last

abbrev took-on : ℕ → ℕ → List ℕ → Taken
took-on place last t = stepped 1 guarded-write (at place last) t

-- an arm that is accepted, and the table after it; refused with 100, and the table stays
-- a cancel that is accepted, and the table after it; refused with 14 and 4
-- a wait whose ticks left are not 0, are 0, and are refused with 4: the last status stays 9
-- a check of 0 and of 9; the sign; a step at the end; past it; each refusal of a step with the record and the table as they were
pub steps : (took-on 0 9 idle ∷ took-on 0 9 [] ∷ took-on 3 9 armed ∷ took-on 3 9 idle ∷ took-on 3 9 (header 0 ++ replicate 8 0) ∷ [])
    ++ (took-on 2 9 armed ∷ took-on 2 9 idle ∷ took-on 2 9 (header 0 ++ replicate 8 0) ∷ [])
    ++ (took-on 1 0 armed ∷ took-on 1 9 armed ∷ took-on 5 9 armed ∷ took-on 6 9 armed ∷ took-on 7 9 armed ∷ [])
    ≡ (taken_as 0 (0 ∷ []) (at 1 0) armed ∷ taken_as 0 (0 ∷ []) (at 1 100) [] ∷ taken_as 0 (0 ∷ []) (at 4 0) cancelled ∷ taken_as 0 (0 ∷ []) (at 4 14) idle
    ∷ taken_as 0 (0 ∷ []) (at 4 4) (header 0 ++ replicate 8 0) ∷ [])
    ++ (taken_as 0 (0 ∷ []) (at 2 9) armed ∷ taken_as 0 (0 ∷ []) (at 3 9) idle ∷ taken_as 0 (0 ∷ []) (at 6 9) (header 0 ++ replicate 8 0) ∷ [])
    ++ (taken_as 0 (0 ∷ []) (at 2 0) armed ∷ taken_as 0 (0 ∷ []) (at 6 9) armed ∷ taken_as 0 (1 ∷ []) (at 6 9) armed ∷ taken_as 0 (0 ∷ []) (at 6 9) armed
    ∷ taken_as 10 (0 ∷ []) (at 7 9) armed ∷ [])
unfolding passed nested guarded opened step_at step_of with_one bare counts_fit ready stepped header_sound slot_sound chain_sound ticks_sound dates_sound queue_sound sound status_on outcome
steps = refl

-- the host's party: on a table of one party, party 2's arm, cancel and wait are refused with 4
pub other-party : stepped 2 guarded-write (at 0 9) idle ∷ stepped 2 guarded-write (at 3 9) armed ∷ stepped 2 guarded-write (at 2 9) armed ∷ []
    ≡ taken_as 0 (0 ∷ []) (at 1 4) idle ∷ taken_as 0 (0 ∷ []) (at 4 4) armed ∷ taken_as 0 (0 ∷ []) (at 6 9) armed ∷ []
unfolding passed nested guarded opened step_at step_of with_one bare counts_fit ready stepped header_sound slot_sound chain_sound ticks_sound dates_sound queue_sound sound status_on outcome
other-party = refl

-- an arm of no ticks and one of routine 0: the manager refuses them, with 10 and 9
pub as-fire-after : stepped 1 ((1 ∷ timer ∷ 0 ∷ 7 ∷ 70 ∷ []) ++ check ++ sign) fresh idle
    ∷ stepped 1 ((1 ∷ timer ∷ 5 ∷ 0 ∷ 70 ∷ []) ++ check ++ sign) fresh idle ∷ []
    ≡ taken_as 0 (0 ∷ []) (at 1 10) idle ∷ taken_as 0 (0 ∷ []) (at 1 9) idle ∷ []
unfolding passed nested guarded opened step_at step_of with_one bare counts_fit ready stepped header_sound slot_sound chain_sound ticks_sound dates_sound queue_sound sound status_on outcome
as-fire-after = refl

-- a macro that is not passed
pub not-passed : stepped 1 (arm timer ++ sign) fresh idle ≡ taken_as 10 (0 ∷ []) fresh idle
unfolding passed nested guarded opened step_at step_of with_one bare counts_fit ready stepped header_sound slot_sound chain_sound ticks_sound dates_sound queue_sound sound status_on outcome
not-passed = refl

-- ---- runs from a fresh record

-- steps as party 1 on these tables
abbrev on-tables : List (List ℕ) → List Turn
on-tables ts = map (turn_of 1) ts

-- the statuses of arm, wait and cancel on the way to the sign
pub way : statuses guarded-write fresh (on-tables (idle ∷ armed ∷ idle ∷ armed ∷ cancelled ∷ [])) ≡ 0 ∷ 0 ∷ 0 ∷ []
unfolding passed nested guarded opened step_at step_of with_one bare counts_fit ready stepped header_sound slot_sound chain_sound ticks_sound dates_sound queue_sound sound status_on outcome
way = refl

-- a refused arm, whose check stops the macro: its status is the only one
pub stopped : statuses guarded-write fresh (on-tables ([] ∷ idle ∷ idle ∷ idle ∷ [])) ≡ 100 ∷ []
unfolding passed nested guarded opened step_at step_of with_one bare counts_fit ready stepped header_sound slot_sound chain_sound ticks_sound dates_sound queue_sound sound status_on outcome
stopped = refl

-- an arm in a repeat: the second time it is refused
pub in_repeat : statuses (repeats 2 ++ arm timer ++ check ++ end ++ sign) fresh (on-tables (idle ∷ idle ∷ armed ∷ armed ∷ [] ∷ [])) ≡ 0 ∷ 100 ∷ []
unfolding passed nested guarded opened step_at step_of with_one bare counts_fit ready stepped header_sound slot_sound chain_sound ticks_sound dates_sound queue_sound sound status_on outcome
in_repeat = refl

-- each step as its own party: an arm as party 1, and on a table of one party a cancel as party 2
abbrev at_once : List ℕ
at_once = arm timer ++ check ++ cancel timer ++ check ++ sign

pub each-party : statuses at_once fresh (turn_of 1 idle ∷ turn_of 2 armed ∷ turn_of 2 armed ∷ turn_of 1 armed ∷ []) ≡ 0 ∷ 4 ∷ []
unfolding passed nested guarded opened step_at step_of with_one bare counts_fit ready stepped header_sound slot_sound chain_sound ticks_sound dates_sound queue_sound sound status_on outcome
each-party = refl

-- runs with a budget: up to a wait that is not over; up to the sign; budgets of 1, 0 and 2; a macro that is not passed; a repeat; a refused arm, whose
-- check stops it; party 2 on a table of one party
pub runs : ran_for 1 guarded-write 9 fresh idle ∷ ran_for 1 (sign ++ sign) 9 fresh [] ∷ ran_for 1 (check ++ sign) 1 fresh [] ∷ ran_for 1 (check ++ sign) 0 fresh []
    ∷ ran_for 1 (check ++ sign) 2 fresh [] ∷ ran_for 1 (arm timer ++ sign) 3 fresh idle ∷ ran_for 1 (repeats 2 ++ end ++ sign) 9 fresh []
    ∷ ran_for 1 guarded-write 9 fresh [] ∷ ran_for 2 guarded-write 9 fresh idle ∷ []
    ≡ taken_as 0 (0 ∷ []) (at 2 0) armed ∷ taken_as 0 (1 ∷ []) (at 2 0) [] ∷ taken_as 0 (0 ∷ []) (at 1 0) [] ∷ taken_as 0 (0 ∷ []) fresh []
    ∷ taken_as 0 (1 ∷ []) (at 2 0) [] ∷ taken_as 10 (0 ∷ []) fresh idle ∷ taken_as 0 (1 ∷ []) (at 3 0) []
    ∷ taken_as 0 (0 ∷ []) (at 6 100) [] ∷ taken_as 0 (0 ∷ []) (at 6 4) idle ∷ []
unfolding passed nested guarded opened step_at step_of with_one bare counts_fit ready stepped ran_for header_sound slot_sound chain_sound ticks_sound dates_sound queue_sound sound status_on outcome
runs = refl

-- a repeat of 2 in a repeat of 2: the record after each step
abbrev nest : List ℕ
nest = repeats 2 ++ repeats 2 ++ end ++ end ++ sign

abbrev with-counts : ℕ → ℕ → ℕ → Runner
with-counts place c d = runner_of place (c ∷ d ∷ replicate 6 0) 0

pub repeating : map (λ n. ran nest fresh (on-tables (replicate n []))) (1 ∷ 2 ∷ 3 ∷ 4 ∷ 5 ∷ 6 ∷ 7 ∷ 8 ∷ 9 ∷ 10 ∷ [])
    ≡ with-counts 1 1 0 ∷ with-counts 2 1 1 ∷ with-counts 2 1 2 ∷ with-counts 3 1 0 ∷ with-counts 1 2 0
    ∷ with-counts 2 2 1 ∷ with-counts 2 2 2 ∷ with-counts 3 2 0 ∷ with-counts 4 0 0 ∷ with-counts 5 0 0 ∷ []
unfolding passed nested guarded opened step_at step_of with_one bare counts_fit ready stepped
repeating = refl

-- runs one after the other: up to a wait that is not over, and from there to the sign, once the timer is idle; the turns of all their steps
abbrev waiting-write : List ℕ
waiting-write = arm timer ++ check ++ wait timer ++ sign

abbrev two_runs : List RunCall
two_runs = run_of 1 9 idle ∷ run_of 1 2 idle ∷ []

pub over_runs : map (λ n. ran_over waiting-write fresh (take n two_runs)) (0 ∷ 1 ∷ 2 ∷ []) ≡ fresh ∷ at 2 0 ∷ at 4 0 ∷ []
unfolding passed nested guarded opened step_at step_of with_one bare counts_fit ready stepped ran_for header_sound slot_sound chain_sound ticks_sound dates_sound queue_sound sound status_on outcome
over_runs = refl

pub turns : turns_over waiting-write fresh two_runs ≡ on-tables (idle ∷ armed ∷ armed ∷ idle ∷ idle ∷ [])
unfolding passed nested guarded opened step_at step_of with_one bare counts_fit ready stepped ran_for header_sound slot_sound chain_sound ticks_sound dates_sound queue_sound sound status_on outcome
turns = refl

-- a run as party 2 after one as party 1
pub turns-of-two : turns_over at_once fresh (run_of 1 2 idle ∷ run_of 2 9 armed ∷ [])
    ≡ turn_of 1 idle ∷ turn_of 1 armed ∷ turn_of 2 armed ∷ turn_of 2 armed ∷ turn_of 2 armed ∷ []
unfolding passed nested guarded opened step_at step_of with_one bare counts_fit ready stepped ran_for header_sound slot_sound chain_sound ticks_sound dates_sound queue_sound sound status_on outcome
turns-of-two = refl

-- ---- what the claims say, of any party, any id and any tables

-- at the sign behind a wait: its ticks left were not refused
pub told-wait : Claimed → (id : ℕ) (u : Turn) → let ws = wait id ++ sign in step_at ws (ran ws fresh (u ∷ [])).place ≡ Sign
    → (outcome u.table (ticks_left u.party id)).status ≡ 0
unfolding passed nested guarded opened step_at step_of with_one bare counts_fit ready stepped
told-wait h id u e = (h.no-blind-sign (wait id ++ sign) (u ∷ []) refl e).0

-- behind an arm and its check, and behind a cancel and its: on the way from a fresh record each had status 0
pub told-arm : Claimed → (id ticks routine user_data : ℕ) (u v : Turn) → let ws = (1 ∷ id ∷ ticks ∷ routine ∷ user_data ∷ []) ++ check ++ sign in
    step_at ws (ran ws fresh (u ∷ v ∷ [])).place ≡ Sign → (outcome u.table (fire_after u.party id ticks routine user_data)).status ≡ 0
unfolding passed nested guarded opened step_at step_of with_one bare counts_fit ready stepped
told-arm h id ticks routine user_data u v e = (h.no-blind-sign ((1 ∷ id ∷ ticks ∷ routine ∷ user_data ∷ []) ++ check ++ sign) (u ∷ v ∷ []) refl e).0

pub told-cancel : Claimed → (id : ℕ) (u v w : Turn) → let ws = cancel id ++ check ++ sign in
    get_or (stepped w.party ws (ran ws fresh (u ∷ v ∷ [])) w.table).answer 0 0 ≡ 1 → (outcome u.table (cancels u.party id)).status ≡ 0
unfolding passed nested guarded opened step_at step_of with_one bare counts_fit ready stepped
told-cancel h id u v w e = (h.one-is-earned (cancel id ++ check ++ sign) (u ∷ v ∷ []) w e).0

-- no step of it is refused, whatever it is at
pub told-not-refused : Claimed → (id : ℕ) (u v w : Turn) → let ws = cancel id ++ check ++ sign in
    (stepped w.party ws (ran ws fresh (u ∷ v ∷ [])) w.table).status ≡ 0
unfolding passed nested guarded step_at step_of with_one bare
told-not-refused h id u v w = h.never-refused (cancel id ++ check ++ sign) (u ∷ v ∷ []) w refl

-- nor is one behind a step that was made, of any macro and record
pub told-then : Claimed → (ws : List ℕ) (r : Runner) (u v w : Turn) → length r.counts ≡ 8 → (stepped u.party ws r u.table).status ≡ 0
    → (stepped w.party ws (ran ws r (u ∷ v ∷ [])) w.table).status ≡ 0
told-then h ws r u v w n e = h.then-never-refused ws r u (u ∷ v ∷ []) w n e

-- a step that was made, is no sign and leaves the record as it was ends a run, and only such a step
pub told-stops : StopsAsItWas → (ws : List ℕ) (r : Runner) (u : Turn) → length r.counts ≡ 8 → let k = stepped u.party ws r u.table in k.status ≡ 0
    → (get_or k.answer 0 0 ≡ 1 → ⊥) → (stops ws r k ≡ true → k.runner ≡ r) × (k.runner ≡ r → stops ws r k ≡ true)
told-stops h ws r u n m s = h ws r u n m s

-- runs in one call each, of which the last answers 1
pub told-run : RunEarned → (ws : List ℕ) (c : RunCall) → get_or (ran_in ws fresh c).answer 0 0 ≡ 1
    → All (λ s. s ≡ 0) (statuses ws fresh (turns_over ws fresh (c ∷ [])))
told-run h ws c e = h ws [] c e

pub told-runs : RunEarned → (ws : List ℕ) (c d : RunCall) → get_or (ran_in ws (ran_in ws fresh c).runner d).answer 0 0 ≡ 1
    → All (λ s. s ≡ 0) (statuses ws fresh (turns_over ws fresh (c ∷ d ∷ [])))
told-runs h ws c d e = h ws (c ∷ []) d e

-- an answer of 1 is a sign's, of any record and on any table
pub told-one : Claimed → (party : ℕ) (ws : List ℕ) (r : Runner) (t : List ℕ) → get_or (stepped party ws r t).answer 0 0 ≡ 1 → step_at ws r.place ≡ Sign
told-one h party ws r t e = h.one-is-sign ws r (turn_of party t) e
