-- Records that may be stepped and that may not, and what a step makes of them: both sides of each edge, computed from the definitions.
-- Assumes nothing.
use Prim.Native.Nat.{ℕ}
use mathlib.Core.Path.{◌≡◌, refl}
use mathlib.Core.Bool.{true, false}
use mathlib.Core.List.{List, [], ◌∷◌, ◌++◌, map}
use lib.ListN.{set, replicate}
use borrow.Author.Tests.{ne_eqb}
use Rattle.macro_steps.specs.declared.Step.{Step}
use Rattle.macro_steps.specs.declared.Step.TheVariants.{Arm, Cancel, Wait, Check, Repeat, End, Sign, NoStep}
use Rattle.macro_steps.specs.Steps.{bare, with_one, step_of, step_at}
use Rattle.macro_check.specs.Passed.{nested, guarded, passed}
use Rattle.macro_check.specs.Blocks.{opened}
use Rattle.macro_steps.proofs.Cases.{arm, repeats, end, sign}
use Rattle.macro_record.specs.Record.{runner_of, fresh, counts_fit, ready, moved}
use Rattle.macro_record.specs.declared.Runner.{Runner}

-- at a place, with the counts of depths 0 and 1, and 7 as the last status
abbrev pub at : ℕ → ℕ → ℕ → Runner
at place c d = runner_of place (c ∷ d ∷ replicate 6 0) 7

-- a repeat in a repeat; five steps
abbrev nest : List ℕ
nest = repeats 2 ++ repeats 3 ++ sign ++ end ++ end

-- ---- which records are refused

-- before the outer repeat: no count; a count; inside it, at the inner one: counts of 0, 1, 2, 3, and 1 at the depth that is outside
-- inside both: a count of 0, 1, 3 and 4 at the inner one, and 0 at the outer one; at the inner end, which is inside, and the outer end
-- at the end: no count; a count; past the end; a macro that is not passed
abbrev records : List Runner
records =
    fresh ∷ at 0 1 0 ∷ at 1 0 0 ∷ at 1 1 0 ∷ at 1 2 0 ∷ at 1 3 0 ∷ at 1 1 1
    ∷ at 2 1 0 ∷ at 2 1 1 ∷ at 2 1 3 ∷ at 2 1 4 ∷ at 2 0 1 ∷ at 3 1 1 ∷ at 3 1 0 ∷ at 4 2 0 ∷ at 4 2 1
    ∷ at 5 0 0 ∷ at 5 1 0 ∷ at 6 0 0 ∷ []

pub stands : map (ready nest) records
    ≡ true ∷ false ∷ false ∷ true ∷ true ∷ false ∷ false
    ∷ false ∷ true ∷ true ∷ false ∷ false ∷ true ∷ false ∷ true ∷ false
    ∷ true ∷ false ∷ false ∷ []
unfolding passed nested guarded opened step_at step_of with_one bare counts_fit ready
stands = refl

-- inside both, at the inner one and its end: the outer count at its number and one above
pub stands-outer : map (ready nest) (at 2 2 1 ∷ at 2 3 1 ∷ at 3 3 1 ∷ []) ≡ true ∷ false ∷ false ∷ []
unfolding passed nested guarded opened step_at step_of with_one bare counts_fit ready
stands-outer = refl

-- each of eight counts is looked at where none is open
pub each-count : map (λ d. ready nest (runner_of 0 (set (replicate 8 0) d 1) 0)) (0 ∷ 1 ∷ 2 ∷ 3 ∷ 4 ∷ 5 ∷ 6 ∷ 7 ∷ []) ≡ replicate 8 false
unfolding passed nested guarded opened step_at step_of with_one bare counts_fit ready
each-count = refl

-- a place and counts whose lower halves would fit
pub large : map (ready nest) (at 65536 0 0 ∷ at 0 65536 0 ∷ at 1 65537 0 ∷ []) ≡ false ∷ false ∷ false ∷ []
unfolding passed nested guarded opened step_at step_of with_one bare counts_fit ready
large = refl

pub not-passed : ready (arm 9 ++ sign) fresh ≡ false
unfolding passed nested guarded opened step_at step_of with_one bare counts_fit ready
not-passed = refl

-- ---- what becomes of a record

-- an arm and a cancel keep the status; a wait refused stops the macro, waiting stays and done goes on, and none writes the last status
-- a check stops the macro, and goes on where the last status is 0; a sign stops it; at the end nothing is done
pub moves : map (λ (s : Step). moved nest (at 2 1 3) 4 0 s) (Arm 9 5 7 70 ∷ Cancel 9 ∷ Wait 9 ∷ Check ∷ Sign ∷ NoStep ∷ [])
    ≡ runner_of 3 (1 ∷ 3 ∷ replicate 6 0) 4 ∷ runner_of 3 (1 ∷ 3 ∷ replicate 6 0) 4 ∷ at 5 0 0 ∷ at 5 0 0 ∷ at 5 0 0 ∷ at 2 1 3 ∷ []
moves = refl

pub waits : moved nest (at 2 1 3) 0 1 (Wait 9) ∷ moved nest (at 2 1 3) 0 0 (Wait 9) ∷ [] ≡ at 2 1 3 ∷ at 3 1 3 ∷ []
waits = refl

-- it stays for any number of ticks left that is not 0
pub waits-on : (ws : List ℕ) (r : Runner) (n id : ℕ) → (n ≡ 0 → ⊥) → moved ws r 0 n (Wait id) ≡ r
waits-on ws r n id h = rw (ne_eqb n 0 h) refl

pub checks : moved nest (runner_of 2 (1 ∷ 3 ∷ replicate 6 0) 0) 4 0 Check ≡ runner_of 3 (1 ∷ 3 ∷ replicate 6 0) 0
checks = refl

-- a last status of 256 stops the macro too
pub checks-large : moved nest (runner_of 2 (1 ∷ 3 ∷ replicate 6 0) 256) 0 0 Check ≡ runner_of 5 (replicate 8 0) 256
checks-large = refl

-- a repeat sets its own depth's count to 1; an end goes back behind its repeat with one more, and at the number on, with none
pub counts : moved nest (at 0 0 0) 0 0 (Repeat 2) ∷ moved nest (at 1 2 0) 0 0 (Repeat 3) ∷ moved nest (at 3 1 2) 0 0 End ∷ moved nest (at 3 1 3) 0 0 End
    ∷ moved nest (at 4 1 0) 0 0 End ∷ moved nest (at 4 2 0) 0 0 End ∷ []
    ≡ at 1 1 0 ∷ at 2 2 1 ∷ at 2 1 3 ∷ at 4 1 0 ∷ at 1 2 0 ∷ at 5 0 0 ∷ []
unfolding opened step_at step_of with_one bare
counts = refl

-- ---- eight deep

-- repeats of 1 to 8 times in each other, the sign in the innermost; its end is at place 9
abbrev deepest : List ℕ
deepest = repeats 1 ++ repeats 2 ++ repeats 3 ++ repeats 4 ++ repeats 5 ++ repeats 6 ++ repeats 7 ++ repeats 8 ++ sign ++ end ++ end ++ end ++ end ++ end ++ end ++ end ++ end

abbrev up_to : ℕ → ℕ → Runner
up_to place last = runner_of place (1 ∷ 2 ∷ 3 ∷ 4 ∷ 5 ∷ 6 ∷ 7 ∷ last ∷ []) 0

-- each count at its number, one more and 0 at each depth
abbrev numbers : List ℕ
numbers = 1 ∷ 2 ∷ 3 ∷ 4 ∷ 5 ∷ 6 ∷ 7 ∷ 8 ∷ []

pub stands-deep : ready deepest (runner_of 8 numbers 0) ∷ map (λ d. ready deepest (runner_of 8 (set numbers d 9) 0)) (0 ∷ 1 ∷ 2 ∷ 3 ∷ 4 ∷ 5 ∷ 6 ∷ 7 ∷ [])
    ++ map (λ d. ready deepest (runner_of 8 (set numbers d 0) 0)) (0 ∷ 1 ∷ 2 ∷ 3 ∷ 4 ∷ 5 ∷ 6 ∷ 7 ∷ [])
    ≡ true ∷ replicate 16 false
unfolding passed nested guarded opened step_at step_of with_one bare counts_fit ready
stands-deep = refl

-- the innermost repeat, and its end below and at its number; the end of the third below and at its number
pub counts-deep : moved deepest (up_to 7 0) 0 0 (Repeat 8) ∷ moved deepest (up_to 9 7) 0 0 End ∷ moved deepest (up_to 9 8) 0 0 End
    ∷ moved deepest (runner_of 14 (1 ∷ 2 ∷ 2 ∷ replicate 5 0) 0) 0 0 End ∷ moved deepest (runner_of 14 (1 ∷ 2 ∷ 3 ∷ replicate 5 0) 0) 0 0 End ∷ []
    ≡ up_to 8 1 ∷ up_to 8 8 ∷ up_to 10 0 ∷ runner_of 3 (1 ∷ 2 ∷ 3 ∷ replicate 5 0) 0 ∷ runner_of 15 (1 ∷ 2 ∷ 0 ∷ replicate 5 0) 0 ∷ []
unfolding opened step_at step_of with_one bare
counts-deep = refl
