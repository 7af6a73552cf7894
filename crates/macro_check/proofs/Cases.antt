-- Macros that the checker passes and that it does not, and blocks: both sides of each edge, computed from the definitions. Assumes nothing.
use Prim.Native.Nat.{ℕ, zero, suc}
use mathlib.Core.Path.{◌≡◌, refl}
use mathlib.Core.Bool.{true, false}
use mathlib.Core.List.{List, [], ◌∷◌, ◌++◌, map}
use lib.ListN.{replicate}
use Rattle.std.specs.Prelude.{Some, None}
use Rattle.macro_steps.specs.Steps.{bare, with_one, step_of, step_at}
use Rattle.macro_steps.proofs.Cases.{arm, cancel, wait, check, repeats, end, sign}
use Rattle.macro_check.specs.Passed.{nested, guarded, passed}
use Rattle.macro_check.specs.Blocks.{opened, blocks_of, scanned_at}

abbrev pub times : ℕ → List ℕ → List ℕ
times zero ws = []
times (suc n) ws = ws ++ times n ws

-- ---- what the checker says

-- an arm with its check; without one; with the check after the sign; an arm, and a cancel, at the end of the macro
-- a cancel in a repeat, whose check is after the end; inside it; a wait, which needs none
-- no step; a partial step; a step without its form
-- an empty block; no end; no repeat; an end before its repeat; eight and nine deep; two blocks of eight deep, one after the other
abbrev pub macros : List (List ℕ)
macros =
    (arm 9 ++ check ++ sign) ∷ (arm 9 ++ sign) ∷ (arm 9 ++ sign ++ check) ∷ arm 9 ∷ (sign ++ cancel 9)
    ∷ (repeats 2 ++ cancel 9 ++ end ++ check) ∷ (repeats 2 ++ cancel 9 ++ check ++ end) ∷ (wait 9 ++ sign)
    ∷ [] ∷ (sign ++ 7 ∷ []) ∷ (sign ++ repeats 0 ++ end)
    ∷ (repeats 1 ++ end) ∷ repeats 1 ∷ end ∷ (end ++ repeats 1)
    ∷ (times 8 (repeats 1) ++ times 8 end) ∷ (times 9 (repeats 1) ++ times 9 end) ∷ times 2 (times 8 (repeats 1) ++ times 8 end) ∷ []

pub says : map passed macros
    ≡ true ∷ false ∷ false ∷ false ∷ false
    ∷ false ∷ true ∷ true
    ∷ false ∷ false ∷ false
    ∷ true ∷ false ∷ false ∷ false
    ∷ true ∷ false ∷ true ∷ []
unfolding passed nested guarded step_at step_of with_one bare
says = refl

-- kind 8; a repeat of 0 alone; a fill word of a check; checks that follow no arm, and two that do; a wait, and a repeat, between an arm and its check;
-- ids of 0
abbrev pub others : List (List ℕ)
others =
    (sign ++ 8 ∷ replicate 4 0) ∷ repeats 0 ∷ (4 ∷ 0 ∷ 0 ∷ 0 ∷ 1 ∷ []) ∷ (check ++ sign) ∷ (arm 9 ++ check ++ check) ∷ (arm 9 ++ wait 9 ++ check)
    ∷ (arm 9 ++ repeats 1 ++ check ++ end) ∷ (cancel 0 ++ check ++ wait 0) ∷ []

pub says-of-others : map passed others ≡ false ∷ false ∷ false ∷ true ∷ true ∷ false ∷ false ∷ true ∷ []
unfolding passed nested guarded step_at step_of with_one bare
says-of-others = refl

-- 256 steps pass, and 257 do not
pub most : map passed (times 256 sign ∷ times 257 sign ∷ []) ≡ true ∷ false ∷ []
unfolding passed nested guarded step_at step_of with_one bare
most = refl

-- ---- the repeats that each place is inside

abbrev nest : List ℕ
nest = repeats 2 ++ repeats 3 ++ end ++ sign ++ end

pub insides : map (opened nest) (0 ∷ 1 ∷ 2 ∷ 3 ∷ 4 ∷ 5 ∷ []) ≡ [] ∷ (0 ∷ []) ∷ (0 ∷ 1 ∷ []) ∷ (0 ∷ []) ∷ (0 ∷ []) ∷ [] ∷ []
unfolding opened step_at step_of with_one bare
insides = refl

-- a pass, at an inner place, at the end and past it
pub scans : map (scanned_at nest) (2 ∷ 5 ∷ 6 ∷ [])
    ≡ Some (1 ∷ 2 ∷ replicate 6 0) ∷ Some (replicate 8 0) ∷ None ∷ []
unfolding passed nested guarded opened blocks_of step_at step_of with_one bare
scans = refl
