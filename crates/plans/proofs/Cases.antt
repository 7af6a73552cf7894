-- Plans at both sides of each edge, in two tables, each under one statement that is computed from the definitions. Assumes nothing.
use mathlib.Core.Path.{◌≡◌, refl}
use Prim.Native.Nat.{ℕ, zero, suc, ◌+◌}
use mathlib.Core.List.{List, [], ◌∷◌, map}
use Rattle.plans.specs.Plans.{job_within, jobs_within, accepts}
use Rattle.plans.specs.Checker.{checked}

-- the words of the jobs, the end of the break, the starts, and the checker's status
pub record Case : Type 0 where
  pub words : List ℕ
  pub end : ℕ
  pub starts : List ℕ
  pub status : ℕ

abbrev status : Case → ℕ
status c = c.status

abbrev plan : List ℕ → ℕ → List ℕ → ℕ → Case
plan words end starts status = record { words = words; end = end; starts = starts; status = status }

-- so many jobs of two ticks on bench 2, and a start for each, one after another
abbrev pairs : ℕ → List ℕ
pairs zero = []
pairs (suc n) = 2 ∷ 2 ∷ pairs n

abbrev in_turn : ℕ → ℕ → List ℕ
in_turn zero start = []
in_turn (suc n) start = start ∷ in_turn n (start + 2)

abbrev pub cases : List Case
cases =
    -- a job may start where another of its bench ends, in either order of the list, and not one tick before
    plan (1 ∷ 3 ∷ 1 ∷ 4 ∷ []) 7 (0 ∷ 3 ∷ []) 0
    ∷ plan (1 ∷ 3 ∷ 1 ∷ 4 ∷ []) 7 (0 ∷ 2 ∷ []) 13
    ∷ plan (1 ∷ 3 ∷ 1 ∷ 4 ∷ []) 7 (4 ∷ 0 ∷ []) 0
    ∷ plan (1 ∷ 3 ∷ 1 ∷ 4 ∷ []) 7 (3 ∷ 0 ∷ []) 13
    -- the second of three jobs and the third
    ∷ plan (2 ∷ 1 ∷ 2 ∷ 2 ∷ 2 ∷ 2 ∷ []) 5 (0 ∷ 1 ∷ 3 ∷ []) 0
    ∷ plan (2 ∷ 1 ∷ 2 ∷ 2 ∷ 2 ∷ 2 ∷ []) 5 (0 ∷ 1 ∷ 2 ∷ []) 13
    -- one job within another, and two at one tick
    ∷ plan (4 ∷ 9 ∷ 4 ∷ 1 ∷ []) 9 (0 ∷ 4 ∷ []) 13
    ∷ plan (4 ∷ 1 ∷ 4 ∷ 9 ∷ []) 9 (4 ∷ 0 ∷ []) 13
    ∷ plan (4 ∷ 1 ∷ 4 ∷ 1 ∷ []) 9 (5 ∷ 5 ∷ []) 13
    -- jobs of other benches do not count, those that stand further off in the list do
    ∷ plan (3 ∷ 3 ∷ 4 ∷ 3 ∷ 1 ∷ 3 ∷ 2 ∷ 3 ∷ []) 3 (0 ∷ 0 ∷ 0 ∷ 0 ∷ []) 0
    ∷ plan (3 ∷ 3 ∷ 4 ∷ 3 ∷ 1 ∷ 3 ∷ 3 ∷ 3 ∷ []) 6 (0 ∷ 0 ∷ 0 ∷ 2 ∷ []) 13
    ∷ plan (3 ∷ 3 ∷ 4 ∷ 3 ∷ 1 ∷ 3 ∷ 3 ∷ 3 ∷ []) 6 (0 ∷ 0 ∷ 0 ∷ 3 ∷ []) 0
    -- the end of the break, for the first job and for the last
    ∷ plan (1 ∷ 3 ∷ 2 ∷ 1 ∷ []) 7 (4 ∷ 0 ∷ []) 0
    ∷ plan (1 ∷ 3 ∷ 2 ∷ 1 ∷ []) 7 (5 ∷ 0 ∷ []) 13
    ∷ plan (2 ∷ 1 ∷ 1 ∷ 3 ∷ []) 7 (0 ∷ 5 ∷ []) 13
    ∷ plan (1 ∷ 1000000 ∷ []) 1000000 (0 ∷ []) 0
    ∷ plan (1 ∷ 1000000 ∷ []) 999999 (0 ∷ []) 13
    ∷ plan (1 ∷ 1 ∷ []) 1000000 (999999 ∷ []) 0
    ∷ plan (1 ∷ 1 ∷ []) 1000000 (4294967295 ∷ []) 13
    -- no job, and a break of no tick
    ∷ plan [] 0 [] 0
    ∷ plan (1 ∷ 1 ∷ []) 0 (0 ∷ []) 13
    ∷ plan (1 ∷ 1 ∷ []) 1 (0 ∷ []) 0
    -- benches 1 to 4
    ∷ plan (0 ∷ 1 ∷ []) 9 (0 ∷ []) 10
    ∷ plan (4 ∷ 1 ∷ []) 9 (0 ∷ []) 0
    ∷ plan (5 ∷ 1 ∷ []) 9 (0 ∷ []) 10
    -- lengths 1 to 1,000,000, and a break of up to that; numbers outside come before no plan
    ∷ plan (4 ∷ 0 ∷ []) 9 (0 ∷ []) 10
    ∷ plan (4 ∷ 1000000 ∷ []) 9 (0 ∷ []) 13
    ∷ plan (4 ∷ 1000001 ∷ []) 9 (0 ∷ []) 10
    ∷ plan (4 ∷ 1 ∷ []) 1000001 (0 ∷ []) 10
    ∷ plan (1 ∷ 1 ∷ 4 ∷ 0 ∷ []) 0 (0 ∷ 0 ∷ []) 10
    -- two words a job, and one start
    ∷ plan (4 ∷ []) 9 [] 10
    ∷ plan (4 ∷ 1 ∷ 4 ∷ []) 9 (0 ∷ []) 10
    ∷ plan (4 ∷ 1 ∷ []) 9 [] 10
    ∷ plan (4 ∷ 1 ∷ []) 9 (0 ∷ 1 ∷ []) 10
    ∷ plan (4 ∷ 1 ∷ []) 0 (0 ∷ 1 ∷ []) 10
    ∷ []

-- up to 64 jobs
abbrev pub many_jobs : List Case
many_jobs = plan (pairs 64) 128 (in_turn 64 0) 0 ∷ plan (pairs 64) 127 (in_turn 64 0) 13 ∷ plan (pairs 65) 130 (in_turn 65 0) 10 ∷ []

-- what the definitions say
abbrev pub computed : Case → ℕ
computed c = checked c.words c.end c.starts

pub as_said : map computed cases ≡ map status cases
unfolding checked job_within jobs_within accepts
as_said = refl

pub many-as-said : map computed many_jobs ≡ map status many_jobs
unfolding checked job_within jobs_within accepts
many-as-said = refl
