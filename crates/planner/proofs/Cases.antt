-- Breaks to plan at both sides of each edge, in two tables, each under one statement that is computed from the definitions. Assumes nothing.
use mathlib.Core.Path.{◌≡◌, refl}
use Prim.Native.Nat.{ℕ, zero, suc}
use mathlib.Core.List.{List, [], ◌∷◌, ◌++◌, map}
use lib.ListN.{replicate}
use Rattle.plans.specs.Plans.{job_within, jobs_within, accepts}
use Rattle.plans.specs.Checker.{checked}
use Rattle.planner.specs.Proposal.{proposal}
use Rattle.planner.specs.Planner.{Outcome, exported, plan_status, planned}

-- the words of the jobs, the end of the break, the list that is lent, and what comes of the call
pub record Case : Type 0 where
  pub words : List ℕ
  pub end : ℕ
  pub list : List ℕ
  pub outcome : Outcome

abbrev outcome : Case → Outcome
outcome c = c.outcome

abbrev call : List ℕ → ℕ → List ℕ → ℕ → List ℕ → Case
call words end list status after = record { words = words; end = end; list = list; outcome = exported status after }

-- three words that are lent
abbrev lent : List ℕ
lent = 7 ∷ 8 ∷ 9 ∷ []

-- so many jobs of one tick on bench 3
abbrev short : ℕ → List ℕ
short zero = []
short (suc n) = 3 ∷ 1 ∷ short n

abbrev pub cases : List Case
cases =
    -- the jobs of a bench back to back, the benches beside each other; words past the starts stay
    call (1 ∷ 3 ∷ 2 ∷ 5 ∷ 1 ∷ 4 ∷ []) 7 lent 0 (0 ∷ 0 ∷ 3 ∷ [])
    ∷ call (4 ∷ 3 ∷ 4 ∷ 5 ∷ []) 8 lent 0 (0 ∷ 3 ∷ 9 ∷ [])
    ∷ call (3 ∷ 2 ∷ []) 2 lent 0 (0 ∷ 8 ∷ 9 ∷ [])
    ∷ call (1 ∷ 2 ∷ 2 ∷ 3 ∷ 1 ∷ 4 ∷ 3 ∷ 1 ∷ 4 ∷ 5 ∷ 2 ∷ 6 ∷ 1 ∷ 1 ∷ []) 9 (replicate 8 9) 0 (0 ∷ 0 ∷ 2 ∷ 0 ∷ 0 ∷ 3 ∷ 6 ∷ 9 ∷ [])
    -- one tick too few, on bench 1 and on bench 4: a refusal leaves the list
    ∷ call (1 ∷ 3 ∷ 2 ∷ 5 ∷ 1 ∷ 4 ∷ []) 6 lent 13 lent
    ∷ call (4 ∷ 3 ∷ 4 ∷ 5 ∷ []) 7 lent 13 lent
    -- no job, and a break of no tick
    ∷ call [] 0 lent 0 lent
    ∷ call [] 0 [] 0 []
    ∷ call (3 ∷ 1 ∷ []) 0 lent 13 lent
    -- a list just long enough, and one too short, which comes before no plan
    ∷ call (short 3) 3 lent 0 (0 ∷ 1 ∷ 2 ∷ [])
    ∷ call (short 4) 4 lent 8 lent
    ∷ call (short 4) 3 lent 8 lent
    ∷ call (short 1) 1 [] 8 []
    -- numbers outside come before both
    ∷ call (short 3 ++ (0 ∷ 1 ∷ [])) 3 lent 10 lent
    ∷ call (short 3 ++ (5 ∷ 1 ∷ [])) 3 lent 10 lent
    ∷ call (short 3 ++ (3 ∷ 0 ∷ [])) 3 lent 10 lent
    ∷ call (short 3 ++ (3 ∷ 1000001 ∷ [])) 3 lent 10 lent
    ∷ call (short 4 ++ (3 ∷ [])) 3 lent 10 lent
    ∷ call (short 4) 1000001 lent 10 lent
    -- the longest job in the longest break
    ∷ call (3 ∷ 1000000 ∷ 4 ∷ 1000000 ∷ []) 1000000 lent 0 (0 ∷ 0 ∷ 9 ∷ [])
    ∷ call (3 ∷ 1000000 ∷ 3 ∷ 1 ∷ []) 1000000 lent 13 lent
    ∷ []

-- up to 64 jobs
abbrev pub many_jobs : List Case
many_jobs = call (short 65) 3 lent 10 lent ∷ call (short 64) 3 lent 8 lent ∷ []

-- what the definitions say comes of it
abbrev pub computed : Case → Outcome
computed c = planned c.words c.end c.list

pub as_said : map computed cases ≡ map outcome cases
unfolding planned plan_status proposal checked accepts jobs_within job_within
as_said = refl

pub many-as-said : map computed many_jobs ≡ map outcome many_jobs
unfolding planned plan_status proposal checked accepts jobs_within job_within
many-as-said = refl
