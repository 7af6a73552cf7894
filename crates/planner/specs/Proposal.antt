-- Document 02, item 13, packing the break: the plan that the planner proposes. The request leaves the plan free; ours is back to back. Assumes nothing: these
-- are definitions.
use Rattle.std.specs.Prelude.{ℕ, ◌+◌, cond, List, [], ◌∷◌, eqb}
use Rattle.plans.specs.declared.Job.{Job}
use Rattle.plans.specs.Plans.{jobs_of}

-- the lengths of a bench's jobs, all told
abbrev pub ticks_on : ℕ → List Job → ℕ
ticks_on bench [] = 0
ticks_on bench (j ∷ jobs) = cond (eqb j.bench bench) (j.ticks + ticks_on bench jobs) (ticks_on bench jobs)

-- each job starts where those of its bench ahead of it end, with no tick between them
abbrev pub back_to_back : List Job → List Job → List ℕ
back_to_back ahead [] = []
back_to_back ahead (j ∷ jobs) = ticks_on j.bench ahead ∷ back_to_back (j ∷ ahead) jobs

-- the start of each job
unfoldable pub proposal : List ℕ → List ℕ
proposal words = back_to_back [] (jobs_of words)
