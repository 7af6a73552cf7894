-- Document 02, item 13, packing the break: jobs, plans, and which plans are good. Jobs come as words, two a job: its bench, and its length in ticks. A plan is
-- a list of start ticks, one a job, in the jobs' order, counted from the start of the break; `end` is the tick at which the break ends, its length.
-- Assumes nothing: these are definitions.
use Rattle.std.specs.Prelude.{ℕ, ◌+◌, ◌*◌, Bool, true, not, ◌&&◌, List, [], ◌∷◌, leb, ltb, eqb, length}
use Rattle.calendar.specs.Calendar.{all_of}
use Rattle.model.specs.Lists.{every}
use Rattle.plans.specs.declared.Job.{Job}
use Rattle.plans.specs.declared.Booking.{Booking}

-- the jobs that the words hold; a word left over is no job, and `jobs_within` refuses it
abbrev pub jobs_of : List ℕ → List Job
jobs_of [] = []
jobs_of (bench ∷ []) = []
jobs_of (bench ∷ ticks ∷ words) = record { bench = bench; ticks = ticks } ∷ jobs_of words

-- "each with a bench of 1 to 4 and a length in ticks from 1 to 1,000,000"
unfoldable pub job_within : Job → Bool
job_within j = all_of (leb 1 j.bench ∷ leb j.bench 4 ∷ leb 1 j.ticks ∷ leb j.ticks 1000000 ∷ [])

-- "Up to 64 jobs", each of two words
unfoldable pub jobs_within : List ℕ → Bool
jobs_within words =
    let jobs = jobs_of words in
    all_of (eqb (length words) (2 * length jobs) ∷ leb (length jobs) 64 ∷ every job_within jobs ∷ [])

-- "and a break of up to 1,000,000 ticks"
abbrev pub within_limits : List ℕ → ℕ → Bool
within_limits words end = jobs_within words && leb end 1000000

-- a job that starts at this tick has its bench until it ends
abbrev pub book : Job → ℕ → Booking
book j start = record { bench = j.bench; from = start; to = start + j.ticks }

-- the jobs at their starts
abbrev pub booked : List Job → List ℕ → List Booking
booked [] starts = []
booked (j ∷ jobs) [] = []
booked (j ∷ jobs) (start ∷ starts) = book j start ∷ booked jobs starts

-- a job "ends by the end of the break"
abbrev pub ends_by : ℕ → Booking → Bool
ends_by end p = leb p.to end

-- two jobs "of one bench overlap": each starts before the other ends, so that "a job may start where another ends"
abbrev pub overlap : Booking → Booking → Bool
overlap p q = all_of (eqb p.bench q.bench ∷ ltb p.from q.to ∷ ltb q.from p.to ∷ [])

-- the one is no obstacle to the other
abbrev pub clear_of : Booking → Booking → Bool
clear_of p q = not (overlap p q)

-- "no two jobs of one bench overlap"
abbrev pub apart : List Booking → Bool
apart [] = true
apart (p ∷ ps) = every (clear_of p) ps && apart ps

-- "every job ends by the end of the break and no two jobs of one bench overlap"
unfoldable pub accepts : ℕ → List Booking → Bool
accepts end ps = every (ends_by end) ps && apart ps
