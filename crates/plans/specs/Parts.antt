-- Single jobs, and the jobs from one on, as the private functions promise them. Assumes nothing: these are definitions.
use Rattle.std.specs.Prelude.{ℕ, ◌+◌, ◌*◌, List, get_or, drop}
use Rattle.plans.specs.declared.Job.{Job}
use Rattle.plans.specs.declared.Booking.{Booking}
use Rattle.plans.specs.Plans.{jobs_of, book, booked}

-- job i, counted from 0
abbrev pub job_at : List ℕ → ℕ → Job
job_at words i = record { bench = get_or words (2 * i) 0; ticks = get_or words (2 * i + 1) 0 }

-- job i at its start
abbrev pub booked_at : List ℕ → List ℕ → ℕ → Booking
booked_at words starts i = book (job_at words i) (get_or starts i 0)

-- the jobs from job i on, at their starts
unfoldable pub booked_from : List ℕ → List ℕ → ℕ → List Booking
booked_from words starts i = booked (jobs_of (drop (2 * i) words)) (drop i starts)
