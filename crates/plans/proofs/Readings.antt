-- What the limits are, and what it is for a plan to be accepted, by the words themselves: job i has word 2i as its bench, word 2i + 1 as its length,
-- and start i. Then tick by tick: no tick of a bench is taken twice. Assumes nothing.
use mathlib.Core.Path.{◌≡◌, sym, ap, ◌∙◌}
use Prim.Native.Nat.{ℕ, zero, suc, ◌+◌, ◌*◌, ◌-◌, ◌/◌, ◌%◌, ◌≤◌, ◌<◌}
use native.Mathlib.Omega.{arith}
use mathlib.Core.Bool.{Bool, true}
use mathlib.Core.List.{List, [], ◌∷◌}
use lib.Dec.{leb}
use lib.ListN.{length, get_or}
use borrow.Author.Tests.{leb-true, le-leb}
use Rattle.model.specs.Lists.{every, count, All}
use Rattle.laws.proofs.ListLaws.{both, and_both}
use Rattle.plans.specs.declared.Job.{Job}
use Rattle.plans.specs.declared.Booking.{Booking}
use Rattle.plans.specs.Plans.{jobs_of, job_within, jobs_within, within_limits, booked, ends_by, clear_of, apart, accepts}
use Rattle.plans.specs.Checker.{checked}
use Rattle.plans.specs.Parts.{job_at, booked_at, booked_from}
use Rattle.plans.proofs.Limits.{Within, within-facts, limits-jobs, limits-within, job-facts, facts-jobs, jobs-length, within-each}
use Rattle.plans.proofs.Pairs.{clear-facts, facts-clear}
use Rattle.plans.proofs.Bookings.{from_start, from-here, from_end}
use Rattle.plans.proofs.Checking.{none-accepted, one_more, first-from}
use Rattle.plans.proofs.Verdicts.{good, accepted}
use Rattle.plans.proofs.Ticks.{has, one-at-a-time, one-each-tick}

-- ---- the limits

pub record InLimits (words : List ℕ) (end : ℕ) : Type 0 where
  pub even : length words % 2 ≡ 0
  pub few : length words ≤ 128
  pub benches : (i : ℕ) → 2 * i + 1 < length words → (1 ≤ get_or words (2 * i) 0) × (get_or words (2 * i) 0 ≤ 4)
  pub lengths : (i : ℕ) → 2 * i + 1 < length words → (1 ≤ get_or words (2 * i + 1) 0) × (get_or words (2 * i + 1) 0 ≤ 1000000)
  pub break-end : end ≤ 1000000

pub limits-are : (words : List ℕ) (end : ℕ) → within_limits words end ≡ true → InLimits words end
limits-are words end e =
    let jobs = limits-jobs words end e in
    let job : (i : ℕ) → 2 * i + 1 < length words → Within (job_at words i) = λ i h. job-facts words i (limits-within words end e) h in
    record {
      even = omega arith;
      few = omega arith;
      benches = λ i h. ((job i h).bench-from, (job i h).bench-to);
      lengths = λ i h. ((job i h).ticks-from, (job i h).ticks-to);
      break-end = leb-true end 1000000 (both (jobs_within words) (leb end 1000000) e).1;
    }

pub are-limits : (words : List ℕ) (end : ℕ) → InLimits words end → within_limits words end ≡ true
are-limits words end l =
    let count = jobs-length words (length words / 2) (omega (arith, l.even)) in
    let job : (i : ℕ) → 2 * i + 1 < length words → Within (job_at words i) =
    λ i h. record { bench-from = (l.benches i h).0; bench-to = (l.benches i h).1; ticks-from = (l.lengths i h).0; ticks-to = (l.lengths i h).1 } in
    and_both (jobs_within words) (leb end 1000000)
    (facts-jobs words (record { pairs = omega (arith, l.even); few = omega arith; each = within-each words (length words / 2) (omega (arith, l.even)) job }))
    (le-leb end 1000000 l.break-end)

-- ---- a plan

-- Job i ends by the end of the break; of two jobs of one bench, the one ends by the start of the other.
pub record Fits (words : List ℕ) (end : ℕ) (starts : List ℕ) : Type 0 where
  pub ends : (i : ℕ) → i < length starts → get_or starts i 0 + get_or words (2 * i + 1) 0 ≤ end
  pub apart : (i j : ℕ) → i < j → j < length starts → get_or words (2 * i) 0 ≡ get_or words (2 * j) 0
      → get_or starts i 0 < get_or starts j 0 + get_or words (2 * j + 1) 0 → get_or starts i 0 + get_or words (2 * i + 1) 0 ≤ get_or starts j 0

module _ (words starts : List ℕ) (pairs : length words ≡ 2 * length starts) where
  -- a test of the jobs from job k on is one of each of them
  every-at : (test : Booking → Bool) (ahead k j : ℕ) → every test (booked_from words starts k) ≡ true → j ≡ k + ahead → j < length starts
      → test (booked_at words starts j) ≡ true
  every-at test zero k j e is h =
      let here = rw (from-here words starts k (omega arith) (omega arith)) at e in
      ap (λ (i : ℕ). test (booked_at words starts i)) (let z : j ≡ k = omega arith in z)
      ∙ (both (test (booked_at words starts k)) (every test (booked_from words starts (k + 1))) here).0
  every-at test (suc ahead) k j e is h =
      let here = rw (from-here words starts k (omega arith) (omega arith)) at e in
      every-at test ahead (k + 1) j (both (test (booked_at words starts k)) (every test (booked_from words starts (k + 1))) here).1 (omega arith) h

  at_every : (test : Booking → Bool) (ahead k : ℕ) → k + ahead ≡ length starts
      → ((j : ℕ) → k ≤ j → j < length starts → test (booked_at words starts j) ≡ true) → every test (booked_from words starts k) ≡ true
  at_every test zero k is each = rw (from_end words starts k (omega arith))
  at_every test (suc ahead) k is each =
      rw (from-here words starts k (omega arith) (omega arith))
      (and_both (test (booked_at words starts k)) (every test (booked_from words starts (k + 1)))
      (each k (omega arith) (omega arith))
      (at_every test ahead (k + 1) (omega arith) (λ j h. each j (omega arith))))

  module _ (end : ℕ) where
    accepts-fits : accepts end (booked (jobs_of words) starts) ≡ true → Fits words end starts
    accepts-fits e =
        let first : (i : ℕ) (h : i < length starts) → _ = λ i h. first-from end words starts pairs i h e in
        record {
          ends = λ i h. leb-true _ end (first i h).timely;
          apart = λ i j before h.
              clear-facts (booked_at words starts i) (booked_at words starts j) (every-at (clear_of (booked_at words starts i)) (j - (i + 1)) (i + 1) j (first i (omega arith)).clear (omega arith) h);
        }

    fits-from : Fits words end starts → (ahead k : ℕ) → k + ahead ≡ length starts → accepts end (booked_from words starts k) ≡ true
    fits-from f zero k is = rw (from_end words starts k (omega arith)) (none-accepted end)
    fits-from f (suc ahead) k is =
        rw (from-here words starts k (omega arith) (omega arith))
        (one_more end (booked_at words starts k) (booked_from words starts (k + 1))
        (le-leb _ end (f.ends k (omega arith)))
        (at_every (clear_of (booked_at words starts k)) ahead (k + 1) (omega arith)
        (λ j h before. facts-clear (booked_at words starts k) (booked_at words starts j) (f.apart k j (omega arith) before)))
        (fits-from f ahead (k + 1) (omega arith)))

-- An accepted plan has one start a job, is for jobs and a break within the limits, and fits; and what does is accepted.
module _ (words : List ℕ) (end : ℕ) (starts : List ℕ) where
  pub record Accepted : Type 0 where
    pub limits : InLimits words end
    pub one_each : length words ≡ 2 * length starts
    pub fits : Fits words end starts

  pub accepted-is : checked words end starts ≡ 0 → Accepted
  accepted-is e =
      let g = good words end starts e in
      let jobs = limits-jobs words end g.limits in
      let pairs : length words ≡ 2 * length starts = omega (arith, g.one_each) in
      record { limits = limits-are words end g.limits; one_each = pairs; fits = accepts-fits words starts pairs end g.fits }

  pub is-accepted : Accepted → checked words end starts ≡ 0
  is-accepted a =
      sym (accepted words end starts (are-limits words end a.limits) (sym (jobs-length words (length starts) a.one_each))
      (rw (sym (from_start words starts)) (fits-from words starts a.one_each end a.fits (length starts) 0 (omega arith))))

-- ---- tick by tick

lasting : (jobs : List Job) (starts : List ℕ) → every job_within jobs ≡ true → All (λ p. p.from < p.to) (booked jobs starts)
lasting [] starts e = tt
lasting (j ∷ jobs) [] e = tt
lasting (j ∷ jobs) (s ∷ starts) e =
    let each = both (job_within j) (every job_within jobs) e in
    (omega (arith, within-facts j each.0), lasting jobs starts each.1)

module _ (words : List ℕ) (end : ℕ) (starts : List ℕ) where
  -- in an accepted plan at most one job has a bench at a tick
  pub accepted-ticks : checked words end starts ≡ 0 → (bench tick : ℕ) → count (has bench tick) (booked (jobs_of words) starts) ≤ 1
  unfolding accepts
  accepted-ticks e bench tick =
      let ps = booked (jobs_of words) starts in
      one-at-a-time bench tick ps (both (every (ends_by end) ps) (apart ps) (good words end starts e).fits).1

  -- and a plan within the limits of which that is true, and whose jobs end by the end of the break, is accepted
  pub ticks-accepted : within_limits words end ≡ true → length starts ≡ length (jobs_of words) → every (ends_by end) (booked (jobs_of words) starts) ≡ true
      → ((bench tick : ℕ) → count (has bench tick) (booked (jobs_of words) starts) ≤ 1) → checked words end starts ≡ 0
  unfolding accepts
  ticks-accepted limits one_each ends most =
      let ps = booked (jobs_of words) starts in
      let apart-all = one-each-tick ps (lasting (jobs_of words) starts (limits-jobs words end limits).each) most in
      sym (accepted words end starts limits one_each (and_both (every (ends_by end) ps) (apart ps) ends apart-all))
