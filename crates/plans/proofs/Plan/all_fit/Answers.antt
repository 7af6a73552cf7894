-- `plans::Plan::all_fit` meets its contract: the jobs that are not left are accepted, and none of a bench starts before what `earliest` has for it.
-- Assumes nothing.
use Rattle.std.proofs.Common.{ℕ, ◌≡◌, ◌+◌, ◌*◌, ◌-◌, ◌<◌, ◌≤◌, ◌∙◌, true, List, ◌∷◌, length, sym, ap, arith}
use lib.ListN.{length-set}
use borrow.Author.Tests.{le-leb, lt-leb}
use Rattle.plans.specs.declared.Booking.{Booking}
use Rattle.plans.specs.Plans.{jobs_of, jobs_within}
use Rattle.plans.specs.Parts.{booked_at, booked_from}
use Rattle.plans.proofs.Limits.{job-facts, pairs}
use Rattle.plans.proofs.Bookings.{from_start, from-before, from_end}
use Rattle.plans.proofs.Checking.{none-accepted, one_more, too-late, not-clear, rejected, firsts-of, lowered}
use Rattle.plans.proofs.Plan.all_fit.Goals as goal

-- the job at hand, before those that are not left
here : (words starts : List ℕ) (left : ℕ) (p : Booking) → p ≡ booked_at words starts (left - 1) → 0 < left → left ≤ length starts
    → length words ≡ 2 * length starts → booked_from words starts (left - 1) ≡ p ∷ booked_from words starts left
here words starts left p e some h two =
    from-before words starts left some h two ∙ ap (λ (q : Booking). q ∷ booked_from words starts left) (sym e)

-- one more than the number of the job at hand
after : (i : ℕ) → 0 < i → i - 1 + 1 ≡ i
after i h = omega arith

bench-to : (words starts : List ℕ) (left : ℕ) (p : Booking) → p ≡ booked_at words starts (left - 1) → 0 < left → left ≤ length starts
    → jobs_within words ≡ true → length starts ≡ length (jobs_of words) → p.bench < 5
bench-to words starts left p e some h within one =
    let fact = job-facts words (left - 1) within (omega (arith, pairs words starts within one)) in
    omega (arith, ap (λ (q : Booking). q.bench) e)

pub loop-i-init : goal.loop-i-init
loop-i-init c =
    let a = c.args in
    let none = from_end a.self.jobs.now a.self.starts.now (length a.self.starts.now) (omega arith) in
    (omega arith, omega arith, rw none (none-accepted a.end), rw none tt)

pub returns-then-limit-p : goal.returns-then-limit-p
returns-then-limit-p c =
    let a = c.args in
    let left = c.loop-i.i in
    let p = c.booked_at-p.result in
    let two = pairs a.self.jobs.now a.self.starts.now a.self.within a.self.one_each in
    rejected a.end a.self.jobs.now a.self.starts.now two (left - 1) (omega arith)
    (rw (here a.self.jobs.now a.self.starts.now left p c.booked_at-p.ensures c.loop-i-test.true c.loop-i.invariant.0 two)
    (too-late a.end p (booked_from a.self.jobs.now a.self.starts.now left) (lt-leb p.to a.end (omega arith))))

pub bounds-earliest-bench : goal.bounds-earliest-bench
bounds-earliest-bench c =
    bench-to c.args.self.jobs.now c.args.self.starts.now c.loop-i.i _ c.booked_at-p.ensures c.loop-i-test.true c.loop-i.invariant.0 c.args.self.within c.args.self.one_each

pub clear_of-requires : goal.clear_of-requires
clear_of-requires c =
    let a = c.args in
    rw (after c.loop-i.i c.loop-i-test.true)
    (firsts-of c.loop-i.earliest c.booked_at-p.result (booked_from a.self.jobs.now a.self.starts.now c.loop-i.i) c.loop-i.invariant.3)

pub returns-then-not-clear_of : goal.returns-then-not-clear_of
returns-then-not-clear_of c =
    let a = c.args in
    let left = c.loop-i.i in
    let p = c.booked_at-p.result in
    let two = pairs a.self.jobs.now a.self.starts.now a.self.within a.self.one_each in
    rejected a.end a.self.jobs.now a.self.starts.now two (left - 1) (omega arith)
    (rw (here a.self.jobs.now a.self.starts.now left p c.booked_at-p.ensures c.loop-i-test.true c.loop-i.invariant.0 two)
    (not-clear a.end p (booked_from a.self.jobs.now a.self.starts.now left) (sym (rw (after c.loop-i.i c.loop-i-test.true) at c.if-not-clear_of.ensures))))

pub loop-i-preserved-then-p-next : goal.loop-i-preserved-then-p-next
loop-i-preserved-then-p-next c =
    let a = c.args in
    let l = c.loop-i in
    let p = c.booked_at-p.result in
    let later = booked_from a.self.jobs.now a.self.starts.now l.i in
    let this = here a.self.jobs.now a.self.starts.now l.i p c.booked_at-p.ensures c.loop-i-test.true l.invariant.0 (pairs a.self.jobs.now a.self.starts.now a.self.within a.self.one_each) in
    let bench = bench-to a.self.jobs.now a.self.starts.now l.i p c.booked_at-p.ensures c.loop-i-test.true l.invariant.0 a.self.within a.self.one_each in (
      omega arith,
      simp length-set l.invariant.1,
      rw this (one_more a.end p later (le-leb p.to a.end (omega arith)) (sym (rw (after c.loop-i.i c.loop-i-test.true) at c.if-not-clear_of.ensures)) l.invariant.2),
      rw this (lowered l.earliest p later (omega arith) (omega arith) l.invariant.3),
    )

pub loop-i-preserved : goal.loop-i-preserved
loop-i-preserved c =
    let a = c.args in
    let l = c.loop-i in
    let p = c.booked_at-p.result in
    let later = booked_from a.self.jobs.now a.self.starts.now l.i in
    let this = here a.self.jobs.now a.self.starts.now l.i p c.booked_at-p.ensures c.loop-i-test.true l.invariant.0 (pairs a.self.jobs.now a.self.starts.now a.self.within a.self.one_each) in (
      omega arith,
      l.invariant.1,
      rw this (one_more a.end p later (le-leb p.to a.end (omega arith)) (sym (rw (after c.loop-i.i c.loop-i-test.true) at c.if-not-clear_of.ensures)) l.invariant.2),
      rw this (omega arith, l.invariant.3),
    )

pub returns : goal.returns
returns c =
    let all : c.loop-i.i ≡ 0 = omega arith in
    sym (rw (sym (from_start c.args.self.jobs.now c.args.self.starts.now), sym all) c.loop-i.invariant.2)
