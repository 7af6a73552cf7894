-- If any plan is accepted, the plan back to back is. A bench is taken by at most one job at a tick, so that by tick n it was taken for at most n
-- ticks, and an accepted plan's lengths on a bench add up to at most the break; back to back, the jobs of a bench end at that sum, or before.
-- Assumes nothing.
use mathlib.Core.Path.{◌≡◌, refl, ap}
use Prim.Native.Nat.{ℕ, zero, suc, ◌+◌, ◌-◌, ◌≤◌}
use native.Mathlib.Omega.{arith}
use mathlib.Core.Bool.{true, cond}
use mathlib.Core.List.{List, [], ◌∷◌}
use lib.Dec.{leb, ltb, eqb}
use lib.ListN.{length}
use borrow.Author.Tests.{ltb-true, ltb-false, leb-true, leb-false, le-leb, eq-eqb}
use Rattle.model.specs.Lists.{every, count, All}
use Rattle.laws.proofs.ListLaws.{cases, both, and_both, all_map}
use Rattle.plans.specs.declared.Job.{Job}
use Rattle.plans.specs.declared.Booking.{Booking}
use Rattle.plans.specs.Plans.{book, booked, ends_by, clear_of, apart, accepts}
use Rattle.plans.proofs.Ticks.{has, one-at-a-time}
use Rattle.plans.proofs.Checking.{clear-of-later}
use Rattle.planner.specs.Proposal.{ticks_on, back_to_back}

-- ---- an accepted plan has room for its jobs

-- the ticks before tick n at which bench b is taken, counted once for each job
abbrev used : ℕ → List Booking → ℕ → ℕ
used b [] n = 0
used b (p ∷ ps) n = cond (eqb p.bench b) (n - p.from - (n - p.to) + used b ps n) (used b ps n)

used-none : (b : ℕ) (ps : List Booking) → used b ps 0 ≡ 0
used-none b [] = refl
used-none b (p ∷ ps) = let ih = used-none b ps in cases (eqb p.bench b) (λ e. rw e (omega arith)) (λ e. rw e ih)

-- one tick more
used-more : (b n : ℕ) (ps : List Booking) → All (λ p. p.from ≤ p.to) ps → used b ps (suc n) ≡ used b ps n + count (has b n) ps
used-more b n [] h = refl
used-more b n (p ∷ ps) h =
    let ih = used-more b n ps h.1 in
    cases (eqb p.bench b)
    (λ e. rw e (cases (leb p.from n)
    (λ f. rw f (cases (ltb n p.to) (λ g. rw g (omega (arith, leb-true, ltb-true))) (λ g. rw g (omega (arith, leb-true, ltb-false)))))
    (λ f. rw f (omega (arith, leb-false, h.0)))))
    (λ e. rw e ih)

used-most : (b n : ℕ) (ps : List Booking) → All (λ p. p.from ≤ p.to) ps → apart ps ≡ true → used b ps n ≤ n
used-most b zero ps h a = omega (arith, used-none b ps)
used-most b (suc n) ps h a = omega (arith, used-most b n ps h a, used-more b n ps h, one-at-a-time b n ps a)

rising : (jobs : List Job) (starts : List ℕ) → All (λ p. p.from ≤ p.to) (booked jobs starts)
rising [] starts = tt
rising (j ∷ jobs) [] = tt
rising (j ∷ jobs) (s ∷ starts) = (omega arith, rising jobs starts)

-- by the end of the break a bench was taken for the lengths of its jobs
used_all : (b end : ℕ) (jobs : List Job) (starts : List ℕ) → length starts ≡ length jobs → every (ends_by end) (booked jobs starts) ≡ true
    → used b (booked jobs starts) end ≡ ticks_on b jobs
used_all b end [] starts l h = refl
used_all b end (j ∷ jobs) [] l h = omega arith
used_all b end (j ∷ jobs) (s ∷ starts) l h =
    let ends = both (ends_by end (book j s)) (every (ends_by end) (booked jobs starts)) h in
    let timely = leb-true (s + j.ticks) end ends.0 in
    let ih = used_all b end jobs starts (omega arith) ends.1 in
    cases (eqb j.bench b) (λ e. rw e (omega arith)) (λ e. rw e ih)

-- the lengths of an accepted plan's jobs on a bench add up to at most the break
pub room : (end : ℕ) (jobs : List Job) (starts : List ℕ) → length starts ≡ length jobs → accepts end (booked jobs starts) ≡ true
    → (b : ℕ) → ticks_on b jobs ≤ end
unfolding accepts
room end jobs starts l h b =
    let a = both (every (ends_by end) (booked jobs starts)) (apart (booked jobs starts)) h in
    omega (arith, used_all b end jobs starts l a.0, used-most b end (booked jobs starts) (rising jobs starts) a.1)

-- ---- back to back

pub one_each : (ahead jobs : List Job) → length (back_to_back ahead jobs) ≡ length jobs
one_each ahead [] = refl
one_each ahead (j ∷ jobs) = ap suc (one_each (j ∷ ahead) jobs)

-- a job's own bench has its length more
own : (j : Job) (jobs : List Job) → ticks_on j.bench (j ∷ jobs) ≡ j.ticks + ticks_on j.bench jobs
own j jobs = rw (eq-eqb j.bench j.bench refl)

-- a job is ahead, or yet to come
moved : (b : ℕ) (j : Job) (ahead jobs : List Job) → ticks_on b (j ∷ ahead) + ticks_on b jobs ≡ ticks_on b ahead + ticks_on b (j ∷ jobs)
moved b j ahead jobs = cases (eqb j.bench b) (λ e. rw e (omega arith)) (λ e. rw e)

more : (b : ℕ) (j : Job) (ahead : List Job) → ticks_on b ahead ≤ ticks_on b (j ∷ ahead)
more b j ahead = cases (eqb j.bench b) (λ e. rw e (omega arith)) (λ e. rw e (omega arith))

all_end : (end : ℕ) (ahead jobs : List Job) → ((b : ℕ) → ticks_on b ahead + ticks_on b jobs ≤ end)
    → every (ends_by end) (booked jobs (back_to_back ahead jobs)) ≡ true
all_end end ahead [] h = refl
all_end end ahead (j ∷ jobs) h =
    and_both
    (ends_by end (book j (ticks_on j.bench ahead)))
    (every (ends_by end) (booked jobs (back_to_back (j ∷ ahead) jobs)))
    (le-leb (ticks_on j.bench ahead + j.ticks) end (omega (arith, h j.bench, own j jobs)))
    (all_end end (j ∷ ahead) jobs (λ b. omega (arith, h b, moved b j ahead jobs)))

-- no job starts before those ahead of it on its bench have ended
behind : (ahead jobs : List Job) → All (λ q. ticks_on q.bench ahead ≤ q.from) (booked jobs (back_to_back ahead jobs))
behind ahead [] = tt
behind ahead (j ∷ jobs) =
    (omega arith, all_map (λ q h. omega (arith, h, more q.bench j ahead)) (booked jobs (back_to_back (j ∷ ahead) jobs)) (behind (j ∷ ahead) jobs))

all_apart : (ahead jobs : List Job) → apart (booked jobs (back_to_back ahead jobs)) ≡ true
all_apart ahead [] = refl
all_apart ahead (j ∷ jobs) =
    let p = book j (ticks_on j.bench ahead) in
    let later = booked jobs (back_to_back (j ∷ ahead) jobs) in
    and_both
    (every (clear_of p) later)
    (apart later)
    (clear-of-later p p.to later (omega arith)
    (all_map (λ q h e. omega (arith, h, own j ahead, ap (λ (b : ℕ). ticks_on b (j ∷ ahead)) e)) later (behind (j ∷ ahead) jobs)))
    (all_apart (j ∷ ahead) jobs)

pub back-to-back : (end : ℕ) (jobs : List Job) → ((b : ℕ) → ticks_on b jobs ≤ end) → accepts end (booked jobs (back_to_back [] jobs)) ≡ true
unfolding accepts
back-to-back end jobs h =
    and_both
    (every (ends_by end) (booked jobs (back_to_back [] jobs)))
    (apart (booked jobs (back_to_back [] jobs)))
    (all_end end [] jobs (λ b. omega (arith, h b)))
    (all_apart [] jobs)

-- if any plan is accepted, the plan back to back is
pub enough : (end : ℕ) (jobs : List Job) (starts : List ℕ) → length starts ≡ length jobs → accepts end (booked jobs starts) ≡ true
    → accepts end (booked jobs (back_to_back [] jobs)) ≡ true
enough end jobs starts l h = back-to-back end jobs (room end jobs starts l h)
