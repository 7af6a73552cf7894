-- The limits as facts, and the jobs of a list of words one after another. Assumes nothing.
use mathlib.Core.Path.{◌≡◌, sym, ap, ◌∙◌}
use Prim.Native.Nat.{ℕ, zero, suc, ◌+◌, ◌*◌, ◌-◌, ◌≤◌, ◌<◌}
use native.Mathlib.Numerals.{add-one}
use native.Mathlib.Omega.{arith}
use mathlib.Core.Bool.{true, false}
use mathlib.Core.List.{List, [], ◌∷◌}
use lib.Dec.{leb, eqb}
use lib.ListN.{length, get_or, drop, drop_of_length-le}
use lib.Seq.{drop-cons}
use borrow.Author.Tests.{leb-true, le-leb, eqb-true, eq-eqb}
use Rattle.model.specs.Lists.{every}
use Rattle.laws.proofs.ListLaws.{cases, both, and_both, all-at}
use Rattle.plans.specs.declared.Job.{Job}
use Rattle.plans.specs.Plans.{jobs_of, job_within, jobs_within, within_limits}
use Rattle.plans.specs.Parts.{job_at}

-- ---- a job

pub record Within (j : Job) : Type 0 where
  pub bench-from : 1 ≤ j.bench
  pub bench-to : j.bench ≤ 4
  pub ticks-from : 1 ≤ j.ticks
  pub ticks-to : j.ticks ≤ 1000000

pub facts-within : (j : Job) → Within j → job_within j ≡ true
unfolding job_within
facts-within j v = simp (le-leb _ _ v.bench-from, le-leb _ _ v.bench-to, le-leb _ _ v.ticks-from, le-leb _ _ v.ticks-to)

pub within-facts : (j : Job) → job_within j ≡ true → Within j
unfolding job_within
within-facts j e =
    let t = all-at (leb 1 j.bench ∷ leb j.bench 4 ∷ leb 1 j.ticks ∷ leb j.ticks 1000000 ∷ []) e in
    record {
      bench-from = leb-true _ _ (t 0);
      bench-to = leb-true _ _ (t 1);
      ticks-from = leb-true _ _ (t 2);
      ticks-to = leb-true _ _ (t 3);
    }

pub not_within : (j : Job) → (Within j → ⊥) → false ≡ job_within j
not_within j n = cases (job_within j) (λ e. absurd (n (within-facts j e))) (λ e. sym e)

-- ---- the jobs

pub record Jobs (words : List ℕ) : Type 0 where
  pub pairs : length words ≡ 2 * length (jobs_of words)
  pub few : length (jobs_of words) ≤ 64
  pub each : every job_within (jobs_of words) ≡ true

pub facts-jobs : (words : List ℕ) → Jobs words → jobs_within words ≡ true
unfolding jobs_within
facts-jobs words v = simp (eq-eqb _ _ v.pairs, le-leb _ _ v.few, v.each)

pub jobs-facts : (words : List ℕ) → jobs_within words ≡ true → Jobs words
unfolding jobs_within
jobs-facts words e =
    let jobs = jobs_of words in
    let t = all-at (eqb (length words) (2 * length jobs) ∷ leb (length jobs) 64 ∷ every job_within jobs ∷ []) e in
    record { pairs = eqb-true _ _ (t 0); few = leb-true _ _ (t 1); each = t 2 }

pub not-jobs : (words : List ℕ) → (Jobs words → ⊥) → false ≡ jobs_within words
not-jobs words n = cases (jobs_within words) (λ e. absurd (n (jobs-facts words e))) (λ e. sym e)

-- two words a job, and one start
pub pairs : (words starts : List ℕ) → jobs_within words ≡ true → length starts ≡ length (jobs_of words) → length words ≡ 2 * length starts
pairs words starts within one = omega (arith, (jobs-facts words within).pairs)

pub jobs-length : (words : List ℕ) (n : ℕ) → length words ≡ 2 * n → length (jobs_of words) ≡ n
jobs-length [] n e = omega arith
jobs-length (b ∷ []) n e = omega arith
jobs-length (b ∷ t ∷ words) n e = omega (arith, jobs-length words (n - 1) (omega arith))

-- the jobs from job i on
pub jobs-from : (words : List ℕ) (i : ℕ) → 2 * i + 1 < length words → jobs_of (drop (2 * i) words) ≡ job_at words i ∷ jobs_of (drop (2 * (i + 1)) words)
jobs-from words i h = ap jobs_of pair
  where
    here : suc (2 * i) ≡ 2 * i + 1
    here = omega arith

    next : suc (2 * i + 1) ≡ 2 * (i + 1)
    next = omega arith

    second : drop (suc (2 * i)) words ≡ get_or words (2 * i + 1) 0 ∷ drop (2 * (i + 1)) words
    second =
        ap (λ (k : ℕ). drop k words) here ∙ drop-cons words (2 * i + 1) 0 h
        ∙ ap (λ (k : ℕ). get_or words (2 * i + 1) 0 ∷ drop k words) next

    pair : drop (2 * i) words ≡ get_or words (2 * i) 0 ∷ get_or words (2 * i + 1) 0 ∷ drop (2 * (i + 1)) words
    pair = drop-cons words (2 * i) 0 (omega arith) ∙ ap (λ (l : List ℕ). get_or words (2 * i) 0 ∷ l) second

each_from : (words : List ℕ) (i : ℕ) → every job_within (jobs_of words) ≡ true → 2 * i < length words + 1 → every job_within (jobs_of (drop (2 * i) words)) ≡ true
each_from words zero e h = e
each_from words (suc i) e h =
    let from = each_from words i e (omega arith) in
    let this = rw (jobs-from words i (omega arith)) at from in
    rw (sym (add-one i)) (both (job_within (job_at words i)) (every job_within (jobs_of (drop (2 * (i + 1)) words))) this).1

pub job-facts : (words : List ℕ) (i : ℕ) → jobs_within words ≡ true → 2 * i + 1 < length words → Within (job_at words i)
job-facts words i e h =
    let from = each_from words i (jobs-facts words e).each (omega arith) in
    let this = rw (jobs-from words i h) at from in
    within-facts (job_at words i) (both (job_within (job_at words i)) (every job_within (jobs_of (drop (2 * (i + 1)) words))) this).0

-- and where every job is, `jobs_within`'s test of them passes
pub within-each : (words : List ℕ) (n : ℕ) → length words ≡ 2 * n → ((i : ℕ) → 2 * i + 1 < length words → Within (job_at words i))
    → every job_within (jobs_of words) ≡ true
within-each words n e each = from n 0 (omega arith)
  where
    from : (ahead i : ℕ) → 2 * (i + ahead) ≡ length words → every job_within (jobs_of (drop (2 * i) words)) ≡ true
    from zero i is = rw (drop_of_length-le words {i = 2 * i} (omega arith))
    from (suc ahead) i is =
        rw (jobs-from words i (omega arith))
        (and_both (job_within (job_at words i)) (every job_within (jobs_of (drop (2 * (i + 1)) words)))
        (facts-within (job_at words i) (each i (omega arith)))
        (from ahead (i + 1) (omega arith)))

-- ---- the jobs and the break

pub limits-within : (words : List ℕ) (end : ℕ) → within_limits words end ≡ true → jobs_within words ≡ true
limits-within words end e = (both (jobs_within words) (leb end 1000000) e).0

pub limits-jobs : (words : List ℕ) (end : ℕ) → within_limits words end ≡ true → Jobs words
limits-jobs words end e = jobs-facts words (limits-within words end e)

pub ruleset limits = (limits-within, limits-jobs)
