-- What the planner's two loops come to: for each bench the ticks of the jobs ahead, and the starts made so far; then the starts stored one by one.
-- Assumes nothing.
use mathlib.Core.Path.{◌≡◌, refl, sym, ap, ◌∙◌}
use Prim.Native.Nat.{ℕ, suc, ◌+◌, ◌*◌, ◌≤◌, ◌<◌}
use native.Mathlib.Numerals.{add-one}
use native.Mathlib.Omega.{arith}
use mathlib.Core.List.{List, [], ◌∷◌, ◌++◌, append-nil}
use lib.Dec.{eqb}
use lib.ListN.{length, get_or, set, take, drop, length-set, length-append, length-drop, replicate, get_or-replicate, drop_of_length-le}
use lib.Seq.{get_or-set_same, get_or-set_other, take-suc, take-suc-set, take-length, length-take-le, drop-cons, append_snoc, set_at}
use borrow.Author.Tests.{eqb-true, eqb-false}
use Rattle.laws.proofs.ListLaws.{cases}
use Rattle.plans.specs.declared.Job.{Job}
use Rattle.plans.specs.Plans.{jobs_of}
use Rattle.plans.specs.Parts.{job_at}
use Rattle.plans.proofs.Limits.{Within, jobs-from, jobs-facts, job-facts}
use Rattle.planner.specs.Proposal.{ticks_on, back_to_back, proposal}

-- the jobs before job i have their starts
pub record Proposing (words : List ℕ) (i : ℕ) (starts ends : List ℕ) : Type 0 where
  pub ahead : List Job
  pub room : length starts ≡ 64
  pub benches : length ends ≡ 5
  pub free : (b : ℕ) → b < 5 → get_or ends b 0 ≡ ticks_on b ahead
  pub low : (b : ℕ) → b < 5 → get_or ends b 0 ≤ 1000000 * i
  pub made : take i starts ++ back_to_back ahead (jobs_of (drop (2 * i) words)) ≡ proposal words

pub proposing : (words : List ℕ) → Proposing words 0 (replicate 64 0) (replicate 5 0)
unfolding proposal
proposing words =
    record {
      ahead = [];
      room = refl;
      benches = refl;
      free = λ b h. get_or-replicate {A = ℕ} 5 b 0 0 h;
      low = λ b h. omega (arith, get_or-replicate {A = ℕ} 5 b 0 0 h);
      made = refl;
    }

module _ (words : List ℕ) (i : ℕ) (starts ends : List ℕ) (w : Proposing words i starts ends) where
  module _ (ok : Within (job_at words i)) (here : 2 * i + 1 < length words) (few : i < 64) where
    abbrev job : Job
    job = job_at words i

    abbrev start : ℕ
    start = get_or ends job.bench 0

    own : get_or (set ends job.bench (start + job.ticks)) job.bench 0 ≡ start + job.ticks
    own = get_or-set_same ends job.bench (start + job.ticks) 0 (omega (arith, ok.bench-to, w.benches))

    other : (b : ℕ) → (b ≡ job.bench → ⊥) → get_or (set ends job.bench (start + job.ticks)) b 0 ≡ get_or ends b 0
    other b n = get_or-set_other ends job.bench b (start + job.ticks) 0 n

    free-next : (b : ℕ) → b < 5 → get_or (set ends job.bench (start + job.ticks)) b 0 ≡ ticks_on b (job ∷ w.ahead)
    free-next b h =
        cases (eqb job.bench b)
        (λ e.
        let same = eqb-true job.bench b e in
        rw e (ap (λ (k : ℕ). get_or (set ends job.bench (start + job.ticks)) k 0) (sym same) ∙ own ∙ omega (arith, w.free b h, ap (λ (k : ℕ). get_or ends k 0) same)))
        (λ e. rw e (other b (λ f. eqb-false job.bench b e (sym f)) ∙ w.free b h))

    low-next : (b : ℕ) → b < 5 → get_or (set ends job.bench (start + job.ticks)) b 0 ≤ 1000000 * (i + 1)
    low-next b h =
        cases (eqb job.bench b)
        (λ e.
        let same = eqb-true job.bench b e in
        let this = ap (λ (k : ℕ). get_or (set ends job.bench (start + job.ticks)) k 0) same in
        omega (arith, own, this, w.low b h, ap (λ (k : ℕ). get_or ends k 0) same, ok.ticks-to))
        (λ e. omega (arith, other b (λ f. eqb-false job.bench b e (sym f)), w.low b h))

    made-next : take (i + 1) (set starts i start) ++ back_to_back (job ∷ w.ahead) (jobs_of (drop (2 * (i + 1)) words)) ≡ proposal words
    made-next =
        let later = jobs_of (drop (2 * (i + 1)) words) in
        let first : take (i + 1) (set starts i start) ≡ take i starts ++ (start ∷ []) =
        ap (λ (k : ℕ). take k (set starts i start)) (add-one i) ∙ take-suc-set starts i start (omega (arith, w.room)) in
        let at = w.free job.bench (omega (arith, ok.bench-to)) in
        let this : job ∷ later ≡ jobs_of (drop (2 * i) words) = sym (jobs-from words i here) in
        ap (λ (l : List ℕ). l ++ back_to_back (job ∷ w.ahead) later) first
        ∙ append_snoc (take i starts) start (back_to_back (job ∷ w.ahead) later)
        ∙ ap (λ (n : ℕ). take i starts ++ n ∷ back_to_back (job ∷ w.ahead) later) at
        ∙ ap (λ (js : List Job). take i starts ++ back_to_back w.ahead js) this
        ∙ w.made

    pub next : Proposing words (i + 1) (set starts i start) (set ends job.bench (start + job.ticks))
    next =
        record {
          ahead = job ∷ w.ahead;
          room = length-set starts i start ∙ w.room;
          benches = length-set ends job.bench (start + job.ticks) ∙ w.benches;
          free = free-next;
          low = low-next;
          made = made-next;
        }

  pub proposed : length words ≤ 2 * i → take i starts ≡ proposal words
  proposed h =
      sym (append-nil (take i starts))
      ∙ ap (λ (l : List ℕ). take i starts ++ back_to_back w.ahead (jobs_of l)) (sym (drop_of_length-le words {i = 2 * i} h))
      ∙ w.made

-- ---- the starts are stored one by one

module _ (list starts : List ℕ) where
  pub stored-length : (now : List ℕ) (i : ℕ) → i ≤ length starts → length starts ≤ length list → now ≡ take i starts ++ drop i list → length now ≡ length list
  stored-length now i h k e =
      ap length e ∙ omega (arith, length-append (take i starts) (drop i list), length-take-le i starts h, length-drop i list)

  pub stored_more : (now : List ℕ) (i : ℕ) → i < length starts → length starts ≤ length list → now ≡ take i starts ++ drop i list
      → set now i (get_or starts i 0) ≡ take (i + 1) starts ++ drop (i + 1) list
  stored_more now i h k e =
      ap (λ (l : List ℕ). set l i (get_or starts i 0)) (e ∙ ap (λ (l : List ℕ). take i starts ++ l) (drop-cons list i 0 (omega arith)))
      ∙ set_at (take i starts) (get_or list i 0) (drop (suc i) list) (get_or starts i 0) i (length-take-le i starts (omega arith))
      ∙ sym (append_snoc (take i starts) (get_or starts i 0) (drop (suc i) list))
      ∙ ap (λ (l : List ℕ). l ++ drop (suc i) list) (sym (take-suc starts i 0 h))
      ∙ ap (λ (n : ℕ). take n starts ++ drop n list) (sym (add-one i))

  pub stored-all : (i : ℕ) → i ≡ length starts → take i starts ++ drop i list ≡ starts ++ drop (length starts) list
  stored-all i e = ap (λ (n : ℕ). take n starts ++ drop n list) e ∙ ap (λ (l : List ℕ). l ++ drop (length starts) list) (take-length starts)

pub ruleset jobs = (jobs-facts, job-facts)
