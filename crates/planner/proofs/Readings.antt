-- What a reader looks for in the planner: what stays in the list; and that there is a plan exactly if no bench's jobs are together longer than the
-- break. Assumes nothing.
use mathlib.Core.Path.{◌≡◌, refl, sym, ap, ◌∙◌}
use Prim.Native.Nat.{ℕ, ◌+◌, ◌-◌, ◌≤◌, ◌<◌}
use native.Mathlib.Omega.{arith}
use mathlib.Core.Bool.{true}
use mathlib.Core.List.{List, [], ◌∷◌, ◌++◌}
use lib.Dec.{leb, eqb}
use lib.ListN.{length, get_or, drop}
use lib.Seq.{get_or-append-add, get_or-drop}
use borrow.Author.Tests.{eqb-true, eqb-false, leb-true, leb-false}
use Rattle.model.specs.Lists.{every}
use Rattle.laws.proofs.ListLaws.{cases, both}
use Rattle.plans.specs.declared.Job.{Job}
use Rattle.plans.specs.Plans.{jobs_of, job_within, within_limits}
use Rattle.plans.specs.Checker.{checked}
use Rattle.plans.proofs.Limits.{within-facts, limits-jobs}
use Rattle.plans.proofs.Verdicts.{good, accepted}
use Rattle.planner.specs.Proposal.{ticks_on, proposal}
use Rattle.planner.specs.Planner.{plan_status, Outcome, planned, NoPlan}
use Rattle.planner.proofs.Packing.{room, back-to-back}
use Rattle.planner.proofs.Theorems.{proposal-length, plan-none, plan-some, refused, proposes}

-- ---- the list

module _ (words : List ℕ) (end : ℕ) (list : List ℕ) where
  status-is : (planned words end list).status ≡ plan_status words end list
  unfolding planned
  status-is = refl

  -- a refusal leaves the list
  pub refusal-leaves : ((planned words end list).status ≡ 0 → ⊥) → (planned words end list).list ≡ list
  refusal-leaves n =
      sym (ap (λ (o : Outcome). o.list) (refused words end list (plan_status words end list) refl (λ e. n (status-is ∙ e))))

  module _ (some : (planned words end list).status ≡ 0) where
    list-is : (planned words end list).list ≡ proposal words ++ drop (length (proposal words)) list
    list-is = sym (ap (λ (o : Outcome). o.list) (proposes words end list (sym status-is ∙ some)))

    past-starts : (i : ℕ) → length (jobs_of words) ≤ i → get_or (planned words end list).list i 0 ≡ get_or list i 0
    past-starts i h =
        let n = length (proposal words) in
        let from : n + (i - n) ≡ i = omega (arith, proposal-length words) in
        ap (λ (l : List ℕ). get_or l i 0) list-is
        ∙ ap (λ (k : ℕ). get_or (proposal words ++ drop n list) k 0) (sym from)
        ∙ get_or-append-add (proposal words) (drop n list) (i - n) 0
        ∙ get_or-drop n list (i - n) 0
        ∙ ap (λ (k : ℕ). get_or list k 0) from

  -- words past the starts stay
  pub rest-stays : (i : ℕ) → length (jobs_of words) ≤ i → get_or (planned words end list).list i 0 ≡ get_or list i 0
  rest-stays i h =
      cases (eqb (planned words end list).status 0)
      (λ e. past-starts (eqb-true _ 0 e) i h)
      (λ e. ap (λ (l : List ℕ). get_or l i 0) (refusal-leaves (eqb-false _ 0 e)))

-- ---- where there is a plan

-- a bench that no job may have has no ticks
no-bench : (jobs : List Job) (bench : ℕ) → every job_within jobs ≡ true → (1 ≤ bench → bench ≤ 4 → ⊥) → ticks_on bench jobs ≡ 0
no-bench [] bench e n = refl
no-bench (j ∷ jobs) bench e n =
    let each = both (job_within j) (every job_within jobs) e in
    let within = within-facts j each.0 in
    cases (eqb j.bench bench)
    (λ f. let same = eqb-true j.bench bench f in absurd (n (omega arith) (omega arith)))
    (λ f. rw f (no-bench jobs bench each.1 n))

module _ (words : List ℕ) (end : ℕ) where
  -- jobs of one bench that are together longer than the break have no plan
  pub too_long : (bench : ℕ) → end < ticks_on bench (jobs_of words) → NoPlan words end
  too_long bench h starts e =
      let g = good words end starts e in
      omega (arith, room end (jobs_of words) starts g.one_each g.fits bench)

  module _ (limits : within_limits words end ≡ true) where
    -- where none of the four benches' are, the proposal is a plan
    pub room-enough : ((bench : ℕ) → 1 ≤ bench → bench ≤ 4 → ticks_on bench (jobs_of words) ≤ end) → checked words end (proposal words) ≡ 0
    unfolding proposal
    room-enough h =
        sym (accepted words end (proposal words) limits (proposal-length words) (back-to-back end (jobs_of words) any-bench))
      where
        any-bench : (bench : ℕ) → ticks_on bench (jobs_of words) ≤ end
        any-bench bench =
            cases (leb 1 bench)
            (λ e. cases (leb bench 4)
            (λ f. h bench (leb-true 1 bench e) (leb-true bench 4 f))
            (λ f. omega (arith, leb-false bench 4 f, no-bench (jobs_of words) bench (limits-jobs words end limits).each (λ a b. omega (arith, leb-false bench 4 f)))))
            (λ e. omega (arith, leb-false 1 bench e, no-bench (jobs_of words) bench (limits-jobs words end limits).each (λ a b. omega (arith, leb-false 1 bench e))))

    module _ (list : List ℕ) (long : length (jobs_of words) ≤ length list) where
      pub refused-too-long : (bench : ℕ) → end < ticks_on bench (jobs_of words) → plan_status words end list ≡ 13
      refused-too-long bench h = plan-none words end list limits long (too_long bench h (proposal words))

      pub planned-room-enough : ((bench : ℕ) → 1 ≤ bench → bench ≤ 4 → ticks_on bench (jobs_of words) ≤ end) → plan_status words end list ≡ 0
      planned-room-enough h = plan-some words end list limits long (room-enough h)
