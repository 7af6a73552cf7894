-- The planner's statuses: where each is given; and that it refuses with 13 exactly if no plan is accepted. Assumes nothing.
use mathlib.Core.Path.{◌≡◌, sym, ap, ◌∙◌}
use Prim.Native.Nat.{ℕ, ◌≤◌, ◌<◌}
use native.Mathlib.Omega.{arith}
use mathlib.Core.Bool.{true, false}
use mathlib.Core.List.{List, ◌++◌}
use lib.Dec.{ltb, eqb}
use lib.ListN.{length, take, drop}
use lib.Seq.{take_at}
use borrow.Author.Tests.{eqb-true, eqb-false, eq-eqb, ne_eqb, le-ltb, lt-ltb, ltb-true, ltb-false}
use Rattle.laws.proofs.ListLaws.{cases}
use Rattle.plans.specs.Plans.{jobs_of, within_limits}
use Rattle.plans.specs.Checker.{checked}
use Rattle.plans.proofs.Verdicts.{accepted, good}
use Rattle.planner.specs.Proposal.{proposal}
use Rattle.planner.specs.Planner.{plan_status, Outcome, exported, planned, Exact}
use Rattle.planner.proofs.Packing.{enough, one_each}

pub proposal-length : (words : List ℕ) → length (proposal words) ≡ length (jobs_of words)
unfolding proposal
proposal-length words = one_each _ (jobs_of words)

module _ (words : List ℕ) (end : ℕ) where
  -- if any plan is accepted, the planner's is
  pub any-plan : (starts : List ℕ) → checked words end starts ≡ 0 → checked words end (proposal words) ≡ 0
  unfolding proposal
  any-plan starts e =
      let g = good words end starts e in
      sym (accepted words end (proposal words) g.limits (proposal-length words) (enough end (jobs_of words) starts g.one_each g.fits))

  module _ (list : List ℕ) where
    -- ---- the statuses, in their order

    pub plan-outside : within_limits words end ≡ false → plan_status words end list ≡ 10
    unfolding plan_status
    plan-outside e = rw e

    module _ (limits : within_limits words end ≡ true) where
      pub plan-short : length list < length (jobs_of words) → plan_status words end list ≡ 8
      unfolding plan_status
      plan-short h = rw (limits, lt-ltb (length list) (length (jobs_of words)) h)

      module _ (long : length (jobs_of words) ≤ length list) where
        pub plan-none : (checked words end (proposal words) ≡ 0 → ⊥) → plan_status words end list ≡ 13
        unfolding plan_status
        plan-none n = rw (limits, le-ltb (length list) (length (jobs_of words)) long, ne_eqb (checked words end (proposal words)) 0 n)

        pub plan-some : checked words end (proposal words) ≡ 0 → plan_status words end list ≡ 0
        unfolding plan_status
        plan-some e = rw (limits, le-ltb (length list) (length (jobs_of words)) long, eq-eqb (checked words end (proposal words)) 0 e)

    -- what 0 and 13 say of the proposal
    record Says (status : ℕ) : Type 0 where
      some : status ≡ 0 → checked words end (proposal words) ≡ 0
      none : status ≡ 13 → checked words end (proposal words) ≡ 0 → ⊥

    says : Says (plan_status words end list)
    says =
        cases (within_limits words end)
        (λ l. cases (ltb (length list) (length (jobs_of words)))
        (λ f. let s = plan-short l (ltb-true (length list) (length (jobs_of words)) f) in record { some = λ e. absurd (omega arith); none = λ e. absurd (omega arith) })
        (λ f.
        let long = ltb-false (length list) (length (jobs_of words)) f in
        cases (eqb (checked words end (proposal words)) 0)
        (λ g.
        let yes = eqb-true (checked words end (proposal words)) 0 g in
        let s = plan-some l long yes in
        record { some = λ e. yes; none = λ e. absurd (omega arith) })
        (λ g.
        let no = eqb-false (checked words end (proposal words)) 0 g in
        let s = plan-none l long no in
        record { some = λ e. absurd (omega arith); none = λ e. no })))
        (λ l. let s = plan-outside l in record { some = λ e. absurd (omega arith); none = λ e. absurd (omega arith) })

    -- ---- the outcome of a refusal, and of a plan

    pub refused : (status : ℕ) → plan_status words end list ≡ status → (status ≡ 0 → ⊥) → exported status list ≡ planned words end list
    unfolding planned
    refused status e n = rw (e, ne_eqb status 0 n)

    pub proposes : plan_status words end list ≡ 0 → exported 0 (proposal words ++ drop (length (proposal words)) list) ≡ planned words end list
    unfolding planned
    proposes e = rw e

    list-then : plan_status words end list ≡ 0 → take (length (jobs_of words)) (planned words end list).list ≡ proposal words
    list-then e =
        ap (λ (o : Outcome). take (length (jobs_of words)) o.list) (sym (proposes e))
        ∙ take_at (proposal words) (drop (length (proposal words)) list) (length (jobs_of words)) (proposal-length words)

    -- ---- 13 exactly if no plan is accepted, of the definition

    exact : Exact words end list (planned words end list).status (planned words end list).list
    unfolding planned
    exact =
        record {
          accepted = λ e. ap (checked words end) (list-then e) ∙ says.some e;
          found = λ long starts ok. plan-some (good words end starts ok).limits long (any-plan starts ok);
          none = λ e starts ok. says.none e (any-plan starts ok);
          only = λ limits long no. plan-none limits long (no (proposal words));
        }

    -- and of what equals it
    pub exactly : (o : Outcome) → o ≡ planned words end list → (o ≡ planned words end list) × Exact words end list o.status o.list
    exactly o e = (e, rw e exact)
