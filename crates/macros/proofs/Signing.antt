-- A passed macro that reaches sign had status 0 from every call on the way. Once a call's status is not 0 the record is lost: it stands at the end, or
-- at a check with that status, and stays so, whatever the manager says and whatever becomes of the table; and neither place is a sign.
-- Assumes nothing; of the manager it uses that a call has a status.
use Prim.Native.Nat.{ℕ, zero, suc, ◌+◌, ◌≤◌, ◌<◌}
use mathlib.Core.Path.{◌≡◌, refl, sym, ap, ◌∙◌, subst}
use mathlib.Core.Bool.{Bool, true, false, not, ◌||◌}
use mathlib.Core.List.{List, [], ◌∷◌, ◌++◌, map}
use lib.ListN.{length, get_or}
use lib.Dec.{eqb, ltb}
use native.Mathlib.Omega.{arith}
use borrow.Author.Tests.{eqb-true, eqb-false, ne_eqb, ltb-true, ltb-false}
use Rattle.model.specs.Lists.{All}
use Rattle.model.specs.Outcome.{outcome}
use Rattle.laws.proofs.ListLaws.{cases, both, all_append}
use Rattle.macro_steps.specs.declared.Step.{Step}
use Rattle.macro_steps.specs.declared.Step.TheVariants.{Arm, Cancel, Wait, Check, Repeat, End, Sign, NoStep}
use Rattle.macro_steps.specs.Steps.{kind_of, count, step_at, kind_at}
use Rattle.macro_check.specs.Passed.{asks_check, followed, guarded, passed}
use Rattle.macro_check.specs.Parts.{from}
use Rattle.macro_check.proofs.BlockLaws.{from_cons, from_end, from_first, past_end, inside, passed-guarded}
use Rattle.macro_record.specs.declared.Runner.{Runner}
use Rattle.macro_record.specs.Record.{fresh, ready, called, waited, moved}
use Rattle.macro_record.proofs.Kept.{Fit, ready-fit, fit-ready, fit-fresh, kept}
use Rattle.macros.specs.Stepping.{calls_of, asked, sign_of, Taken, stepped}
use Rattle.macros.specs.Runs.{Turn, turn_of, ran, given, statuses, Claimed, stops, ran_for, RunCall, ran_in, turns_for, ran_over, turns_over, RunEarned}
use Rattle.macros.proofs.StepLaws.{refused-is, step_is, ready-passed, made-ready}

-- ---- every arm and cancel of a passed macro is followed by a check

module _ (ws : List ℕ) where
  -- what is guarded from a place on is guarded from each place after it
  guarded-on : (at : ℕ) → guarded (from ws at) ≡ true → guarded (from ws (at + 1)) ≡ true
  unfolding guarded
  guarded-on at g =
      cases (ltb at (count ws))
      (λ e. (both (followed (kind_at ws at) (from ws (at + 1))) (guarded (from ws (at + 1))) (rw (from_cons ws at (ltb-true at (count ws) e)) at g)).1)
      (λ e. ap guarded (from_end ws (at + 1) (let h : count ws ≤ at = ltb-false at (count ws) e in omega arith)))

  guarded-at : (at : ℕ) → guarded (from ws 0) ≡ true → guarded (from ws at) ≡ true
  guarded-at zero g = g
  guarded-at (suc at) g = subst (λ (i : ℕ). guarded (from ws i) ≡ true) (let e : at + 1 ≡ suc at = omega arith in e) (guarded-on at (guarded-at at g))

  followed-here : (at : ℕ) → at < count ws → guarded (from ws at) ≡ true → followed (kind_at ws at) (from ws (at + 1)) ≡ true
  unfolding guarded
  followed-here at h g = (both (followed (kind_at ws at) (from ws (at + 1))) (guarded (from ws (at + 1))) (rw (from_cons ws at h) at g)).0

  is-check : (a : Step) → kind_of a ≡ 4 → a ≡ Check
  is-check (Arm i n r u) e = absurd (omega arith)
  is-check (Cancel i) e = absurd (omega arith)
  is-check (Wait i) e = absurd (omega arith)
  is-check Check e = refl
  is-check (Repeat n) e = absurd (omega arith)
  is-check End e = absurd (omega arith)
  is-check Sign e = absurd (omega arith)
  is-check NoStep e = absurd (omega arith)

  check-next : passed ws ≡ true → (at : ℕ) → (kind_at ws at ≡ 0 → ⊥) → asks_check (kind_at ws at) ≡ true → step_at ws (at + 1) ≡ Check
  check-next p at n asks =
      let f : followed (kind_at ws at) (from ws (at + 1)) ≡ true = followed-here at (inside ws at n) (guarded-at at (passed-guarded ws p)) in
      let g : eqb (get_or (from ws (at + 1)) 0 0) 4 ≡ true =
      sym (ap (λ (b : Bool). not b || eqb (get_or (from ws (at + 1)) 0 0) 4) asks) ∙ f in
      is-check (step_at ws (at + 1)) (sym (from_first ws (at + 1)) ∙ eqb-true (get_or (from ws (at + 1)) 0 0) 4 g)

  -- ---- a step

  -- the record after a step, and by what the manager is asked in it
  abbrev next : Runner → Turn → Runner
  next p u = (stepped u.party ws p u.table).runner

  abbrev after-asking : Runner → Turn → Step → Runner
  after-asking p u a = let o = asked u.table (calls_of u.party a) in moved ws p o.status (get_or o.answer 0 0) a

  abbrev status-of : Turn → Step → List ℕ
  status-of u a = map (λ c. (outcome u.table c).status) (calls_of u.party a)

  next-refused : (p : Runner) (u : Turn) → ready ws p ≡ false → next p u ≡ p
  next-refused p u e = ap (λ (x : Taken). x.runner) (refused-is u.party ws p u.table e)

  next-taken : (p : Runner) (u : Turn) → ready ws p ≡ true → (a : Step) → step_at ws p.place ≡ a → next p u ≡ after-asking p u a
  next-taken p u e a f = ap (λ (x : Taken). x.runner) (step_is u.party ws p u.table e a f)

  given-refused : (p : Runner) (u : Turn) → ready ws p ≡ false → given ws p u ≡ []
  given-refused p u e = rw e

  given-taken : (p : Runner) (u : Turn) → ready ws p ≡ true → (a : Step) → step_at ws p.place ≡ a → given ws p u ≡ status-of u a
  given-taken p u e a f = rw (e, f)

  given-none : (p : Runner) (u : Turn) → step_at ws p.place ≡ Sign → given ws p u ≡ []
  given-none p u f = cases (ready ws p) (λ e. given-taken p u e Sign f) (λ e. given-refused p u e)

  -- ---- lost: at the end, or at a check of a status that is not 0

  data Lost (p : Runner) : Type 0 where
    over : p.place ≡ count ws → Lost p
    refusing : step_at ws p.place ≡ Check → (p.last ≡ 0 → ⊥) → Lost p

  never-signs : (p : Runner) → Lost p → step_at ws p.place ≡ Sign → ⊥
  never-signs p (over e) s =
      let n : ◌≡◌ {A = ℕ} 7 0 = sym (ap kind_of s) ∙ ap kind_of (past_end ws p.place (omega arith)) in omega arith
  never-signs p (refusing c n) s = let e : ◌≡◌ {A = ℕ} 4 7 = sym (ap kind_of c) ∙ ap kind_of s in omega arith

  stays-lost : (p : Runner) (u : Turn) → Lost p → Lost (next p u)
  stays-lost p u l =
      cases (ready ws p)
      (λ e. taken e l)
      (λ e. subst (λ (q : Runner). Lost q) (sym (next-refused p u e)) l)
    where
      taken : ready ws p ≡ true → Lost p → Lost (next p u)
      taken e (over h) = subst (λ (q : Runner). Lost q) (sym (next-taken p u e NoStep (past_end ws p.place (omega arith)))) (over h)
      taken e (refusing c n) =
          subst (λ (q : Runner). Lost q) (sym (next-taken p u e Check c)) (rw (ne_eqb p.last 0 n) (over refl))

  -- a call's status is 0, or the record is lost after it
  data After (ss : List ℕ) (q : Runner) : Type 0 where
    accepted : All (λ s. s ≡ 0) ss → After ss q
    lost : Lost q → After ss q

  module _ (pass : passed ws ≡ true) where
    -- an arm or cancel
    after_call : (p : Runner) (s : ℕ) → (kind_at ws p.place ≡ 0 → ⊥) → asks_check (kind_at ws p.place) ≡ true → After (s ∷ []) (called p s)
    after_call p s n asks =
        cases (eqb s 0)
        (λ e. accepted (eqb-true s 0 e, tt))
        (λ e. lost (refusing (check-next pass p.place n asks) (eqb-false s 0 e)))

    after-wait : (p : Runner) (s ticks : ℕ) → After (s ∷ []) (waited ws p s ticks)
    after-wait p s ticks = cases (eqb s 0) (λ e. accepted (eqb-true s 0 e, tt)) (λ e. lost (rw e (over refl)))

    after-step : (p : Runner) (u : Turn) (a : Step) → step_at ws p.place ≡ a → After (status-of u a) (after-asking p u a)
    after-step p u (Arm i n r d) f =
        after_call p (asked u.table (calls_of u.party (Arm i n r d))).status (λ z. let e : ◌≡◌ {A = ℕ} 1 0 = sym (ap kind_of f) ∙ z in omega arith)
        (ap (λ (b : Step). asks_check (kind_of b)) f)
    after-step p u (Cancel i) f =
        after_call p (asked u.table (calls_of u.party (Cancel i))).status (λ z. let e : ◌≡◌ {A = ℕ} 2 0 = sym (ap kind_of f) ∙ z in omega arith)
        (ap (λ (b : Step). asks_check (kind_of b)) f)
    after-step p u (Wait i) f = let o = asked u.table (calls_of u.party (Wait i)) in after-wait p o.status (get_or o.answer 0 0)
    after-step p u Check f = accepted tt
    after-step p u (Repeat n) f = accepted tt
    after-step p u End f = accepted tt
    after-step p u Sign f = accepted tt
    after-step p u NoStep f = accepted tt

    after : (p : Runner) (u : Turn) → After (given ws p u) (next p u)
    after p u =
        cases (ready ws p)
        (λ e.
        let a : Step = step_at ws p.place in
        subst (λ (ss : List ℕ). After ss (next p u)) (sym (given-taken p u e a refl))
        (subst (λ (q : Runner). After (status-of u a) q) (sym (next-taken p u e a refl)) (after-step p u a refl)))
        (λ e. subst (λ (ss : List ℕ). After ss (next p u)) (sym (given-refused p u e)) (accepted tt))

    -- ---- steps one after the other

    lost-run : (p : Runner) (us : List Turn) → Lost p → Lost (ran ws p us)
    lost-run p [] l = l
    lost-run p (u ∷ us) l = lost-run (next p u) us (stays-lost p u l)

    was-accepted : (ss : List ℕ) (q : Runner) (us : List Turn) → After ss q → step_at ws (ran ws q us).place ≡ Sign → All (λ s. s ≡ 0) ss
    was-accepted ss q us (accepted h) e = h
    was-accepted ss q us (lost l) e = absurd (never-signs (ran ws q us) (lost-run q us l) e)

    pub all-accepted : (p : Runner) (us : List Turn) → step_at ws (ran ws p us).place ≡ Sign → All (λ s. s ≡ 0) (statuses ws p us)
    all-accepted p [] e = tt
    all-accepted p (u ∷ us) e =
        let q : Runner = next p u in
        all_append (λ s. s ≡ 0) (given ws p u) (statuses ws q us) (was-accepted (given ws p u) q us (after p u) e) (all-accepted q us e)

    -- with the sign's own step, which makes no call
    pub all-with-sign : (p : Runner) (us : List Turn) (v : Turn) → step_at ws (ran ws p us).place ≡ Sign → All (λ s. s ≡ 0) (statuses ws p (us ++ v ∷ []))
    all-with-sign p [] v e = subst (λ (ss : List ℕ). All (λ s. s ≡ 0) (ss ++ [])) (sym (given-none p v e)) tt
    all-with-sign p (u ∷ us) v e =
        let q : Runner = next p u in
        all_append (λ s. s ≡ 0) (given ws p u) (statuses ws q (us ++ v ∷ [])) (was-accepted (given ws p u) q us (after p u) e) (all-with-sign q us v e)

    -- ---- a record that fits is not refused, and fits after a step

    fit-step : (p : Runner) (u : Turn) → Fit ws p → Fit ws (next p u)
    fit-step p u f =
        let a : Step = step_at ws p.place in
        let o = asked u.table (calls_of u.party a) in
        subst (λ (q : Runner). Fit ws q) (sym (next-taken p u (ready-fit ws pass p f) a refl)) (kept ws pass p f o.status (get_or o.answer 0 0) a refl)

    fit-run : (p : Runner) (us : List Turn) → Fit ws p → Fit ws (ran ws p us)
    fit-run p [] f = f
    fit-run p (u ∷ us) f = fit-run (next p u) us (fit-step p u f)

    pub not-refused : (p : Runner) → Fit ws p → (us : List Turn) (u : Turn) → (stepped u.party ws (ran ws p us) u.table).status ≡ 0
    not-refused p f us u =
        let q = ran ws p us in
        ap (λ (x : Taken). x.status) (step_is u.party ws q u.table (ready-fit ws pass q (fit-run p us f)) (step_at ws q.place) refl)

  pub then-not-refused : (p : Runner) (u : Turn) (us : List Turn) (v : Turn) → length p.counts ≡ 8 → (stepped u.party ws p u.table).status ≡ 0
      → (stepped v.party ws (ran ws p us) v.table).status ≡ 0
  then-not-refused p u us v n e =
      let r = made-ready u.party ws p u.table e in let pass = ready-passed ws p r in not-refused pass p (fit-ready ws pass p r n) us v

  -- ---- a step that answers 1

  is-sign : (a : Step) → sign_of a ≡ 1 → a ≡ Sign
  is-sign (Arm i n r u) e = absurd (omega arith)
  is-sign (Cancel i) e = absurd (omega arith)
  is-sign (Wait i) e = absurd (omega arith)
  is-sign Check e = absurd (omega arith)
  is-sign (Repeat n) e = absurd (omega arith)
  is-sign End e = absurd (omega arith)
  is-sign Sign e = refl
  is-sign NoStep e = absurd (omega arith)

  pub signs : (p : Runner) (u : Turn) → get_or (stepped u.party ws p u.table).answer 0 0 ≡ 1 → (passed ws ≡ true) × (step_at ws p.place ≡ Sign)
  signs p u e =
      cases (ready ws p)
      (λ f.
      let a : Step = step_at ws p.place in
      (ready-passed ws p f, is-sign a (sym (ap (λ (x : Taken). get_or x.answer 0 0) (step_is u.party ws p u.table f a refl)) ∙ e)))
      (λ f.
      let z : ◌≡◌ {A = ℕ} 0 1 = sym (ap (λ (x : Taken). get_or x.answer 0 0) (refused-is u.party ws p u.table f)) ∙ e in
      absurd (omega arith))

pub claimed : Claimed
claimed =
    record {
      no-blind-sign = λ ws us p e. all-accepted ws p fresh us e;
      one-is-sign = λ ws r u e. (signs ws r u e).1;
      one-is-earned = λ ws us u e. let s = signs ws (ran ws fresh us) u e in all-accepted ws s.0 fresh us s.1;
      never-refused = λ ws us u p. not-refused ws p fresh (fit-fresh ws p) us u;
      then-never-refused = λ ws r u us v n e. then-not-refused ws r u us v n e;
    }

-- ---- runs one after the other

module _ (ws : List ℕ) where
  -- the last of these steps is a passed macro's sign
  record Signed (r : Runner) (us : List Turn) : Type 0 where
    before : List Turn
    last : Turn
    are : us ≡ before ++ last ∷ []
    pass : passed ws ≡ true
    there : step_at ws (ran ws r before).place ≡ Sign

  run-signed : (party n : ℕ) (r : Runner) (t : List ℕ) → get_or (ran_for party ws n r t).answer 0 0 ≡ 1 → Signed r (turns_for ws party n r t)
  unfolding ran_for
  run-signed party zero r t e = absurd (let z : ◌≡◌ {A = ℕ} 0 1 = e in omega arith)
  run-signed party (suc n) r t e =
      let k = stepped party ws r t in
      cases (stops ws r k)
      (λ f.
      let s = signs ws r (turn_of party t) (rw f at e) in
      record { before = []; last = turn_of party t; are = rw f refl; pass = s.0; there = s.1 })
      (λ f.
      let s = run-signed party n k.runner k.table (rw f at e) in
      record {
        before = turn_of party t ∷ s.before;
        last = s.last;
        are = rw f (ap (λ (us : List Turn). turn_of party t ∷ us) s.are);
        pass = s.pass;
        there = s.there;
      })

  -- a run's record is the one after its steps
  run_is : (party n : ℕ) (r : Runner) (t : List ℕ) → ran ws r (turns_for ws party n r t) ≡ (ran_for party ws n r t).runner
  unfolding ran_for
  run_is party zero r t = refl
  run_is party (suc n) r t =
      let k = stepped party ws r t in cases (stops ws r k) (λ f. rw f refl) (λ f. rw f (run_is party n k.runner k.table))

  ran_on : (r : Runner) (us vs : List Turn) → ran ws r (us ++ vs) ≡ ran ws (ran ws r us) vs
  ran_on r [] vs = refl
  ran_on r (u ∷ us) vs = ran_on (next ws r u) us vs

  joined : (us vs : List Turn) (v : Turn) → us ++ (vs ++ v ∷ []) ≡ (us ++ vs) ++ v ∷ []
  joined [] vs v = refl
  joined (u ∷ us) vs v = ap (λ (xs : List Turn). u ∷ xs) (joined us vs v)

  no_more : (us : List Turn) → us ++ [] ≡ us
  no_more [] = refl
  no_more (u ∷ us) = ap (λ (xs : List Turn). u ∷ xs) (no_more us)

  signed-behind : (r : Runner) (us vs : List Turn) → Signed (ran ws r us) vs → Signed r (us ++ vs)
  signed-behind r us vs s =
      record {
        before = us ++ s.before;
        last = s.last;
        are = ap (λ (xs : List Turn). us ++ xs) s.are ∙ joined us s.before s.last;
        pass = s.pass;
        there = ap (λ (q : Runner). step_at ws q.place) (ran_on r us s.before) ∙ s.there;
      }

  runs-signed : (r : Runner) (cs : List RunCall) (c : RunCall) → get_or (ran_in ws (ran_over ws r cs) c).answer 0 0 ≡ 1
      → Signed r (turns_over ws r (cs ++ c ∷ []))
  runs-signed r [] c e =
      subst (λ (us : List Turn). Signed r us) (sym (no_more (turns_for ws c.party c.budget r c.table)))
      (run-signed c.party c.budget r c.table e)
  runs-signed r (d ∷ cs) c e =
      let us = turns_for ws d.party d.budget r d.table in
      let q = (ran_in ws r d).runner in
      signed-behind r us (turns_over ws q (cs ++ c ∷ []))
      (subst (λ (p : Runner). Signed p (turns_over ws q (cs ++ c ∷ []))) (sym (run_is d.party d.budget r d.table)) (runs-signed q cs c e))

pub run-earned : RunEarned
run-earned ws cs c e =
    let s = runs-signed ws fresh cs c e in
    subst (λ (us : List Turn). All (λ s. s ≡ 0) (statuses ws fresh us)) (sym s.are) (all-with-sign ws s.pass fresh s.before s.last s.there)
