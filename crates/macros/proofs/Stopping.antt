-- A run stops, but for a refusal and a sign, exactly after a step that leaves the record as it was. The test looks at the place and at the kind: an end that
-- goes back to its own place counts one more, and any other step that leaves the place leaves the whole record. Assumes nothing.
use Prim.Native.Nat.{ℕ, ◌+◌, ◌-◌, ◌≤◌, ◌<◌}
use mathlib.Core.Path.{◌≡◌, refl, sym, ap, ◌∙◌}
use mathlib.Core.Bool.{true, false, not, ◌&&◌}
use mathlib.Core.List.{List}
use lib.ListN.{length, get_or, set}
use lib.Seq.{get_or-set_same}
use lib.Dec.{eqb, ltb}
use native.Mathlib.Omega.{arith}
use borrow.Author.Tests.{eqb-true, eqb-false, eq-eqb, ne_eqb, not-true}
use Rattle.laws.proofs.ListLaws.{cases, both, and_both}
use Rattle.macro_steps.specs.declared.Step.{Step}
use Rattle.macro_steps.specs.declared.Step.TheVariants.{Arm, Cancel, Wait, Check, Repeat, End, Sign, NoStep}
use Rattle.macro_steps.specs.Steps.{kind_of, count, step_at, kind_at}
use Rattle.macro_check.specs.Passed.{passed}
use Rattle.macro_check.specs.Blocks.{opened}
use Rattle.macro_check.proofs.BlockLaws.{inside}
use Rattle.macro_check.proofs.OpenLaws.{one-to-end}
use Rattle.macro_record.specs.declared.Runner.{Runner}
use Rattle.macro_record.specs.Record.{times_at, ready, ended, block_ended, moved}
use Rattle.macro_record.proofs.CountLaws.{few-open}
use Rattle.macros.specs.Stepping.{calls_of, asked, Taken}
use Rattle.macros.specs.Runs.{stepped_in, stops, StopsAsItWas}
use Rattle.macros.proofs.StepLaws.{step_is, made-ready, ready-passed}

module _ (ws : List ℕ) (r : Runner) where
  -- ---- a step other than an end

  -- to the end, from a place inside
  not-to-end : (kind_at ws r.place ≡ 0 → ⊥) → (ended ws r).place ≡ r.place → ⊥
  not-to-end n e = let h : r.place < count ws = inside ws r.place n in omega arith

  waits_there : (status number : ℕ) → (kind_at ws r.place ≡ 0 → ⊥) → (moved ws r status number (Wait 0)).place ≡ r.place
      → moved ws r status number (Wait 0) ≡ r
  waits_there status number n e =
      cases (eqb status 0)
      (λ a. cases (eqb number 0) (λ b. absurd (let m : r.place + 1 ≡ r.place = rw (a, b) at e in omega arith)) (λ b. rw (a, b) refl))
      (λ a. absurd (not-to-end n (rw a at e)))

  checks-not-there : (kind_at ws r.place ≡ 0 → ⊥) → (moved ws r 0 0 Check).place ≡ r.place → ⊥
  checks-not-there n e =
      cases (eqb r.last 0)
      (λ a. let m : r.place + 1 ≡ r.place = rw a at e in omega arith)
      (λ a. not-to-end n (rw a at e))

  left : (status number : ℕ) (a : Step) → step_at ws r.place ≡ a → (moved ws r status number a).place ≡ r.place → (kind_of a ≡ 6 → ⊥)
      → moved ws r status number a ≡ r
  left status number (Arm i n x d) f e k = absurd (omega arith)
  left status number (Cancel i) f e k = absurd (omega arith)
  left status number (Wait i) f e k =
      waits_there status number (λ z. let y : ◌≡◌ {A = ℕ} 3 0 = sym (ap kind_of f) ∙ z in omega arith) e
  left status number Check f e k =
      absurd (checks-not-there (λ z. let y : ◌≡◌ {A = ℕ} 4 0 = sym (ap kind_of f) ∙ z in omega arith) e)
  left status number (Repeat n) f e k = absurd (omega arith)
  left status number End f e k = absurd (k refl)
  left status number Sign f e k =
      absurd (not-to-end (λ z. let y : ◌≡◌ {A = ℕ} 7 0 = sym (ap kind_of f) ∙ z in omega arith) e)
  left status number NoStep f e k = refl

  -- ---- an end

  module _ (e : ready ws r ≡ true) (eight : length r.counts ≡ 8) where
    abbrev os : List ℕ
    os = opened ws r.place

    abbrev depth : ℕ
    depth = length os - 1

    end-counts : kind_at ws r.place ≡ 6 → block_ended ws os r ≡ r → ⊥
    end-counts k is =
        let pass : passed ws ≡ true = ready-passed ws r e in
        let few : length os ≤ 8 = few-open ws pass r.place in
        let some-open : 0 < length os = one-to-end ws pass r.place k in
        let c : ℕ = get_or r.counts depth 0 in
        cases (ltb c (times_at ws (get_or os depth 0)))
        (λ b.
        let more : get_or (set r.counts depth (c + 1)) depth 0 ≡ c = ap (λ (q : Runner). get_or q.counts depth 0) (rw b at is) in
        let same : get_or (set r.counts depth (c + 1)) depth 0 ≡ c + 1 = get_or-set_same r.counts depth (c + 1) 0 (omega (arith, eight, few, some-open)) in
        omega (arith, more, same))
        (λ b. let m : r.place + 1 ≡ r.place = ap (λ (q : Runner). q.place) (rw b at is) in omega arith)

    no_end : (status number : ℕ) (a : Step) → step_at ws r.place ≡ a → moved ws r status number a ≡ r → kind_of a ≡ 6 → ⊥
    no_end status number (Arm i n x d) f is k = omega arith
    no_end status number (Cancel i) f is k = omega arith
    no_end status number (Wait i) f is k = omega arith
    no_end status number Check f is k = omega arith
    no_end status number (Repeat n) f is k = omega arith
    no_end status number End f is k = end-counts (ap kind_of f) is
    no_end status number Sign f is k = omega arith
    no_end status number NoStep f is k = omega arith

pub stops-as-it-was : StopsAsItWas
stops-as-it-was ws r u eight made unsigned =
    let e : ready ws r ≡ true = made-ready u.party ws r u.table made in
    let a : Step = step_at ws r.place in
    let o = asked u.table (calls_of u.party a) in
    let k : Taken = stepped_in ws r u in
    let q : Runner = moved ws r o.status (get_or o.answer 0 0) a in
    let is : k.runner ≡ q = ap (λ (x : Taken). x.runner) (step_is u.party ws r u.table e a refl) in
    let test : stops ws r k ≡ (eqb k.runner.place r.place && not (eqb (kind_at ws r.place) 6)) =
    rw (eq-eqb k.status 0 made, ne_eqb (get_or k.answer 0 0) 1 unsigned) refl in (
      (λ s.
          let b = both (eqb k.runner.place r.place) (not (eqb (kind_at ws r.place) 6)) (sym test ∙ s) in
          is ∙ left ws r o.status (get_or o.answer 0 0) a refl
          (ap (λ (x : Runner). x.place) (sym is) ∙ eqb-true k.runner.place r.place b.0) (eqb-false (kind_at ws r.place) 6 (not-true _ b.1))),
      (λ h.
          let n : eqb (kind_at ws r.place) 6 ≡ false =
          ne_eqb (kind_at ws r.place) 6 (no_end ws r e eight o.status (get_or o.answer 0 0) a refl (sym is ∙ h)) in
          let p : eqb k.runner.place r.place ≡ true = eq-eqb k.runner.place r.place (ap (λ (x : Runner). x.place) h) in
          test ∙ and_both (eqb k.runner.place r.place) (not (eqb (kind_at ws r.place) 6)) p (rw n refl)),
    )
