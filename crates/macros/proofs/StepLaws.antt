-- One step from its parts: what a record that may not be stepped gives, and what the manager's answer and the record after it give. Assumes nothing.
use Prim.Native.Nat.{ℕ}
use mathlib.Core.Path.{◌≡◌, refl, sym, ap, ◌∙◌}
use mathlib.Core.Bool.{true, false}
use mathlib.Core.List.{List, [], ◌∷◌}
use lib.ListN.{get_or}
use lib.Dec.{leb}
use native.Mathlib.Omega.{arith}
use Rattle.model.specs.Outcome.{Outcome, outcome_of}
use Rattle.laws.proofs.ListLaws.{cases, all-at}
use Rattle.model.specs.declared.Status.{Status}
use Rattle.std.specs.declared.result.Result.{Result}
use Rattle.std.specs.declared.result.Result.TheVariants.{Ok}
use Rattle.answers.specs.Answers.{status_of, answer_of}
use Rattle.macro_steps.specs.declared.Step.{Step}
use Rattle.macro_steps.specs.Steps.{count, step_at}
use Rattle.macro_check.specs.Passed.{passed}
use Rattle.macro_check.specs.Blocks.{opened}
use Rattle.macro_record.specs.declared.Runner.{Runner}
use Rattle.macro_record.specs.Record.{counts_fit, ready, moved}
use Rattle.macros.specs.Stepping.{calls_of, asked, sign_of, Taken, taken_as, acted, not_taken, stepped, took}

pub ready-passed : (ws : List ℕ) (r : Runner) → ready ws r ≡ true → passed ws ≡ true
unfolding ready
ready-passed ws r e = all-at (passed ws ∷ leb r.place (count ws) ∷ counts_fit ws (opened ws r.place) r.counts ∷ []) e 0

module _ (party : ℕ) (ws : List ℕ) (r : Runner) (t : List ℕ) where
  pub refused-is : ready ws r ≡ false → stepped party ws r t ≡ not_taken r t
  unfolding stepped
  refused-is e = rw e refl

  -- a step that was made was on a record that may be stepped
  pub made-ready : (stepped party ws r t).status ≡ 0 → ready ws r ≡ true
  made-ready e =
      cases (ready ws r)
      (λ f. f)
      (λ f. let z : ◌≡◌ {A = ℕ} 10 0 = sym (ap (λ (k : Taken). k.status) (refused-is f)) ∙ e in absurd (omega arith))

  pub step_is : ready ws r ≡ true → (s : Step) → step_at ws r.place ≡ s → stepped party ws r t ≡ acted party ws r t s
  unfolding stepped
  step_is e s f = rw (e, f) refl

  pub acts : (a : Result ℕ Status) (s : Step) (n status number : ℕ) (q : Runner) (u : List ℕ) → ready ws r ≡ true → s ≡ step_at ws r.place
      → outcome_of (status_of a) (answer_of a) u [] ≡ asked t (calls_of party s) → status ≡ status_of a → number ∷ [] ≡ answer_of a
      → n ≡ sign_of s → q ≡ moved ws r status number s → took (Ok n) q u ≡ stepped party ws r t
  acts a s n status number q u e f o st num sign next =
      let es : status ≡ (asked t (calls_of party s)).status = st ∙ ap (λ (x : Outcome). x.status) o in
      let en : number ≡ get_or (asked t (calls_of party s)).answer 0 0 = ap (λ (l : List ℕ). get_or l 0 0) (num ∙ ap (λ (x : Outcome). x.answer) o) in
      let et : u ≡ (asked t (calls_of party s)).table = ap (λ (x : Outcome). x.table) o in
      let eq : q ≡ moved ws r (asked t (calls_of party s)).status (get_or (asked t (calls_of party s)).answer 0 0) s =
      next ∙ (λ j. moved ws r (es j) (en j) s) in
      (λ j. taken_as 0 (sign j ∷ []) (eq j) (et j)) ∙ sym (step_is e s (sym f))
