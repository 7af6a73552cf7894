-- Steps in one call: after which step a run stops, and what is left of it before and after a step. Assumes nothing.
use Prim.Native.Nat.{ℕ, zero, suc, ◌≤◌, ◌<◌}
use mathlib.Core.Path.{◌≡◌, refl, sym, ap, ◌∙◌}
use mathlib.Core.Bool.{true, false}
use mathlib.Core.List.{List, [], ◌∷◌}
use native.Mathlib.Omega.{arith}
use Rattle.macro_record.specs.declared.Runner.{Runner}
use Rattle.macros.specs.Stepping.{Taken, taken_as, stepped}
use Rattle.macros.specs.Runs.{stops, ran_for}

-- ---- a step of a run

module _ (party : ℕ) (ws : List ℕ) (r : Runner) (t : List ℕ) where
  pub run-over : (left : ℕ) → left ≤ 0 → ran_for party ws left r t ≡ taken_as 0 (0 ∷ []) r t
  unfolding ran_for
  run-over zero h = refl
  run-over (suc n) h = absurd (omega arith)

  module _ (k : Taken) (is : k ≡ stepped party ws r t) where
    pub run-stops : (left : ℕ) → 0 < left → stops ws r k ≡ true → ran_for party ws left r t ≡ k
    unfolding ran_for
    run-stops zero h e = absurd (omega arith)
    run-stops (suc n) h e =
        let f : stops ws r (stepped party ws r t) ≡ true = ap (stops ws r) (sym is) ∙ e in rw f (sym is)

    pub run_on : (left next : ℕ) → left ≡ suc next → stops ws r k ≡ false → ran_for party ws left r t ≡ ran_for party ws next k.runner k.table
    unfolding ran_for
    run_on left next h e =
        let f : stops ws r (stepped party ws r t) ≡ false = ap (stops ws r) (sym is) ∙ e in
        ap (λ (n : ℕ). ran_for party ws n r t) h ∙ rw f (ap (λ (x : Taken). ran_for party ws next x.runner x.table) (sym is))
