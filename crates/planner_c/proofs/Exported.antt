-- The number of a verdict in the verdict's place. Assumes nothing.
use mathlib.Core.Path.{◌≡◌}
use Prim.Native.Nat.{ℕ}
use mathlib.Core.List.{List}
use Rattle.std.specs.Prelude.{⊤, Result}
use Rattle.model.specs.declared.Status.{Status}
use Rattle.plans.specs.Checker.{status_of}
use Rattle.planner.specs.Planner.{exported, outcome_of, planned, Exact}

pub numbered : (words : List ℕ) (end : ℕ) (list after : List ℕ) (verdict : Result ⊤ Status) (status : ℕ) → status ≡ status_of verdict
    → (outcome_of verdict after ≡ planned words end list) × Exact words end list (status_of verdict) after
    → (exported status after ≡ planned words end list) × Exact words end list status after
numbered words end list after verdict status e h = rw e h
