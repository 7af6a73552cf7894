-- What the chains of a table are after a step of the code, they are in order. Assumes nothing.
use Rattle.std.proofs.Common.{◌≡◌, ℕ, List}
use Rattle.model.specs.declared.Mode.{Mode}
use Rattle.model.specs.Directives.{started}
use Rattle.model.specs.Words.{read, written_over}
use Rattle.laws.proofs.WellFormed.{Holds}
use Rattle.laws.proofs.Steps.{chained-started, length-started}
use Rattle.links.specs.Places.{InTable}
use Rattle.links.proofs.Extracting.{in-slots}
use Rattle.links.proofs.NextState.{next_start, next-holds, next-then}
use Rattle.links.proofs.Restart.{stopped_at, stop-next}

module _ (t u : List ℕ) (i : ℕ) (h : InTable t i) where
  pub stop_keeps : u ≡ written_over (stopped_at t i) t → Holds u (read u)
  stop_keeps is = next-holds (stop-next t i h u is)

  pub start_keeps : (m : Mode) (n r d : ℕ) → u ≡ written_over (started m (read t) i n r d) t → Holds u (read u)
  start_keeps m n r d is =
      next-holds (next-then (next_start h.holds) (λ s. started m s i n r d)
      (chained-started m (read t) h.holds.chained i n r d h.low (in-slots t i h)) (length-started m (read t) i n r d) is)
