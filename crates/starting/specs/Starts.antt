-- What comes of a start, whichever call makes it, where its opening is done. A reader need not believe this: the public contracts speak of the
-- calls' own outcomes. Assumes nothing: these are definitions.
use Rattle.std.specs.Prelude.{ℕ, cond, List, [], ◌∷◌, eqb}
use Rattle.model.specs.declared.Mode.{Mode}
use Rattle.model.specs.Status.{Refusal, first_of}
use Rattle.model.specs.State.{index_of}
use Rattle.model.specs.Directives.{started}
use Rattle.model.specs.Words.{written_over, read}
use Rattle.model.specs.Outcome.{Outcome, outcome_of}

-- refused by the first of these rules that applies, else the timer waits
unfoldable pub start_outcome : Mode → List Refusal → List ℕ → ℕ → ℕ → ℕ → ℕ → Outcome
start_outcome m rules t id amount r u =
    let status = first_of rules in
    cond (eqb status 0) (outcome_of 0 (0 ∷ []) (written_over (started m (read t) (index_of id) amount r u) t) []) (outcome_of status (0 ∷ []) t [])
