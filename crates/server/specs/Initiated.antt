-- The rules with which a start of the server opens, and what it knows of the table then. A reader need not believe these: the calls' contracts
-- speak of the model. Assumes nothing: these are definitions.
use Rattle.std.specs.Prelude.{◌≡◌, ℕ, false, not, List, [], ◌∷◌}
use Rattle.model.specs.Status.{Refusal}
use Rattle.model.specs.Directives.{unsound, no_party, not_initiated}
use Rattle.model.specs.Words.{read}
use Rattle.opening.specs.Parties.{Member}

-- the table is not sound; no party has this number; the server is not initiated
abbrev pub on_server : List ℕ → ℕ → List Refusal
on_server t party = unsound t ∷ no_party (read t) party ∷ not_initiated (read t) ∷ []

-- no rule applies
pub record Initiated (t : List ℕ) (party : ℕ) : Type 0 where
  pub member : Member t party
  pub rule : not (read t).server ≡ false
