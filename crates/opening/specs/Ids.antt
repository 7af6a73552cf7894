-- The rules with which a call that takes an id opens, and the slot that the id names. Assumes nothing: these are definitions.
use Rattle.std.specs.Prelude.{◌≡◌, ℕ, ◌+◌, ◌*◌, ◌≤◌, false, not, List, [], ◌∷◌, length}
use Rattle.model.specs.Status.{Refusal}
use Rattle.model.specs.State.{index_of, names_own}
use Rattle.model.specs.Directives.{unsound, no_party, no_such_id}
use Rattle.model.specs.Words.{read}
use Rattle.links.specs.Places.{InTable}
use Rattle.opening.specs.Parties.{Member}

-- the table is not sound; no party has this number; the id names no timer of the party's
abbrev pub on_id : List ℕ → ℕ → ℕ → List Refusal
on_id t party id = unsound t ∷ no_party (read t) party ∷ no_such_id (read t) party id ∷ []

-- no rule applies, and slot i is that of the id: where it is, and that its words are in the slice
pub record Named (t : List ℕ) (party id i : ℕ) : Type 0 where
  pub member : Member t party
  pub rule : not (names_own (read t) party id) ≡ false
  pub index : i ≡ index_of id
  pub place : InTable t i
  pub inside : 8 * i + 10 ≤ length t
