-- The rules with which every call of a party opens. Assumes nothing: these are definitions.
use Rattle.std.specs.Prelude.{◌≡◌, ℕ, true, false, not, List, [], ◌∷◌}
use Rattle.model.specs.Status.{Refusal}
use Rattle.model.specs.Parties.{is_party}
use Rattle.model.specs.Directives.{unsound, no_party}
use Rattle.model.specs.Words.{read, party_split}
use Rattle.model.specs.Sound.{sound}

-- the table is not sound; no party has this number
abbrev pub on_party : List ℕ → ℕ → List Refusal
on_party t party = unsound t ∷ no_party (read t) party ∷ []

-- neither rule applies: the table is sound, and the number is a party's
pub record Member (t : List ℕ) (party : ℕ) : Type 0 where
  pub ok : sound t ≡ true
  pub tested : not (sound t) ≡ false
  pub is : is_party (party_split t) party ≡ true
  pub rule : not (is_party (party_split t) party) ≡ false
