-- What create and ident do with the slot that a search found. Assumes nothing.
use mathlib.Core.Path.{◌≡◌, ap, ◌∙◌}
use Prim.Native.Nat.{ℕ, ◌+◌, ◌≤◌}
use native.Mathlib.Omega.{arith}
use mathlib.Core.Bool.{true, false, ◌&&◌}
use mathlib.Core.List.{List, [], ◌∷◌}
use lib.Dec.{eqb}
use borrow.Author.Tests.{eq-eqb, ne_eqb}
use Rattle.std.specs.Prelude.{Option, Some, None}
use Rattle.model.specs.State.{id_base}
use Rattle.model.specs.Directives.{lowest_named}
use Rattle.model.specs.Parties.{owns}
use Rattle.model.specs.Words.{read, slot_count, party_split}
use Rattle.laws.proofs.Searches.{found}
use Rattle.laws.proofs.ReadBack.{slots_length}
use Rattle.slots.specs.Search.{some_slot}
use Rattle.slots.proofs.Laws.{is_slot, no_slot}

-- a search of the model, and what the code answered
module _ {r : Option ℕ} (n : ℕ) (answer : r ≡ some_slot n) where
  pub none_found : r ≡ None → eqb n 0 ≡ true
  none_found z = eq-eqb n 0 (no_slot answer z)

  module _ {i : ℕ} (found-at : r ≡ Some i) where
    pub some-found : eqb n 0 ≡ false
    some-found = let at = is_slot answer found-at in ne_eqb n 0 (λ z. at.1 (at.0 ∙ z))

    pub id-found : ◌≡◌ {A = List ℕ} ((id_base + i) ∷ []) ((id_base + n) ∷ [])
    id-found = ap {B = List ℕ} (λ (m : ℕ). (id_base + m) ∷ []) (is_slot answer found-at).0

pub name-high : (t : List ℕ) (party name : ℕ) {r : Option ℕ} {i : ℕ} → r ≡ some_slot (lowest_named (read t) party name) → r ≡ Some i → i ≤ slot_count t
name-high t party name answer found-at =
    let at = is_slot answer found-at in
    let f = found (λ i x. owns (party_split t) party i && eqb x.name name) (read t).slots (omega (arith, at.0, at.1)) in
    omega (arith, f.high, slots_length t, at.0)
