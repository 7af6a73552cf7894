-- The kind and the words that are stored in the slot that an id names, as reset finds them. Assumes nothing.
use mathlib.Core.Path.{◌≡◌, refl, sym, ap, ◌∙◌}
use Prim.Native.Nat.{ℕ}
use mathlib.Core.Bool.{Bool, true, false, cond}
use mathlib.Core.List.{List}
use Rattle.std.specs.Prelude.{Option, Some, None, is_some, unwrap_or}
use Rattle.model.specs.declared.Mode.{Mode}
use Rattle.model.specs.Kinds.{last_by_ticks, last_mode}
use Rattle.model.specs.Calls.{reset}
use Rattle.model.specs.State.{Slot, slot_at, index_of}
use Rattle.model.specs.Directives.{started, effect}
use Rattle.model.specs.Words.{written_over, read, slot_from, kind_of, interval_of, routine_of, data_of}
use Rattle.laws.proofs.ListLaws.{clash}
use Rattle.laws.proofs.ReadBack.{slot_read}
use Rattle.opening.specs.Ids.{Named}

-- ---- an option that is there where b is true

pub none-where : {A : Type 0} (b : Bool) (x : A) → None ≡ cond b (Some x) None → false ≡ b
none-where false x e = refl
none-where true x e = clash (sym (ap is_some e))

pub some-where : {A : Type 0} (b : Bool) (x y : A) → Some y ≡ cond b (Some x) None → (true ≡ b) × (y ≡ x)
some-where {A = A} true x y e = (refl, ap (λ (o : Option A). unwrap_or o y) e)
some-where false x y e = clash (ap is_some e)

-- ---- the slot

module _ {t : List ℕ} {party id i : ℕ} (at : Named t party id i) where
  slot_is : slot_at (read t).slots (index_of id) ≡ slot_from t i
  slot_is = ap (slot_at (read t).slots) (sym at.index) ∙ slot_read t i at.place.low at.place.high

  pub timed : {kind : ℕ} {b : Bool} → kind ≡ kind_of t i → b ≡ last_by_ticks kind → b ≡ last_by_ticks (slot_at (read t).slots (index_of id)).kind
  timed k is = is ∙ ap last_by_ticks k ∙ ap (λ (x : Slot). last_by_ticks x.kind) (sym slot_is)

  pub reset-is : {m : Mode} {kind n r u : ℕ} {v : List ℕ} → kind ≡ kind_of t i → m ≡ last_mode kind
      → v ≡ written_over (started m (read t) i n r u) t → n ≡ interval_of t i → r ≡ routine_of t i → u ≡ data_of t i
      → v ≡ written_over (effect t (read t) (reset party id)).state t
  reset-is k mode e a b c =
      e
      ∙ (λ j. written_over (started ((mode ∙ ap last_mode k) j) (read t) (at.index j) (a j) (b j) (c j)) t)
      ∙ ap (λ (y : Slot). written_over (started (last_mode y.kind) (read t) (index_of id) y.interval y.routine y.user_data) t) (sym slot_is)
