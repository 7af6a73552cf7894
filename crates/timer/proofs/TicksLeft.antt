-- The ticks left of the slot that an id names: a slot that waits for ticks stands in the interval chain, any other does not. Assumes nothing.
use mathlib.Core.Path.{◌≡◌, refl, sym, ap, ◌∙◌}
use Prim.Native.Nat.{ℕ, ◌<◌}
use native.Mathlib.Omega.{arith}
use mathlib.Core.Bool.{Bool, true, false, cond}
use mathlib.Core.List.{List, [], ◌∷◌}
use lib.Dec.{eqb}
use Rattle.model.specs.declared.Chain.TheVariants.{ByTicks}
use Rattle.model.specs.Kinds.{waits_in}
use Rattle.model.specs.State.{Slot, Link, index_of, wait_at}
use Rattle.model.specs.Words.{read, kind_of}
use Rattle.laws.proofs.ListLaws.{cases}
use Rattle.laws.proofs.WellFormed.{times_in}
use Rattle.laws.proofs.ReadBack.{slot_read}
use Rattle.opening.specs.Ids.{Named}

wait-none : (i : ℕ) (l : List Link) → times_in l i ≡ 0 → wait_at i l ≡ 0
wait-none i [] e = refl
wait-none i (w ∷ ws) e =
    cases (eqb w.slot i) (λ f. absurd (let z = rw f at e in omega arith)) (λ f. rw f (wait-none i ws (rw f at e)))

module _ {t : List ℕ} {party id i : ℕ} (at : Named t party id i) where
  meets : times_in (read t).ticking i ≡ cond (waits_in ByTicks (kind_of t i)) 1 0
  meets =
      at.place.holds.chained.meets ByTicks i
      ∙ ap (λ (x : Slot). cond (waits_in ByTicks x.kind) 1 0) (slot_read t i at.place.low at.place.high)

  pub no-ticks : waits_in ByTicks (kind_of t i) ≡ false → ◌≡◌ {A = List ℕ} (0 ∷ []) (wait_at (index_of id) (read t).ticking ∷ [])
  no-ticks n =
      ap {B = List ℕ} (λ (m : ℕ). m ∷ [])
      (sym (ap (λ (j : ℕ). wait_at j (read t).ticking) (sym at.index)
      ∙ wait-none i (read t).ticking (meets ∙ ap (λ (b : Bool). cond b 1 0) n)))

  pub ticks-met : waits_in ByTicks (kind_of t i) ≡ true → 0 < times_in (read t).ticking i
  ticks-met w = omega (arith, meets ∙ ap (λ (b : Bool). cond b 1 0) w)

  pub some-ticks : {r : ℕ} → r ≡ wait_at i (read t).ticking → ◌≡◌ {A = List ℕ} (r ∷ []) (wait_at (index_of id) (read t).ticking ∷ [])
  some-ticks h = ap {B = List ℕ} (λ (m : ℕ). m ∷ []) (h ∙ ap (λ (j : ℕ). wait_at j (read t).ticking) at.index)
