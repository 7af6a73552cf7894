-- The slots of some links, each changed in the same way: what is read of a slot then. There is nothing to write at a slot that the table has
-- not, so that no index need be in range where the change leaves a free slot free. Assumes nothing.
use mathlib.Core.Path.{◌≡◌, refl, sym, ap, ◌∙◌}
use Prim.Native.Nat.{ℕ, zero, suc, ◌≤◌}
use native.Mathlib.Omega.{arith}
use mathlib.Core.Bool.{Bool, false, cond}
use mathlib.Core.List.{List, [], ◌∷◌}
use lib.ListN.{length}
use lib.Dec.{eqb}
use borrow.Author.Tests.{eqb-true, eqb-false}
use Rattle.model.specs.State.{Slot, Link, free, slot_at, put_at}
use Rattle.laws.proofs.ListLaws.{cases, any_some}
use Rattle.laws.proofs.Slots.{at_other, length-put, field_put}
use Rattle.laws.proofs.WellFormed.{times_in}
use Rattle.laws.proofs.FiredSlots.{among}

abbrev pub changed : (Slot → Slot) → List Link → List Slot → List Slot
changed f [] sl = sl
changed f (w ∷ ws) sl = changed f ws (put_at sl w.slot (f (slot_at sl w.slot)))

-- a slot that none of the links has
pub among_none : (ws : List Link) (j : ℕ) → times_in ws j ≤ 0 → among ws j ≡ false
among_none ws j p = cases (among ws j) (λ e. absurd (omega (arith, any_some (λ w. eqb w.slot j) ws e))) (λ e. e)

module _ (f : Slot → Slot) where
  pub length-changed : (ws : List Link) (sl : List Slot) → length (changed f ws sl) ≡ length sl
  length-changed [] sl = refl
  length-changed (w ∷ ws) sl =
      length-changed ws (put_at sl w.slot (f (slot_at sl w.slot))) ∙ length-put sl w.slot (f (slot_at sl w.slot))

  -- what the change leaves of a slot it leaves of all
  pub same-changed : {B : Type 0} (g : Slot → B) → ((x : Slot) → g (f x) ≡ g x) → (ws : List Link) (sl : List Slot) (j : ℕ)
      → g (slot_at (changed f ws sl) j) ≡ g (slot_at sl j)
  same-changed g h [] sl j = refl
  same-changed g h (w ∷ ws) sl j =
      same-changed g h ws (put_at sl w.slot (f (slot_at sl w.slot))) j
      ∙ field_put g sl w.slot j (f (slot_at sl w.slot)) (h (slot_at sl w.slot))

  module _ (blank : f free ≡ free) where
    pub at_own : (sl : List Slot) (i : ℕ) → slot_at (put_at sl i (f (slot_at sl i))) i ≡ f (slot_at sl i)
    at_own sl zero = sym blank
    at_own [] (suc i) = sym blank
    at_own (y ∷ ys) (suc zero) = refl
    at_own (y ∷ ys) (suc (suc i)) = at_own ys (suc i)

    at_one : (sl : List Slot) (i j : ℕ) → slot_at (put_at sl i (f (slot_at sl i))) j ≡ cond (eqb i j) (f (slot_at sl j)) (slot_at sl j)
    at_one sl i j =
        cases (eqb i j)
        (λ e. rw (e, ← eqb-true i j e) (at_own sl i))
        (λ e. rw e (at_other sl i j (f (slot_at sl i)) (λ q. eqb-false i j e (sym q))))

    pub at-changed : (ws : List Link) (sl : List Slot) (j : ℕ) → times_in ws j ≤ 1
        → slot_at (changed f ws sl) j ≡ cond (among ws j) (f (slot_at sl j)) (slot_at sl j)
    at-changed [] sl j once = refl
    at-changed (w ∷ ws) sl j once =
        let one : List Slot = put_at sl w.slot (f (slot_at sl w.slot)) in
        let is = at_one sl w.slot j in
        cases (eqb w.slot j)
        (λ e.
        let none : times_in ws j ≤ 0 = let o : suc (times_in ws j) ≤ 1 = rw e at once in omega arith in
        at-changed ws one j (omega arith)
        ∙ rw (among_none ws j none, e) (is ∙ ap (λ (b : Bool). cond b (f (slot_at sl j)) (slot_at sl j)) e))
        (λ e.
        at-changed ws one j (rw e at once)
        ∙ rw e (ap (λ (x : Slot). cond (among ws j) (f x) x) (is ∙ ap (λ (b : Bool). cond b (f (slot_at sl j)) (slot_at sl j)) e)))
