-- What is read of a slot after timers fired: it has the kind of one that fired if it is among them, else as before, where none is among them
-- twice. There is nothing to write at a free slot, so that no index need be in range. Assumes nothing.
use mathlib.Core.Path.{◌≡◌, refl, sym, ap, ◌∙◌}
use Prim.Native.Nat.{ℕ, zero, suc, ◌≤◌}
use native.Mathlib.Omega.{arith}
use mathlib.Core.Bool.{Bool, false, cond}
use mathlib.Core.List.{List, [], ◌∷◌}
use lib.Dec.{eqb}
use borrow.Author.Tests.{eqb-true, eqb-false}
use Rattle.model.specs.Lists.{any}
use Rattle.model.specs.State.{Slot, Link, slot_at, put_at}
use Rattle.model.specs.Directives.{fired, fired_all}
use Rattle.laws.proofs.ListLaws.{cases, any_some}
use Rattle.laws.proofs.Slots.{at_other}
use Rattle.laws.proofs.WellFormed.{times_in}

pub at_own : (sl : List Slot) (i : ℕ) → slot_at (put_at sl i (fired (slot_at sl i))) i ≡ fired (slot_at sl i)
at_own sl zero = refl
at_own [] (suc i) = refl
at_own (y ∷ ys) (suc zero) = refl
at_own (y ∷ ys) (suc (suc i)) = at_own ys (suc i)

at-fired : (sl : List Slot) (i j : ℕ) → slot_at (put_at sl i (fired (slot_at sl i))) j ≡ cond (eqb i j) (fired (slot_at sl j)) (slot_at sl j)
at-fired sl i j =
    cases (eqb i j)
    (λ e. rw (e, ← eqb-true i j e) (at_own sl i))
    (λ e. rw e (at_other sl i j (fired (slot_at sl i)) (λ q. eqb-false i j e (sym q))))

-- the slot j is one of those of a list of links
abbrev pub among : List Link → ℕ → Bool
among ws j = any (λ w. eqb w.slot j) ws

pub at-fired_all : (ws : List Link) (sl : List Slot) (j : ℕ) → times_in ws j ≤ 1
    → slot_at (fired_all ws sl) j ≡ cond (among ws j) (fired (slot_at sl j)) (slot_at sl j)
at-fired_all [] sl j once = refl
at-fired_all (w ∷ ws) sl j once =
    cases (eqb w.slot j)
    (λ e.
    let none : times_in ws j ≤ 0 = let o : suc (times_in ws j) ≤ 1 = rw e at once in omega arith in
    at-fired_all ws (put_at sl w.slot (fired (slot_at sl w.slot))) j (omega arith)
    ∙ rw (absent ws none, e) (at-fired sl w.slot j ∙ ap (λ (b : Bool). cond b (fired (slot_at sl j)) (slot_at sl j)) e))
    (λ e.
    at-fired_all ws (put_at sl w.slot (fired (slot_at sl w.slot))) j (rw e at once)
    ∙ rw e (ap (λ (x : Slot). cond (among ws j) (fired x) x)
    (at-fired sl w.slot j ∙ ap (λ (b : Bool). cond b (fired (slot_at sl j)) (slot_at sl j)) e)))
  where
    absent : (ws : List Link) → times_in ws j ≤ 0 → among ws j ≡ false
    absent ws p = cases (among ws j) (λ e. absurd (omega (arith, any_some (λ w. eqb w.slot j) ws e))) (λ e. e)
