-- That a table's chains are in order is a fact that holds in one way only.
use Rattle.std.specs.Prelude.{ℕ, List, [], ◌∷◌, ◌≤◌}
use Rattle.std.specs.Coded.{×_prop, Unit-prop, le_prop, Coded-set, coded_ℕ, coded_list}
use native.Mathlib.Nat.{ℕ_set}
use Rattle.model.specs.Lists.{All, Sorted}
use Rattle.model.specs.declared.Chain.{Chain}
use Rattle.model.specs.declared.Chain.TheVariants.{ByTicks, ByDate, Queue}
use Rattle.model.specs.State.{Slot, Link, State}
use Rattle.laws.proofs.WellFormed.{Within, Fits, Chained, Holds}

pub All-prop : {A : Type 0} (P : A → Type 0) → ((x : A) → IsProp (P x)) → (l : List A) → IsProp (All P l)
All-prop P p [] = Unit-prop
All-prop P p (x ∷ xs) = ×_prop (p x) (All-prop P p xs)

pub Sorted-prop : {A : Type 0} (key : A → ℕ) → (l : List A) → IsProp (Sorted key l)
Sorted-prop key [] = Unit-prop
Sorted-prop key (x ∷ xs) = ×_prop (All-prop (λ y. key x ≤ key y) (λ y. le_prop) xs) (Sorted-prop key xs)

pub Within-prop : (k : Chain) (w n : ℕ) → IsProp (Within k w n)
Within-prop ByTicks w n = le_prop
Within-prop ByDate w n = Unit-prop
Within-prop Queue w n = ℕ_set w 0

pub Fits-all-prop : (k : Chain) (slots : List Slot) (l : List Link) → IsProp (All (Fits k slots) l)
Fits-all-prop k slots l = All-prop (Fits k slots) (λ w. Within-prop k w.wait _) l

pub Chained-prop : (s : State) → IsProp (Chained s)
Chained-prop s = Prim.hlevel (le_prop, ℕ_set, Sorted-prop, Fits-all-prop)

pub Holds-prop : (t : List ℕ) (s : State) → IsProp (Holds t s)
Holds-prop t s = Prim.hlevel (le_prop, Coded-set (coded_list coded_ℕ), Chained-prop)
