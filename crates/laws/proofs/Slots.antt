-- The slots: what is read after a slot is written, and after timers fired. Assumes nothing.
use mathlib.Core.Path.{◌≡◌, refl, sym, ap, ◌∙◌, subst}
use Prim.Native.Nat.{ℕ, zero, suc, ◌≤◌, ◌<◌}
use native.Mathlib.Nat.{not-suc-le-zero}
use native.Mathlib.Omega.{arith}
use mathlib.Core.Bool.{false}
use mathlib.Core.Option.{Option}
use mathlib.Core.List.{List, [], ◌∷◌}
use lib.ListN.{length, replicate, length-set, get_or-replicate, get_or-eq_default, length-replicate}
use lib.Seq.{get_or-set_same, get_or-set_other, set-set}
use lib.Dec.{ltb, eqb}
use borrow.Author.Tests.{ltb-true, ltb-false, eqb-true, eqb-false}
use Rattle.model.specs.declared.Mode.{Mode}
use Rattle.model.specs.Kinds.{kind_at}
use Rattle.model.specs.State.{Slot, Link, free, slot_at, put_at}
use Rattle.model.specs.Directives.{became, idled, fired, fired_all}
use Rattle.laws.proofs.ListLaws.{cases}
use Rattle.laws.proofs.KindLaws.{stopped-last, fired-last}

pub at_same : (sl : List Slot) (i : ℕ) (x : Slot) → 0 < i → i ≤ length sl → slot_at (put_at sl i x) i ≡ x
at_same sl zero x p q = absurd (not-suc-le-zero p)
at_same sl (suc i) x p q = get_or-set_same sl i x free q

pub at_other : (sl : List Slot) (i j : ℕ) (x : Slot) → (j ≡ i → ⊥) → slot_at (put_at sl i x) j ≡ slot_at sl j
at_other sl zero j x n = refl
at_other sl (suc i) zero x n = refl
at_other sl (suc i) (suc j) x n = get_or-set_other sl i j x free (λ e. n (ap suc e))

pub length-put : (sl : List Slot) (i : ℕ) (x : Slot) → length (put_at sl i x) ≡ length sl
length-put sl zero x = refl
length-put sl (suc i) x = length-set sl i x

pub put-put : (sl : List Slot) (i : ℕ) (x y : Slot) → put_at (put_at sl i x) i y ≡ put_at sl i y
put-put sl zero x y = refl
put-put sl (suc i) x y = set-set sl i x y

-- a store that leaves a part of the slot as it was leaves that part of every slot
pub field_put : {B : Type 0} (f : Slot → B) (sl : List Slot) (i j : ℕ) (x : Slot) → f x ≡ f (slot_at sl i) → f (slot_at (put_at sl i x) j) ≡ f (slot_at sl j)
field_put f sl zero j x e = refl
field_put f sl (suc i) zero x e = refl
field_put f [] (suc i) (suc j) x e = refl
field_put f (y ∷ ys) (suc zero) (suc zero) x e = e
field_put f (y ∷ ys) (suc zero) (suc (suc j)) x e = refl
field_put f (y ∷ ys) (suc (suc i)) (suc zero) x e = refl
field_put f (y ∷ ys) (suc (suc i)) (suc (suc j)) x e = field_put f ys (suc i) (suc j) x e

-- a property of every slot after a store, from that of the new slot and of the others
pub put-any : (P : Slot → Type 0) (sl : List Slot) (i j : ℕ) (x : Slot) → P x → P (slot_at sl j) → P (slot_at (put_at sl i x) j)
put-any P sl zero j x p q = q
put-any P sl (suc i) zero x p q = q
put-any P [] (suc i) (suc j) x p q = q
put-any P (y ∷ ys) (suc zero) (suc zero) x p q = p
put-any P (y ∷ ys) (suc zero) (suc (suc j)) x p q = q
put-any P (y ∷ ys) (suc (suc i)) (suc zero) x p q = q
put-any P (y ∷ ys) (suc (suc i)) (suc (suc j)) x p q = put-any P ys (suc i) (suc j) x p q

pub put-at : (P : ℕ → Slot → Type 0) (sl : List Slot) (i : ℕ) (x : Slot) → 0 < i → i ≤ length sl → P i x
    → ((j : ℕ) → eqb j i ≡ false → P j (slot_at sl j)) → (j : ℕ) → P j (slot_at (put_at sl i x) j)
put-at P sl i x low high p q j =
    cases (eqb j i)
    (λ e. subst (λ (k : ℕ). P k (slot_at (put_at sl i x) k)) (sym (eqb-true j i e)) (subst (P i) (sym (at_same sl i x low high)) p))
    (λ e. subst (P j) (sym (at_other sl i j x (eqb-false j i e))) (q j e))

pub blank : (n i : ℕ) → slot_at (replicate n free) i ≡ free
blank n zero = refl
blank n (suc i) =
    cases (ltb i n) (λ e. get_or-replicate n i free free (ltb-true i n e))
    (λ e. get_or-eq_default (replicate n free) free {n = i} (omega (arith, length-replicate n free, ltb-false i n e)))

-- a slot that is not free is one of the table's
pub in-range : (sl : List Slot) (i : ℕ) → ((slot_at sl i).kind ≡ 0 → ⊥) → (0 < i) × (i ≤ length sl)
in-range sl zero e = absurd (e refl)
in-range sl (suc i) e = (omega arith, within)
  where
    within : suc i ≤ length sl
    within =
        cases (ltb i (length sl)) (λ f. ltb-true i (length sl) f)
        (λ f. absurd (e (ap (λ (x : Slot). x.kind) (get_or-eq_default sl free {n = i} (ltb-false i (length sl) f)))))

-- ---- what firing and cancelling leave of a slot

pub record Memo : Type 0 where
  pub last : Option Mode
  pub interval : ℕ
  pub routine : ℕ
  pub user_data : ℕ

abbrev pub memo : Slot → Memo
memo x = record { last = (kind_at x.kind).last; interval = x.interval; routine = x.routine; user_data = x.user_data }

memo-became : (n : ℕ) (x : Slot) → (kind_at n).last ≡ (kind_at x.kind).last → memo (became n x) ≡ memo x
memo-became n x e = ap (λ (o : Option Mode). record { last = o; interval = x.interval; routine = x.routine; user_data = x.user_data }) e

pub memo-idled : (x : Slot) → memo (idled x) ≡ memo x
memo-idled x = memo-became (kind_at x.kind).when_stopped x (stopped-last x.kind)

pub memo-fired : (x : Slot) → memo (fired x) ≡ memo x
memo-fired x = memo-became (kind_at x.kind).when_fired x (fired-last x.kind)

pub memo-fired_all : (ws : List Link) (sl : List Slot) (j : ℕ) → memo (slot_at (fired_all ws sl) j) ≡ memo (slot_at sl j)
memo-fired_all [] sl j = refl
memo-fired_all (w ∷ ws) sl j =
    memo-fired_all ws (put_at sl w.slot (fired (slot_at sl w.slot))) j
    ∙ field_put memo sl w.slot j (fired (slot_at sl w.slot)) (memo-fired (slot_at sl w.slot))

pub length-fired_all : (ws : List Link) (sl : List Slot) → length (fired_all ws sl) ≡ length sl
length-fired_all [] sl = refl
length-fired_all (w ∷ ws) sl =
    length-fired_all ws (put_at sl w.slot (fired (slot_at sl w.slot))) ∙ length-put sl w.slot (fired (slot_at sl w.slot))
