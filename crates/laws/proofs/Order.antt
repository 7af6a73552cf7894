-- The order "by a number, the earlier first among equals" as a function: each element in turn is put into its place among those before it.
-- It meets `InOrder`, which is how demand 3 states the order. Assumes nothing.
use mathlib.Core.Path.{◌≡◌, refl, sym, ap, ap₂, ◌∙◌, subst}
use Prim.Native.Nat.{ℕ, ◌+◌, ◌≤◌, ◌<◌}
use native.Mathlib.Omega.{arith}
use mathlib.Core.Bool.{Bool, false}
use mathlib.Core.List.{List, [], ◌∷◌, ◌++◌, map, append_assoc, append-nil, head-eq_of_cons-eq, tail-eq_of_cons-eq, nil≢cons, cons≢nil}
use lib.Dec.{leb, eqb}
use borrow.Author.Tests.{leb-true, leb-false, eqb-true, eqb-false, eq-eqb, ne_eqb}
use Rattle.model.specs.Lists.{keep, count, place, All, Sorted, InOrder}
use Rattle.laws.proofs.ListLaws.{cases, all, all_map, keep-none, all-passed, all-place, sorted-place, keep-place, place-last, map-place, count-place}

module _ {A : Type 0} where
  abbrev pub order_on : (A → ℕ) → List A → List A → List A
  order_on key acc [] = acc
  order_on key acc (x ∷ xs) = order_on key (place key x acc) xs

  abbrev pub order : (A → ℕ) → List A → List A
  order key l = order_on key [] l

  pub all-order_on : (P : A → Type 0) (key : A → ℕ) (acc l : List A) → All P acc → All P l → All P (order_on key acc l)
  all-order_on P key acc [] h k = h
  all-order_on P key acc (x ∷ xs) h k = all-order_on P key (place key x acc) xs (all-place P key x acc k.0 h) k.1

  pub count-order_on : (p : A → Bool) (key : A → ℕ) (acc l : List A) → count p (order_on key acc l) ≡ count p acc + count p l
  count-order_on p key acc [] = omega arith
  count-order_on p key acc (x ∷ xs) =
      let ih = count-order_on p key (place key x acc) xs in
      let one = count-place p key x acc in
      cases (p x) (λ e. rw e (let o : count p (place key x acc) ≡ count p acc + 1 = rw e at one in omega arith))
      (λ e. rw e (let o : count p (place key x acc) ≡ count p acc + 0 = rw e at one in omega arith))

  -- ---- `place` and `order`

  pub sorted-order_on : (key : A → ℕ) (acc l : List A) → Sorted key acc → Sorted key (order_on key acc l)
  sorted-order_on key acc [] h = h
  sorted-order_on key acc (x ∷ xs) h = sorted-order_on key (place key x acc) xs (sorted-place key x acc h)

  pub sorted-order : (key : A → ℕ) (l : List A) → Sorted key (order key l)
  sorted-order key l = sorted-order_on key [] l tt

  pub keep-order_on : (key : A → ℕ) (p : A → Bool) (acc l : List A) → Sorted key acc
      → keep p (order_on key acc l) ≡ order_on key (keep p acc) (keep p l)
  keep-order_on key p acc [] h = refl
  keep-order_on key p acc (x ∷ xs) h =
      keep-order_on key p (place key x acc) xs (sorted-place key x acc h)
      ∙ rw (keep-place key p x acc h) (cases (p x) (λ e. rw e) (λ e. rw e))

  pub keep-order : (key : A → ℕ) (p : A → Bool) (l : List A) → keep p (order key l) ≡ order key (keep p l)
  keep-order key p l = keep-order_on key p [] l tt

  pub order_on-append : (key : A → ℕ) (acc l m : List A) → order_on key acc (l ++ m) ≡ order_on key (order_on key acc l) m
  order_on-append key acc [] m = refl
  order_on-append key acc (y ∷ ys) m = order_on-append key (place key y acc) ys m

  pub order_on-flat : (key : A → ℕ) (k : ℕ) (acc l : List A) → All (λ y. key y ≡ k) acc → All (λ y. key y ≡ k) l → order_on key acc l ≡ acc ++ l
  order_on-flat key k acc [] h g = sym (append-nil acc)
  order_on-flat key k acc (x ∷ xs) h g =
      let flat : All (λ y. key y ≤ key x) acc = all_map (λ y e. omega (arith, e, g.0)) acc h in
      order_on-flat key k (place key x acc) xs (all-place (λ y. key y ≡ k) key x acc g.0 h) g.1
      ∙ ap (λ (a : List A). a ++ xs) (place-last key x acc flat) ∙ append_assoc acc (x ∷ []) xs

  pub order-in-order : (key : A → ℕ) (l : List A) → InOrder key l (order key l)
  order-in-order key l = record {
    rising = sorted-order key l;
    same = λ k. keep-order key (λ x. eqb (key x) k) l
        ∙ order_on-flat key k [] (keep (λ x. eqb (key x) k) l) tt
        (all_map (λ x e. eqb-true (key x) k e) (keep (λ x. eqb (key x) k) l) (all-passed (λ x. eqb (key x) k) l));
  }

module _ {A B : Type 0} where
  pub map-order_on : (f : A → B) (key : A → ℕ) (key' : B → ℕ) → ((x : A) → key' (f x) ≡ key x) → (acc l : List A)
      → map f (order_on key acc l) ≡ order_on key' (map f acc) (map f l)
  map-order_on f key key' h acc [] = refl
  map-order_on f key key' h acc (x ∷ xs) =
      map-order_on f key key' h (place key x acc) xs
      ∙ rw (map-place f key key' x acc (all (λ y. ap₂ leb (h y) (h x)) acc))

  -- the same where the map keeps the order among elements of a sort
  pub map-order : (f : A → B) (key : A → ℕ) (key' : B → ℕ) (P : A → Type 0)
      → ((x y : A) → P x → P y → leb (key' (f y)) (key' (f x)) ≡ leb (key y) (key x)) → (l : List A) → All P l
      → map f (order key l) ≡ order key' (map f l)
  map-order f key key' P h l all-l = on [] l tt all-l
    where
      on : (acc l : List A) → All P acc → All P l → map f (order_on key acc l) ≡ order_on key' (map f acc) (map f l)
      on acc [] p q = refl
      on acc (x ∷ xs) p q =
          on (place key x acc) xs (all-place P key x acc q.0 p) q.1
          ∙ rw (map-place f key key' x acc (all_map (λ y r. h x y q.0 r) acc p))

-- ---- the order leaves one list only

module _ {A : Type 0} (key : A → ℕ) where
  above : (k : ℕ) (x : A) (l : List A) → k < key x → Sorted key (x ∷ l) → keep (λ y. eqb (key y) k) (x ∷ l) ≡ []
  above k x l p s = keep-none (λ y. eqb (key y) k) (x ∷ l)
      (ne_eqb (key x) k (λ e. omega arith), all_map (λ y q. ne_eqb (key y) k (λ e. omega arith)) l s.0)

  own : (x : A) (l : List A) → keep (λ y. eqb (key y) (key x)) (x ∷ l) ≡ x ∷ keep (λ y. eqb (key y) (key x)) l
  own x l = rw (eq-eqb (key x) (key x) refl)

  one-sorted : (l m : List A) → Sorted key l → Sorted key m → ((k : ℕ) → keep (λ x. eqb (key x) k) l ≡ keep (λ x. eqb (key x) k) m) → l ≡ m
  one-sorted [] [] p q h = refl
  one-sorted [] (y ∷ ys) p q h = absurd (nil≢cons (h (key y) ∙ own y ys))
  one-sorted (x ∷ xs) [] p q h = absurd (cons≢nil (sym (own x xs) ∙ h (key x)))
  one-sorted (x ∷ xs) (y ∷ ys) p q h =
      cases (eqb (key y) (key x))
      (λ e.
      let same : x ∷ keep (λ z. eqb (key z) (key x)) xs ≡ y ∷ keep (λ z. eqb (key z) (key x)) ys =
      sym (own x xs) ∙ h (key x) ∙ rw e in
      ap₂ {C = List A} (λ a r. a ∷ r) (head-eq_of_cons-eq same)
      (one-sorted xs ys p.1 q.1 (λ k.
      cases (eqb (key x) k)
      (λ f.
      let g = eqb-true (key x) k f in
      subst (λ (j : ℕ). keep (λ z. eqb (key z) j) xs ≡ keep (λ z. eqb (key z) j) ys) g (tail-eq_of_cons-eq same))
      (λ f.
      let f' : eqb (key y) k ≡ false = ap (λ (j : ℕ). eqb j k) (eqb-true (key y) (key x) e) ∙ f in
      sym (rw f) ∙ h k ∙ rw f'))))
      (λ e.
      cases (leb (key x) (key y))
      (λ f.
      let lt : key x < key y = below (key x) (key y) (leb-true (key x) (key y) f) (eqb-false (key y) (key x) e) in
      absurd (cons≢nil (sym (own x xs) ∙ h (key x) ∙ above (key x) y ys lt q)))
      (λ f.
      absurd (nil≢cons (sym (above (key y) x xs (leb-false (key x) (key y) f) p) ∙ h (key y) ∙ own y ys))))
    where
      below : (a b : ℕ) → a ≤ b → (b ≡ a → ⊥) → a < b
      below a b p q = omega arith

  pub one-order : (l m n : List A) → InOrder key l m → InOrder key l n → m ≡ n
  one-order l m n p q = one-sorted m n p.rising q.rising (λ k. p.same k ∙ sym (q.same k))
