-- Whose slots: every slot is one party's, and none is of a number that is no party. A party's slots are a range, from its first to its last, which is
-- what a loop over the words goes through: a search of its own slots among all is a search of that range. Assumes nothing.
use mathlib.Core.Path.{◌≡◌, refl, sym, ap, ap₂, ◌∙◌}
use Prim.Native.Nat.{ℕ, zero, suc, ◌+◌, ◌-◌, ◌≤◌, ◌<◌}
use native.Mathlib.Omega.{arith}
use mathlib.Core.Bool.{Bool, true, false, cond, ◌&&◌}
use mathlib.Core.List.{List}
use lib.Dec.{leb, eqb}
use borrow.Author.Tests.{eqb-true, eqb-false, eq-eqb, ne_eqb, le-leb, lt-leb}
use Rattle.model.specs.Parties.{owner_of, owns, is_party, first_own, last_own}
use Rattle.model.specs.State.{Slot, lowest}
use Rattle.model.specs.Words.{slot_from, slots_from}
use Rattle.laws.proofs.ListLaws.{cases, clash}

-- ---- owners

pub owner-party : (split i : ℕ) → is_party split (owner_of split i) ≡ true
owner-party split i = cases (eqb split 0) (λ e. rw e) (λ e. cases (leb i split) (λ f. rw (e, f)) (λ f. rw (e, f)))

pub owner_owns : (split i : ℕ) → owns split (owner_of split i) i ≡ true
owner_owns split i = eq-eqb (owner_of split i) (owner_of split i) refl

pub owns-party : (split party i : ℕ) → owns split party i ≡ true → is_party split party ≡ true
owns-party split party i e = ap (is_party split) (sym (eqb-true (owner_of split i) party e)) ∙ owner-party split i

-- 0 is no party's number
pub owns_none : (split i : ℕ) → owns split 0 i ≡ false
owns_none split i = cases (eqb split 0) (λ e. rw e) (λ e. cases (leb i split) (λ f. rw (e, f)) (λ f. rw (e, f)))

-- what is one party's is no other's
pub owns-one : (split p q i : ℕ) → (p ≡ q → ⊥) → owns split p i ≡ true → owns split q i ≡ false
owns-one split p q i n e = ne_eqb (owner_of split i) q (λ f. n (sym (eqb-true (owner_of split i) p e) ∙ f))

-- ---- their slots

module _ (split : ℕ) where
  one-all : (j : ℕ) → split ≡ 0 → owns split 1 j ≡ true
  one-all j e = rw (eq-eqb split 0 e)

  one-low : (j : ℕ) → j ≤ split → owns split 1 j ≡ true
  one-low j h = cases (eqb split 0) (λ e. rw e) (λ e. rw (e, le-leb j split h))

  one-high : (j : ℕ) → (split ≡ 0 → ⊥) → split < j → owns split 1 j ≡ false
  one-high j n h = rw (ne_eqb split 0 n, lt-leb j split h)

  two-low : (j : ℕ) → j ≤ split → owns split 2 j ≡ false
  two-low j h = cases (eqb split 0) (λ e. rw e) (λ e. rw (e, le-leb j split h))

  two-high : (j : ℕ) → (split ≡ 0 → ⊥) → split < j → owns split 2 j ≡ true
  two-high j n h = rw (ne_eqb split 0 n, lt-leb j split h)

-- ---- a search that passes over what is not its own

module _ (t : List ℕ) (own : ℕ → Bool) (p : Slot → Bool) where
  abbrev test : ℕ → Slot → Bool
  test i x = own i && p x

  -- a slots from i up to k are not its own
  skip : (a m c i k : ℕ) → a + m ≡ c → i + a ≡ k → ((j : ℕ) → i ≤ j → j < k → own j ≡ false)
      → lowest test i (slots_from t i c) ≡ lowest test k (slots_from t k m)
  skip zero m c i k e f h =
      let x : i ≡ k = omega arith in
      let y : c ≡ m = omega arith in
      ap₂ (λ (j n : ℕ). lowest test j (slots_from t j n)) x y
  skip (suc a) m zero i k e f h = absurd (omega arith)
  skip (suc a) m (suc c) i k e f h =
      rw (h i (omega arith) (omega arith)) (skip a m c (suc i) k (omega arith) (omega arith) (λ j x y. h j (omega arith) y))

  -- m slots from i up to k are its own, and none of those behind
  only : (m d c i k : ℕ) → m + d ≡ c → i + m ≡ k → ((j : ℕ) → i ≤ j → j < k → own j ≡ true) → ((j : ℕ) → k ≤ j → j < k + d → own j ≡ false)
      → lowest test i (slots_from t i c) ≡ lowest (λ _. p) i (slots_from t i m)
  only zero d c i k e f h g =
      skip d 0 c i (i + d) (omega arith) refl (λ j x y. g j (omega arith) (omega arith))
  only (suc m) d zero i k e f h g = absurd (omega arith)
  only (suc m) d (suc c) i k e f h g =
      rw (h i (omega arith) (omega arith))
      (ap (cond (p (slot_from t i)) i) (only m d c (suc i) k (omega arith) (omega arith) (λ j x y. h j (omega arith) y) g))

module _ (t : List ℕ) (p : Slot → Bool) (split n : ℕ) (parted : split < n) where
  abbrev Found : ℕ → Type 0
  Found party = lowest (λ i x. owns split party i && p x) 1 (slots_from t 1 n)
      ≡ lowest (λ _. p) (first_own split party) (slots_from t (first_own split party) (suc (last_own split n party) - first_own split party))

  -- a search of m slots from i on
  abbrev from : ℕ → ℕ → ℕ
  from i m = lowest (λ _. p) i (slots_from t i m)

  found-one : Found 1
  found-one =
      cases (eqb split 0)
      (λ e.
      let z = eqb-true split 0 e in
      only t (owns split 1) p n 0 n 1 (suc n) (omega arith) (omega arith) (λ j _ _. one-all split j z) (λ j x y. absurd (omega arith))
      ∙ rw e (let m : n ≡ suc n - 1 = omega arith in ap (from 1) m))
      (λ e.
      let z = eqb-false split 0 e in
      only t (owns split 1) p split (n - split) n 1 (suc split) (omega arith) (omega arith)
      (λ j x y. one-low split j (omega arith)) (λ j x y. one-high split j z x)
      ∙ rw e (let m : split ≡ suc split - 1 = omega arith in ap (from 1) m))

  found-two : (split ≡ 0 → ⊥) → Found 2
  found-two z =
      skip t (owns split 2) p split (n - split) n 1 (suc split) (omega arith) (omega arith) (λ j x y. two-low split j (omega arith))
      ∙ only t (owns split 2) p (n - split) 0 (n - split) (suc split) (suc n) (omega arith) (omega arith)
      (λ j x y. two-high split j z x) (λ j x y. absurd (omega arith))
      ∙ (let m : n - split ≡ suc n - suc split = omega arith in ap (from (suc split)) m)

  -- the caller's lowest slot that passes is the lowest of its range
  pub range-searched : (party : ℕ) → is_party split party ≡ true → Found party
  range-searched party ok =
      cases (eqb party 1)
      (λ e. let z = eqb-true party 1 e in rw z found-one)
      (λ e. cases (eqb party 2)
      (λ f.
      let z = eqb-true party 2 f in
      rw z (found-two (λ y.
      let none : is_party split party ≡ false = rw (e, f, eq-eqb split 0 y) in
      clash (sym ok ∙ none))))
      (λ f.
      let none : is_party split party ≡ false = rw (e, f) in
      clash (sym ok ∙ none)))
