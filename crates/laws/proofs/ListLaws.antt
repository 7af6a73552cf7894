-- Laws of lists with Boolean tests: `keep`, `count`, `place`, and what passed tests say. Assumes nothing.
use mathlib.Core.Path.{◌≡◌, refl, sym, ap, ◌∙◌, subst}
use Prim.Native.Nat.{ℕ, zero, suc, ◌+◌, ◌≤◌, ◌<◌}
use native.Mathlib.Omega.{arith}
use mathlib.Core.Bool.{Bool, true, false, cond, not, ◌&&◌, ◌||◌, or-false, and_comm}
use mathlib.Core.List.{List, [], ◌∷◌, ◌++◌, map, reverse_aux}
use lib.ListN.{length, take, drop}
use lib.Dec.{leb, eqb, ltb}
use borrow.Author.Tests.{leb-true, leb-false, lt-leb, le-leb, le-ltb, lt-ltb, eqb-true, eqb-false, not-true, not-false}
use Rattle.calendar.specs.Calendar.{all_of}
pub use Rattle.calendar.proofs.Validity.{all-at}
use Rattle.model.specs.Lists.{goes_behind, all_from, keep, any, every, count, drop_first, place, All, Sorted}

pub cases : {C : Type 0} (b : Bool) → (b ≡ true → C) → (b ≡ false → C) → C
cases true f g = f refl
cases false f g = g refl

pub clash : {C : Type 0} → true ≡ false → C
clash e = let z : ◌≡◌ {A = ℕ} 0 1 = ap (λ (b : Bool). cond b 0 1) e in absurd (omega arith)

pub both : (a b : Bool) → (a && b) ≡ true → (a ≡ true) × (b ≡ true)
both true b e = (refl, e)
both false b e = clash (sym e)

pub and_both : (a b : Bool) → a ≡ true → b ≡ true → (a && b) ≡ true
and_both true b e f = f
and_both false b e f = e

pub or_left : (a b : Bool) → a ≡ true → (a || b) ≡ true
or_left true b e = refl
or_left false b e = clash (sym e)

pub or_right : (a b : Bool) → b ≡ true → (a || b) ≡ true
or_right true b e = refl
or_right false b e = e

pub or_else : (a b : Bool) → (a || b) ≡ true → a ≡ false → b ≡ true
or_else true b e f = clash f
or_else false b e f = e

-- a test that a call answered, as what it tests for
pub passed : {r b : Bool} → r ≡ b → not r ≡ false → b ≡ true
passed {r} {b} e n = sym e ∙ not-false r n

pub failed : {r b : Bool} → r ≡ b → not r ≡ true → b ≡ false
failed {r} {b} e n = sym e ∙ not-true r n

pub not-leb : (a b : ℕ) → ltb b a ≡ not (leb a b)
not-leb a b = cases (leb a b) (λ e. le-ltb b a (leb-true a b e) ∙ ap not (sym e)) (λ e. lt-ltb b a (leb-false a b e) ∙ ap not (sym e))

-- ---- tests in a list

pub all_true : (l : List Bool) → All (λ b. b ≡ true) l → all_of l ≡ true
all_true [] h = refl
all_true (b ∷ bs) h = and_both b (all_of bs) h.0 (all_true bs h.1)

pub all_up : (p : ℕ → Bool) (i n : ℕ) → ((j : ℕ) → i ≤ j → j < i + n → p j ≡ true) → all_from p i n ≡ true
all_up p i zero h = refl
all_up p i (suc n) h = and_both (p i) (all_from p (suc i) n) (h i (omega arith) (omega arith)) (all_up p (suc i) n (λ j a b. h j (omega arith) (omega arith)))

pub up_at : (p : ℕ → Bool) (i n : ℕ) → all_from p i n ≡ true → (j : ℕ) → i ≤ j → j < i + n → p j ≡ true
up_at p i zero e j a b = absurd (omega arith)
up_at p i (suc n) e j a b =
    cases (eqb i j)
    (λ f. subst (λ (k : ℕ). p k ≡ true) (eqb-true i j f) (both (p i) (all_from p (suc i) n) e).0)
    (λ f. up_at p (suc i) n (both (p i) (all_from p (suc i) n) e).1 j (above i j a (eqb-false i j f)) (omega arith))
  where
    above : (i j : ℕ) → i ≤ j → (i ≡ j → ⊥) → suc i ≤ j
    above i j a b = omega arith

module _ {A : Type 0} where
  pub every_true : (p : A → Bool) (l : List A) → All (λ x. p x ≡ true) l → every p l ≡ true
  every_true p [] h = refl
  every_true p (x ∷ xs) h = and_both (p x) (every p xs) h.0 (every_true p xs h.1)

  pub every-all : (p : A → Bool) (l : List A) → every p l ≡ true → All (λ x. p x ≡ true) l
  every-all p [] e = tt
  every-all p (x ∷ xs) e = ((both (p x) (every p xs) e).0, every-all p xs (both (p x) (every p xs) e).1)

  -- ---- facts of every element

  pub all : {P : A → Type 0} → ((x : A) → P x) → (l : List A) → All P l
  all f [] = tt
  all f (x ∷ xs) = (f x, all f xs)

  pub all_map : {P Q : A → Type 0} → ((x : A) → P x → Q x) → (l : List A) → All P l → All Q l
  all_map f [] h = tt
  all_map f (x ∷ xs) h = (f x h.0, all_map f xs h.1)

  pub all_append : (P : A → Type 0) (l m : List A) → All P l → All P m → All P (l ++ m)
  all_append P [] m h k = k
  all_append P (x ∷ xs) m h k = (h.0, all_append P xs m h.1 k)

  pub all_keep : (P : A → Type 0) (p : A → Bool) (l : List A) → All P l → All P (keep p l)
  all_keep P p [] h = tt
  all_keep P p (x ∷ xs) h = cases (p x) (λ e. rw e (h.0, all_keep P p xs h.1)) (λ e. rw e (all_keep P p xs h.1))

  pub all-passed : (p : A → Bool) (l : List A) → All (λ x. p x ≡ true) (keep p l)
  all-passed p [] = tt
  all-passed p (x ∷ xs) = cases (p x) (λ e. rw e (e, all-passed p xs)) (λ e. rw e (all-passed p xs))

  pub all-place : (P : A → Type 0) (key : A → ℕ) (x : A) (l : List A) → P x → All P l → All P (place key x l)
  all-place P key x [] h k = (h, tt)
  all-place P key x (y ∷ ys) h k = cases (goes_behind (key x) (key y)) (λ e. rw e (k.0, all-place P key x ys h k.1)) (λ e. rw e (h, k))

  pub keep_append : (p : A → Bool) (l m : List A) → keep p (l ++ m) ≡ keep p l ++ keep p m
  keep_append p [] m = refl
  keep_append p (x ∷ xs) m =
      cases (p x) (λ e. rw e (ap {B = List A} (λ r. x ∷ r) (keep_append p xs m))) (λ e. rw e (keep_append p xs m))

  pub keep-and : (p q : A → Bool) (l : List A) → keep p (keep q l) ≡ keep (λ x. q x && p x) l
  keep-and p q [] = refl
  keep-and p q (x ∷ xs) =
      cases (q x)
      (λ e. rw e (cases (p x) (λ f. rw f (ap {B = List A} (λ r. x ∷ r) (keep-and p q xs))) (λ f. rw f (keep-and p q xs))))
      (λ e. rw e (keep-and p q xs))

  pub keep-on : (p q : A → Bool) (l : List A) → All (λ x. p x ≡ q x) l → keep p l ≡ keep q l
  keep-on p q [] h = refl
  keep-on p q (x ∷ xs) h = rw (h.0, keep-on p q xs h.1)

  pub keep_all : (p : A → Bool) (l : List A) → All (λ x. p x ≡ true) l → keep p l ≡ l
  keep_all p [] h = refl
  keep_all p (x ∷ xs) h = rw (h.0, keep_all p xs h.1)

  pub keep-none : (p : A → Bool) (l : List A) → All (λ x. p x ≡ false) l → keep p l ≡ []
  keep-none p [] h = refl
  keep-none p (x ∷ xs) h = rw (h.0, keep-none p xs h.1)

  pub sorted-place : (key : A → ℕ) (x : A) (l : List A) → Sorted key l → Sorted key (place key x l)
  sorted-place key x [] h = (tt, tt)
  sorted-place key x (y ∷ ys) h =
      cases (goes_behind (key x) (key y))
      (λ e. rw e (all-place (λ z. key y ≤ key z) key x ys (leb-true (key y) (key x) e) h.0, sorted-place key x ys h.1))
      (λ e.
      let lt : key x < key y = leb-false (key y) (key x) e in
      rw e ((omega arith, all_map (λ z g. omega arith) ys h.0), h))

  -- a later element comes first only where its number is smaller than all
  place-first : (key : A → ℕ) (x : A) (l : List A) → All (λ y. key x < key y) l → place key x l ≡ x ∷ l
  place-first key x [] h = refl
  place-first key x (y ∷ ys) h = rw (lt-leb (key y) (key x) h.0)

  pub keep-place : (key : A → ℕ) (p : A → Bool) (x : A) (l : List A) → Sorted key l
      → keep p (place key x l) ≡ cond (p x) (place key x (keep p l)) (keep p l)
  keep-place key p x [] h = refl
  keep-place key p x (y ∷ ys) h =
      cases (goes_behind (key x) (key y))
      (λ e. rw e (
      let ih = keep-place key p x ys h.1 in
      cases (p y)
      (λ f. rw (f, ih) (cases (p x) (λ g. rw (g, e)) (λ g. rw g)))
      (λ f. rw (f, ih))))
      (λ e.
      let lt : key x < key y = leb-false (key y) (key x) e in
      let first : place key x (keep p (y ∷ ys)) ≡ x ∷ keep p (y ∷ ys) =
      place-first key x (keep p (y ∷ ys)) (all_keep (λ z. key x < key z) p (y ∷ ys) (lt, all_map (λ z g. omega arith) ys h.0)) in
      rw (e, first))

  pub all-zip : (P Q : A → Type 0) (l : List A) → All P l → All Q l → All (λ x. P x × Q x) l
  all-zip P Q [] h k = tt
  all-zip P Q (x ∷ xs) h k = ((h.0, k.0), all-zip P Q xs h.1 k.1)

  -- an element whose number is not smaller than any goes last
  pub place-last : (key : A → ℕ) (x : A) (l : List A) → All (λ y. key y ≤ key x) l → place key x l ≡ l ++ (x ∷ [])
  place-last key x [] h = refl
  place-last key x (y ∷ ys) h = rw (le-leb (key y) (key x) h.0, place-last key x ys h.1)

  pub count-append : (p : A → Bool) (l m : List A) → count p (l ++ m) ≡ count p l + count p m
  count-append p [] m = omega arith
  count-append p (x ∷ xs) m = let ih = count-append p xs m in cases (p x) (λ e. rw e (omega arith)) (λ e. rw e ih)

  pub count-keep : (p q : A → Bool) (l : List A) → count p (keep q l) ≤ count p l
  count-keep p q [] = omega arith
  count-keep p q (x ∷ xs) =
      let ih = count-keep p q xs in
      cases (q x)
      (λ e. rw e (cases (p x) (λ f. rw f (omega arith)) (λ f. rw f ih)))
      (λ e. rw e (cases (p x) (λ f. rw f (omega arith)) (λ f. rw f ih)))

  pub count-place : (p : A → Bool) (key : A → ℕ) (x : A) (l : List A) → count p (place key x l) ≡ count p l + cond (p x) 1 0
  count-place p key x [] = cases (p x) (λ e. rw e (omega arith)) (λ e. rw e (omega arith))
  count-place p key x (y ∷ ys) =
      let ih = count-place p key x ys in
      cases (goes_behind (key x) (key y))
      (λ e. rw e (cases (p y) (λ f. rw f (omega arith)) (λ f. rw f ih)))
      (λ e. rw e (cases (p x) (λ f. rw f (omega arith)) (λ f. rw f (omega arith))))

  pub length-keep : (p : A → Bool) (l : List A) → length (keep p l) ≤ length l
  length-keep p [] = omega arith
  length-keep p (x ∷ xs) = let ih = length-keep p xs in cases (p x) (λ e. rw e (omega arith)) (λ e. rw e (omega arith))

  pub sorted-keep : (key : A → ℕ) (p : A → Bool) (l : List A) → Sorted key l → Sorted key (keep p l)
  sorted-keep key p [] h = tt
  sorted-keep key p (x ∷ xs) h =
      let ih = sorted-keep key p xs h.1 in
      cases (p x) (λ e. rw e (all_keep (λ y. key x ≤ key y) p xs h.0, ih)) (λ e. rw e ih)

  -- what a test keeps and what its opposite keeps are all
  pub count-parts : (p q q' : A → Bool) → ((x : A) → q' x ≡ not (q x)) → (l : List A) → count p (keep q l) + count p (keep q' l) ≡ count p l
  count-parts p q q' h [] = omega arith
  count-parts p q q' h (x ∷ xs) =
      let ih = count-parts p q q' h xs in
      cases (q x)
      (λ e. rw (h x, e) (cases (p x) (λ f. rw f (omega arith)) (λ f. rw f ih)))
      (λ e. rw (h x, e) (cases (p x) (λ f. rw f (omega arith)) (λ f. rw f ih)))

  pub any_some : (p : A → Bool) (l : List A) → any p l ≡ true → 0 < count p l
  any_some p [] e = clash (sym e)
  any_some p (x ∷ xs) e = cases (p x) (λ f. rw f (omega arith)) (λ f. rw f (any_some p xs (rw f at e)))

  pub any_none : (p : A → Bool) (l : List A) → any p l ≡ false → count p l ≡ 0
  any_none p [] e = refl
  any_none p (x ∷ xs) e = cases (p x) (λ f. clash (rw f at e)) (λ f. rw f (any_none p xs (rw f at e)))

module _ {A B : Type 0} where
  pub all-mapped : (f : A → B) (P : B → Type 0) (l : List A) → All (λ x. P (f x)) l → All P (map f l)
  all-mapped f P [] h = tt
  all-mapped f P (x ∷ xs) h = (h.0, all-mapped f P xs h.1)

  pub map_on : (f g : A → B) (l : List A) → All (λ x. f x ≡ g x) l → map f l ≡ map g l
  map_on f g [] h = refl
  map_on f g (x ∷ xs) h = rw (h.0, map_on f g xs h.1)

  pub keep-map : (f : A → B) (p : B → Bool) (l : List A) → keep p (map f l) ≡ map f (keep (λ x. p (f x)) l)
  keep-map f p [] = refl
  keep-map f p (x ∷ xs) =
      cases (p (f x)) (λ e. rw e (ap {B = List B} (λ r. f x ∷ r) (keep-map f p xs))) (λ e. rw e (keep-map f p xs))

  -- a map that keeps the order of numbers goes through `place`
  pub map-place : (f : A → B) (key : A → ℕ) (key' : B → ℕ) (x : A) (l : List A)
      → All (λ y. leb (key' (f y)) (key' (f x)) ≡ leb (key y) (key x)) l → map f (place key x l) ≡ place key' (f x) (map f l)
  map-place f key key' x [] h = refl
  map-place f key key' x (y ∷ ys) h =
      rw h.0 (cases (goes_behind (key x) (key y)) (λ e. rw (e, map-place f key key' x ys h.1)) (λ e. rw e))

pub any_snoc : {A : Type 0} (p : A → Bool) (l : List A) (c : A) → any p (l ++ (c ∷ [])) ≡ (any p l || p c)
any_snoc p [] c = or-false (p c)
any_snoc p (x ∷ xs) c = cases (p x) (λ e. rw e) (λ e. rw e (any_snoc p xs c))

pub count-snoc : {A : Type 0} (p : A → Bool) (l : List A) (c : A) → count p (l ++ (c ∷ [])) ≡ count p l + cond (p c) 1 0
count-snoc p [] c = cases (p c) (λ e. rw e) (λ e. rw e)
count-snoc p (x ∷ xs) c = let ih = count-snoc p xs c in cases (p x) (λ e. rw e (omega arith)) (λ e. rw e (omega arith))

pub count-back : {A : Type 0} (p : A → Bool) (l m : List A) → count p (reverse_aux l m) ≡ count p l + count p m
count-back p [] m = omega arith
count-back p (x ∷ xs) m = let ih = count-back p xs (x ∷ m) in cases (p x) (λ e. rw e (rw e at ih ∙ omega arith)) (λ e. rw e (rw e at ih ∙ omega arith))

-- ---- all but the first that passes a test

pub keep-keep : {A : Type 0} (p q : A → Bool) (l : List A) → keep p (keep q l) ≡ keep q (keep p l)
keep-keep p q l = keep-and p q l ∙ keep-on (λ x. q x && p x) (λ x. p x && q x) l (all (λ x. and_comm (q x) (p x)) l) ∙ sym (keep-and q p l)

module _ {A : Type 0} where
  pub drop_first-on : (p q : A → Bool) (l : List A) → All (λ x. p x ≡ q x) l → drop_first p l ≡ drop_first q l
  drop_first-on p q [] h = refl
  drop_first-on p q (x ∷ xs) h =
      ap (λ (b : Bool). cond b xs (x ∷ drop_first p xs)) h.0 ∙ ap (λ (l : List A). cond (q x) xs (x ∷ l)) (drop_first-on p q xs h.1)

  pub drop_first-none : (p : A → Bool) (l : List A) → All (λ x. p x ≡ false) l → drop_first p l ≡ l
  drop_first-none p [] h = refl
  drop_first-none p (x ∷ xs) h = rw h.0 (ap {B = List A} (λ l. x ∷ l) (drop_first-none p xs h.1))

  pub drop_first-map : {B : Type 0} (f : B → A) (p : A → Bool) (l : List B) → drop_first p (map f l) ≡ map f (drop_first (λ x. p (f x)) l)
  drop_first-map f p [] = refl
  drop_first-map f p (x ∷ xs) = cases (p (f x)) (λ e. rw e) (λ e. rw e (ap {B = List A} (λ l. f x ∷ l) (drop_first-map f p xs)))

  -- of those that pass, the first is gone
  pub keep-drop_first : (p : A → Bool) (l : List A) → keep p (drop_first p l) ≡ drop 1 (keep p l)
  keep-drop_first p [] = refl
  keep-drop_first p (x ∷ xs) = cases (p x) (λ e. rw e) (λ e. rw e (rw e (keep-drop_first p xs)))

  -- those that pass another test are all left
  pub keep-drop_first-other : (p q : A → Bool) (l : List A) → ((x : A) → q x ≡ true → p x ≡ false) → keep p (drop_first q l) ≡ keep p l
  keep-drop_first-other p q [] h = refl
  keep-drop_first-other p q (x ∷ xs) h =
      cases (q x)
      (λ e. rw (e, h x e))
      (λ e. rw e (ap (λ (l : List A). cond (p x) (x ∷ l) l) (keep-drop_first-other p q xs h)))

  pub all-drop_first : (P : A → Type 0) (p : A → Bool) (l : List A) → All P l → All P (drop_first p l)
  all-drop_first P p [] h = tt
  all-drop_first P p (x ∷ xs) h = cases (p x) (λ e. rw e h.1) (λ e. rw e (h.0, all-drop_first P p xs h.1))

  pub map_first : {B : Type 0} (f : A → B) (l : List A) → map f (take 1 l) ≡ take 1 (map f l)
  map_first f [] = refl
  map_first f (x ∷ xs) = refl
