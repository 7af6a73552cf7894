-- Lists with Boolean tests, and the order "by a number, the earlier first among equals". Assumes nothing: these are definitions.
use Rattle.std.specs.Prelude.{ℕ, zero, suc, ◌≤◌, min, Bool, true, false, cond, ◌&&◌, ◌||◌, List, [], ◌∷◌, ◌≡◌, leb, eqb}

-- a new element with the number m goes behind one with the number n
abbrev pub goes_behind : ℕ → ℕ → Bool
goes_behind m n = leb n m

-- the least of some numbers, 0 if there are none
abbrev pub least : List ℕ → ℕ
least [] = 0
least (n ∷ []) = n
least (n ∷ m ∷ ms) = min n (least (m ∷ ms))

-- p holds of n numbers from i on
abbrev pub all_from : (ℕ → Bool) → ℕ → ℕ → Bool
all_from p i zero = true
all_from p i (suc n) = p i && all_from p (suc i) n

module _ {A : Type 0} where
  -- the elements that pass the test, in their order
  abbrev pub keep : (A → Bool) → List A → List A
  keep p [] = []
  keep p (x ∷ xs) = cond (p x) (x ∷ keep p xs) (keep p xs)

  -- some element passes the test; every one does
  abbrev pub any : (A → Bool) → List A → Bool
  any p [] = false
  any p (x ∷ xs) = p x || any p xs

  abbrev pub every : (A → Bool) → List A → Bool
  every p [] = true
  every p (x ∷ xs) = p x && every p xs

  -- how many elements pass the test
  abbrev pub count : (A → Bool) → List A → ℕ
  count p [] = zero
  count p (x ∷ xs) = cond (p x) (suc (count p xs)) (count p xs)

  -- all elements but the first that passes the test
  abbrev pub drop_first : (A → Bool) → List A → List A
  drop_first p [] = []
  drop_first p (x ∷ xs) = cond (p x) xs (x ∷ drop_first p xs)

  -- x goes behind every element whose number is not greater than its own
  abbrev pub place : (A → ℕ) → A → List A → List A
  place key x [] = x ∷ []
  place key x (y ∷ ys) = cond (goes_behind (key x) (key y)) (y ∷ place key x ys) (x ∷ y ∷ ys)

  -- P holds of every element
  abbrev pub All : (A → Type 0) → List A → Type 0
  All P [] = Unit {0}
  All P (x ∷ xs) = P x × All P xs

  -- no number is followed by a smaller one
  abbrev pub Sorted : (A → ℕ) → List A → Type 0
  Sorted key [] = Unit {0}
  Sorted key (x ∷ xs) = All (λ y. key x ≤ key y) xs × Sorted key xs

  -- `m` has just the elements of `l`, by their numbers, and those with equal numbers in the order that they have in `l`
  pub record InOrder (key : A → ℕ) (l m : List A) : Type 0 where
    pub rising : Sorted key m
    pub same : (k : ℕ) → keep (λ x. eqb (key x) k) m ≡ keep (λ x. eqb (key x) k) l
