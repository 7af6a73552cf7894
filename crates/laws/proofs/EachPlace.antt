-- Facts of the places of a list that is written out, one after another: `p & q & r & end`. Assumes nothing.
use mathlib.Core.Path.{◌≡◌, refl, subst}
use Prim.Native.Nat.{ℕ, zero, suc, ◌+◌, ◌<◌}
use native.Mathlib.Omega.{arith}
use mathlib.Core.Bool.{Bool, true}
use mathlib.Core.List.{List, [], ◌∷◌}
use lib.ListN.{length, get_or}
use Rattle.calendar.specs.Calendar.{all_of}
use Rattle.laws.proofs.ListLaws.{and_both}

infixr 4 ◌&◌
-- P holds of the places from b on, with what stands there
pub data Each {A : Type 0} (P : ℕ → A → Type 0) : ℕ → List A → Type 0 where
  end : {b : ℕ} → Each P b []
  ◌&◌ : {b : ℕ} {x : A} {xs : List A} → P b x → Each P (suc b) xs → Each P b (x ∷ xs)

each_from : {A : Type 0} (P : ℕ → A → Type 0) (d : A) (b : ℕ) (xs : List A) → Each P b xs → (j m : ℕ) → b + j ≡ m → j < length xs → P m (get_or xs j d)
each_from P d b [] h j m is p = absurd (omega arith)
each_from P d b (x ∷ xs) (h & hs) zero m is p = let e : b ≡ m = omega arith in subst (λ (n : ℕ). P n x) e h
each_from P d b (x ∷ xs) (h & hs) (suc j) m is p = each_from P d (suc b) xs hs j m (omega arith) (omega arith)

pub each_at : {A : Type 0} (P : ℕ → A → Type 0) (d : A) (xs : List A) → Each P 0 xs → (m : ℕ) → m < length xs → P m (get_or xs m d)
each_at P d xs h m p = each_from P d 0 xs h m m (omega arith) p

-- every test of a list passes
pub passed : (bs : List Bool) → Each (λ _ b. b ≡ true) 0 bs → all_of bs ≡ true
passed bs h = from 0 bs h
  where
    from : (n : ℕ) (cs : List Bool) → Each (λ _ b. b ≡ true) n cs → all_of cs ≡ true
    from n [] k = refl
    from n (b ∷ cs) (k & ks) = and_both b (all_of cs) k (from (suc n) cs ks)
