-- A walk along links that ends at 0 after c steps meets no slot twice: how many steps it is to the end depends on the slot alone, so a slot
-- that came twice would have two such numbers. Assumes nothing.
use Prim.Native.Nat.{ℕ, zero, suc, ◌≤◌, ◌<◌}
use mathlib.Core.Path.{◌≡◌, refl, sym, ap, ◌∙◌, subst}
use mathlib.Core.List.{List, [], ◌∷◌}
use native.Mathlib.Omega.{arith}
use lib.ListN.{length}
use lib.Dec.{eqb, leb}
use borrow.Author.Tests.{eqb-true, leb-true, leb-false}
use Rattle.model.specs.Lists.{All}
use Rattle.model.specs.declared.Chain.{Chain}
use Rattle.model.specs.State.{Link}
use Rattle.model.specs.Words.{along, accumulated, links_from, wait_of, next_of}
use Rattle.laws.proofs.ListLaws.{cases}
use Rattle.walks.proofs.CountsAddUp.{times}

module _ (next : ℕ → ℕ) where
  -- c steps from slot i lead to 0, and no fewer
  abbrev pub Ends : ℕ → ℕ → Type 0
  Ends zero i = i ≡ 0
  Ends (suc c) i = (1 ≤ i) × Ends c (next i)

  ends_same : (c d i : ℕ) → Ends c i → Ends d i → c ≡ d
  ends_same zero zero i a b = refl
  ends_same zero (suc d) i a b = absurd (omega (arith, a, b.0))
  ends_same (suc c) zero i a b = absurd (omega (arith, b, a.0))
  ends_same (suc c) (suc d) i a b = ap suc (ends_same c d (next i) a.1 b.1)

  pub along-first : (f i : ℕ) → 1 ≤ i → along next (suc f) i ≡ i ∷ along next f (next i)
  along-first f zero h = absurd (omega arith)
  along-first f (suc i) h = refl

  pub along-zero : (f : ℕ) → along next f 0 ≡ []
  along-zero zero = refl
  along-zero (suc f) = refl

  -- more fuel than steps changes nothing
  pub along-more : (c f i : ℕ) → Ends c i → c ≤ f → along next f i ≡ along next c i
  along-more zero f i e h = rw e (along-zero f)
  along-more (suc c) zero i e h = absurd (omega arith)
  along-more (suc c) (suc f) i e h =
      along-first f i e.0 ∙ ap {B = List ℕ} (λ l. i ∷ l) (along-more c f (next i) e.1 (omega arith)) ∙ sym (along-first c i e.0)

  pub ends-length : (c i : ℕ) → Ends c i → length (along next c i) ≡ c
  ends-length zero i e = refl
  ends-length (suc c) i e = rw (along-first c i e.0) (ap suc (ends-length c (next i) e.1))

  -- one step more finds nothing more: the walk has ended
  pub ends_of : (f i : ℕ) → length (along next (suc f) i) ≤ f → Ends (length (along next f i)) i
  ends_of zero zero h = refl
  ends_of zero (suc i) h = absurd (omega arith)
  ends_of (suc f) zero h = refl
  ends_of (suc f) (suc i) h = (omega arith, ends_of f (next (suc i)) (omega arith))

  -- from a slot that the walk meets it is to the end as many steps as from the first, or fewer
  ends-from : (c i x : ℕ) → Ends c i → 0 < times x (along next c i) → (d : ℕ) × ((d ≤ c) × Ends d x)
  ends-from zero i x e h = absurd (omega arith)
  ends-from (suc c) i x e h =
      let k : 0 < times x (i ∷ along next c (next i)) = rw (along-first c i e.0) at h in
      cases (eqb i x)
      (λ q. (suc c, (omega arith, subst (Ends (suc c)) (eqb-true i x q) e)))
      (λ q.
      let r = ends-from c (next i) x e.1 (rw q at k) in
      (r.0, (omega (arith, r.1.0), r.1.1)))

  pub once : (c i x : ℕ) → Ends c i → times x (along next c i) ≤ 1
  once zero i x e = omega arith
  once (suc c) i x e =
      rw (along-first c i e.0)
      (cases (eqb i x)
      (λ q. rw q (
      cases (leb 1 (times x (along next c (next i))))
      (λ m.
      let r = ends-from c (next i) x e.1 (leb-true 1 (times x (along next c (next i))) m) in
      absurd (omega (arith, r.1.0, ends_same (suc c) r.0 x (subst (Ends (suc c)) (eqb-true i x q) e) r.1.1)))
      (λ m. omega (arith, leb-false 1 (times x (along next c (next i))) m))))
      (λ q. rw q (once c (next i) x e.1)))

  pub along-low : (f i : ℕ) → All (λ x. 1 ≤ x) (along next f i)
  along-low zero i = tt
  along-low (suc f) zero = tt
  along-low (suc f) (suc i) = (omega arith, along-low f (next (suc i)))

-- ---- the links of a chain, with what they wait for

module _ (k : Chain) (t : List ℕ) where
  abbrev link_at : ℕ → ℕ → Link
  link_at b i = record { slot = i; wait = accumulated k b (wait_of t i) }

  pub links-first : (f b i : ℕ) → 1 ≤ i → links_from k t (suc f) b i ≡ link_at b i ∷ links_from k t f (accumulated k b (wait_of t i)) (next_of t i)
  links-first f b zero h = absurd (omega arith)
  links-first f b (suc i) h = refl

  pub links-zero : (f b : ℕ) → links_from k t f b 0 ≡ []
  links-zero zero b = refl
  links-zero (suc f) b = refl

  pub links-more : (c f b i : ℕ) → Ends (next_of t) c i → c ≤ f → links_from k t f b i ≡ links_from k t c b i
  links-more zero f b i e h = rw e (links-zero f b)
  links-more (suc c) zero b i e h = absurd (omega arith)
  links-more (suc c) (suc f) b i e h =
      links-first f b i e.0
      ∙ ap {B = List Link} (λ l. link_at b i ∷ l) (links-more c f (accumulated k b (wait_of t i)) (next_of t i) e.1 (omega arith))
      ∙ sym (links-first c b i e.0)
