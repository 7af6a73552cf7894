-- The repeats that are open before a place: how a step changes them, that their number is the depth of nesting, and so that a passed macro has room for
-- one more at a repeat and one to close at an end. Assumes nothing.
use Prim.Native.Nat.{ℕ, zero, suc, ◌+◌, ◌-◌, ◌≤◌, ◌<◌}
use mathlib.Core.Path.{◌≡◌, refl, sym, ap, ◌∙◌, subst}
use mathlib.Core.Bool.{true}
use mathlib.Core.List.{List, [], ◌∷◌, ◌++◌}
use lib.ListN.{length, take, length-append}
use lib.Seq.{length-take-le}
use lib.Dec.{eqb, ltb}
use native.Mathlib.Numerals.{add-one}
use native.Mathlib.Omega.{arith}
use borrow.Author.Tests.{ne_eqb, ltb-true}
use Rattle.laws.proofs.ListLaws.{cases, both}
use Rattle.macro_steps.specs.Steps.{count, kind_at}
use Rattle.macro_check.specs.Passed.{allowed, deeper, nested, passed}
use Rattle.macro_check.specs.Parts.{from}
use Rattle.macro_check.specs.Blocks.{reopened, opened}
use Rattle.macro_check.proofs.BlockLaws.{from_cons, inside, passed-nested}

-- ---- the depth

length-reopened : (k at : ℕ) (os : List ℕ) → length (reopened k at os) ≡ deeper k (length os)
length-reopened k at os =
    cases (eqb k 5)
    (λ e. rw e (length-append os (at ∷ [])))
    (λ e. rw e (cases (eqb k 6) (λ f. rw f (length-take-le (length os - 1) os (omega arith))) (λ f. rw f)))

module _ (d k : ℕ) (ks : List ℕ) (n : nested d (k ∷ ks) ≡ true) where
  nested-open : k ≡ 5 → (d < 8) × (nested (d + 1) ks ≡ true)
  unfolding nested
  nested-open e = let b = both (ltb d 8) (nested (d + 1) ks) (rw e at n) in (ltb-true d 8 b.0, b.1)

  nested-end : k ≡ 6 → (0 < d) × (nested (d - 1) ks ≡ true)
  unfolding nested
  nested-end e = let b = both (ltb 0 d) (nested (d - 1) ks) (rw e at n) in (ltb-true 0 d b.0, b.1)

  nested-deeper : nested (deeper k d) ks ≡ true
  unfolding nested
  nested-deeper = (both (allowed k d) (nested (deeper k d) ks) n).1

module _ (ws : List ℕ) (pass : passed ws ≡ true) where
  pub nested-at : (i : ℕ) → i ≤ count ws → nested (length (opened ws i)) (from ws i) ≡ true
  unfolding opened
  nested-at zero h = passed-nested ws pass
  nested-at (suc i) h =
      let n : nested (length (opened ws i)) (kind_at ws i ∷ from ws (i + 1)) ≡ true =
      sym (ap (nested (length (opened ws i))) (from_cons ws i h)) ∙ nested-at i (omega arith) in
      rw (length-reopened (kind_at ws i) i (opened ws i))
      (subst (λ (j : ℕ). nested (deeper (kind_at ws i) (length (opened ws i))) (from ws j) ≡ true) (add-one i)
      (nested-deeper (length (opened ws i)) (kind_at ws i) (from ws (i + 1)) n))

  nested-here : (i : ℕ) → i < count ws → nested (length (opened ws i)) (kind_at ws i ∷ from ws (i + 1)) ≡ true
  nested-here i h = sym (ap (nested (length (opened ws i))) (from_cons ws i h)) ∙ nested-at i (omega arith)

  pub room-to-open : (i : ℕ) → kind_at ws i ≡ 5 → length (opened ws i) < 8
  room-to-open i e =
      (nested-open (length (opened ws i)) (kind_at ws i) (from ws (i + 1)) (nested-here i (inside ws i (λ z. omega arith))) e).0

  pub one-to-end : (i : ℕ) → kind_at ws i ≡ 6 → 0 < length (opened ws i)
  one-to-end i e =
      (nested-end (length (opened ws i)) (kind_at ws i) (from ws (i + 1)) (nested-here i (inside ws i (λ z. omega arith))) e).0

pub opened-next : (ws : List ℕ) (i : ℕ) → opened ws (i + 1) ≡ reopened (kind_at ws i) i (opened ws i)
unfolding opened
opened-next ws i = ap (opened ws) (add-one i)

pub opened-none : (ws : List ℕ) → opened ws 0 ≡ []
unfolding opened
opened-none ws = refl

-- ---- the repeats open after a step

module _ (ws : List ℕ) (p : ℕ) where
  pub open_is : kind_at ws p ≡ 5 → opened ws (p + 1) ≡ opened ws p ++ p ∷ []
  open_is e = opened-next ws p ∙ rw e refl

  pub close-is : kind_at ws p ≡ 6 → opened ws (p + 1) ≡ take (length (opened ws p) - 1) (opened ws p)
  close-is e = opened-next ws p ∙ rw e refl

  pub keep-is : (kind_at ws p ≡ 5 → ⊥) → (kind_at ws p ≡ 6 → ⊥) → opened ws (p + 1) ≡ opened ws p
  keep-is n5 n6 = opened-next ws p ∙ simp (ne_eqb _ _ n5, ne_eqb _ _ n6)
