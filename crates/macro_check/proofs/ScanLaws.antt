-- The blocks that a pass notes: a repeat adds one, an end takes the innermost off, any other step leaves them; and so the pass stands one place further.
-- Assumes nothing.
use Prim.Native.Nat.{ℕ, zero, suc, ◌+◌, ◌-◌, ◌≤◌, ◌<◌}
use mathlib.Core.Path.{◌≡◌, refl, sym, ap, ◌∙◌}
use mathlib.Core.Bool.{cond}
use mathlib.Core.List.{List, [], ◌∷◌, ◌++◌, map}
use lib.ListN.{length, get_or, set, take, replicate, length-append}
use lib.Seq.{length-take-le}
use lib.Dec.{ltb}
use native.Mathlib.Omega.{arith}
use borrow.Author.Tests.{ltb-true, ltb-false, lt-ltb, le-ltb}
use Rattle.laws.proofs.ListLaws.{cases}
use Rattle.macro_steps.specs.Steps.{count, kind_at}
use Rattle.macro_check.specs.Blocks.{opened, blocks_of}
use Rattle.macro_check.specs.Parts.{Scanning}
use Rattle.macro_check.proofs.OpenLaws.{opened-none, open_is, close-is, keep-is}

-- ---- the words of the blocks

abbrev behind : ℕ → ℕ
behind p = p + 1

one_more : (os : List ℕ) (p k : ℕ)
    → set (map behind os ++ replicate (suc k) 0) (length os) (p + 1) ≡ map behind (os ++ p ∷ []) ++ replicate k 0
one_more [] p k = refl
one_more (o ∷ os) p k = ap (λ (l : List ℕ). (o + 1) ∷ l) (one_more os p k)

one_less : (o : ℕ) (os : List ℕ) (k : ℕ)
    → set (map behind (o ∷ os) ++ replicate k 0) (length os) 0 ≡ map behind (take (length os) (o ∷ os)) ++ replicate (suc k) 0
one_less o [] k = refl
one_less o (q ∷ os) k = ap (λ (l : List ℕ). (o + 1) ∷ l) (one_less q os k)

pub blocks_more : (os : List ℕ) (p : ℕ) → length os < 8 → set (blocks_of os) (length os) (p + 1) ≡ blocks_of (os ++ p ∷ [])
unfolding blocks_of
blocks_more os p h =
    let n : length (os ++ p ∷ []) ≡ length os + 1 = length-append os (p ∷ []) in
    let e : 8 - length os ≡ suc (8 - length (os ++ p ∷ [])) = omega (arith, n) in
    ap (λ (k : ℕ). set (map behind os ++ replicate k 0) (length os) (p + 1)) e ∙ one_more os p (8 - length (os ++ p ∷ []))

pub blocks-less : (os : List ℕ) → 0 < length os → length os ≤ 8 → set (blocks_of os) (length os - 1) 0 ≡ blocks_of (take (length os - 1) os)
unfolding blocks_of
blocks-less [] h l = absurd (omega arith)
blocks-less (o ∷ os) h l =
    let i : suc (length os) - 1 ≡ length os = omega arith in
    let n : length (take (suc (length os) - 1) (o ∷ os)) ≡ suc (length os) - 1 = length-take-le (suc (length os) - 1) (o ∷ os) (omega arith) in
    let e : suc (8 - suc (length os)) ≡ 8 - length (take (suc (length os) - 1) (o ∷ os)) = omega (arith, n) in
    ap (λ (j : ℕ). set (map behind (o ∷ os) ++ replicate (8 - suc (length os)) 0) j 0) i
    ∙ one_less o os (8 - suc (length os))
    ∙ ap (λ (j : ℕ). map behind (take j (o ∷ os)) ++ replicate (suc (8 - suc (length os))) 0) (sym i)
    ∙ ap (λ (k : ℕ). map behind (take (suc (length os) - 1) (o ∷ os)) ++ replicate k 0) e

zero-at : (n j : ℕ) → ◌≡◌ {A = ℕ} (get_or (replicate n 0) j 0) 0
zero-at zero j = refl
zero-at (suc n) zero = refl
zero-at (suc n) (suc j) = zero-at n j

inside : (os : List ℕ) (k j : ℕ) → j < length os → get_or (map behind os ++ replicate k 0) j 0 ≡ get_or os j 0 + 1
inside [] k j h = absurd (omega arith)
inside (o ∷ os) k zero h = refl
inside (o ∷ os) k (suc j) h = inside os k j (omega arith)

outside : (os : List ℕ) (k j : ℕ) → length os ≤ j → get_or (map behind os ++ replicate k 0) j 0 ≡ 0
outside [] k j h = zero-at k j
outside (o ∷ os) k zero h = absurd (omega arith)
outside (o ∷ os) k (suc j) h = outside os k j (omega arith)

-- an open block begins behind its repeat; at a depth that is not open there is none
pub block_at : (os : List ℕ) (j : ℕ) → j < length os → get_or (blocks_of os) j 0 ≡ get_or os j 0 + 1
unfolding blocks_of
block_at os j h = inside os (8 - length os) j h

pub no-block-at : (os : List ℕ) (j : ℕ) → length os ≤ j → get_or (blocks_of os) j 0 ≡ 0
unfolding blocks_of
no-block-at os j h = outside os (8 - length os) j h

no_blocks : replicate 8 0 ≡ blocks_of []
unfolding blocks_of
no_blocks = refl

-- ---- the pass, one place further

pub scan-start : (ws : List ℕ) (place : ℕ) → Scanning ws 0 0 place (replicate 8 0)
scan-start ws place =
    record {
      within = omega arith;
      few = omega arith;
      deep = ap length (opened-none ws);
      before = λ h. no_blocks ∙ ap blocks_of (sym (opened-none ws));
      behind = λ h. let e : 0 ≡ place = omega arith in no_blocks ∙ ap blocks_of (sym (opened-none ws)) ∙ ap (λ (i : ℕ). blocks_of (opened ws i)) e;
    }

module _ {ws : List ℕ} {at depth place : ℕ} {blocks : List ℕ} (s : Scanning ws at depth place blocks) (h : at < count ws) where
  further : (d : ℕ) (bs : List ℕ) → d ≤ 8 → length (opened ws (at + 1)) ≡ d → (at < place → bs ≡ blocks_of (opened ws (at + 1))) → (place ≤ at → bs ≡ blocks)
      → Scanning ws (at + 1) d place bs
  further d bs l n f g =
      record {
        within = omega arith;
        few = l;
        deep = n;
        before = λ b. f (omega arith);
        behind = λ b.
            cases (ltb at place)
            (λ e.
            let a : at < place = ltb-true at place e in
            let is : at + 1 ≡ place = omega arith in f a ∙ ap (λ (i : ℕ). blocks_of (opened ws i)) is)
            (λ e. let a : place ≤ at = ltb-false at place e in g a ∙ s.behind a);
      }

  pub scan-plain : (kind_at ws at ≡ 5 → ⊥) → (kind_at ws at ≡ 6 → ⊥) → Scanning ws (at + 1) depth place blocks
  scan-plain n5 n6 =
      let e : opened ws (at + 1) ≡ opened ws at = keep-is ws at n5 n6 in
      further depth blocks s.few (ap length e ∙ s.deep) (λ a. s.before (omega arith) ∙ ap blocks_of (sym e)) (λ a. refl)

  pub scan-open : kind_at ws at ≡ 5 → depth < 8 → (bs : List ℕ) → bs ≡ cond (ltb at place) (set blocks depth (at + 1)) blocks
      → Scanning ws (at + 1) (depth + 1) place bs
  scan-open k l bs is =
      let e : opened ws (at + 1) ≡ opened ws at ++ at ∷ [] = open_is ws at k in
      let d = s.deep in
      further (depth + 1) bs (omega arith) (ap length e ∙ length-append (opened ws at) (at ∷ []) ∙ ap (λ (n : ℕ). n + 1) d)
      (λ a.
      is ∙ rw (lt-ltb at place a)
      (ap (λ (l : List ℕ). set l depth (at + 1)) (s.before (omega arith))
      ∙ ap (λ (n : ℕ). set (blocks_of (opened ws at)) n (at + 1)) (sym d)
      ∙ blocks_more (opened ws at) at (omega (arith, d))
      ∙ ap blocks_of (sym e)))
      (λ a. is ∙ rw (le-ltb at place a) refl)

module _ {ws : List ℕ} {at depth place : ℕ} {blocks : List ℕ} (s : Scanning ws at (depth + 1) place blocks) (h : at < count ws) where
  pub scan-close : kind_at ws at ≡ 6 → (bs : List ℕ) → bs ≡ cond (ltb at place) (set blocks depth 0) blocks → Scanning ws (at + 1) depth place bs
  scan-close k bs is =
      let e : opened ws (at + 1) ≡ take (length (opened ws at) - 1) (opened ws at) = close-is ws at k in
      let d = s.deep in
      let f = s.few in
      let n : length (opened ws at) - 1 ≡ depth = omega (arith, d) in
      further s h depth bs (omega arith) (ap length e ∙ length-take-le (length (opened ws at) - 1) (opened ws at) (omega arith) ∙ n)
      (λ a.
      is ∙ rw (lt-ltb at place a)
      (ap (λ (l : List ℕ). set l depth 0) (s.before (omega arith))
      ∙ ap (λ (i : ℕ). set (blocks_of (opened ws at)) i 0) (sym n)
      ∙ blocks-less (opened ws at) (omega (arith, d)) (omega (arith, d, f))
      ∙ ap blocks_of (sym e)))
      (λ a. is ∙ rw (le-ltb at place a) refl)
