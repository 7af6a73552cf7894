-- How far the words are right (`right`): one rule after another, one list of rules after another, and runs of one rule. Assumes nothing.
use mathlib.Core.Path.{◌≡◌, refl, sym, ap, ◌∙◌}
use Prim.Native.Nat.{ℕ, zero, suc, ◌+◌, ◌≤◌, ◌<◌}
use native.Mathlib.Omega.{arith}
use mathlib.Core.Bool.{Bool, true, false, cond, ◌&&◌}
use mathlib.Core.List.{List, [], ◌∷◌, ◌++◌}
use lib.ListN.{length, get_or, drop, replicate, drop_of_length-le, length-append}
use lib.Seq.{drop-cons}
use lib.Dec.{leb, ltb, eqb}
use borrow.Author.Tests.{ltb-true, ltb-false, leb-true, le-ltb, lt-ltb, le-leb, lt-leb, eqb-true, eqb-false}
use Rattle.laws.proofs.ListLaws.{cases, both, and_both}
use Rattle.recording.specs.Format.{Rule, within, anything, right}

-- ---- never past the rules, nor past the words

step-le : (b : Bool) {m n : ℕ} → m ≤ n → cond b (suc m) 0 ≤ suc n
step-le true h = omega arith
step-le false h = omega arith

pub right-rules : (rules : List Rule) (ws : List ℕ) → right rules ws ≤ length rules
unfolding right
right-rules [] ws = omega arith
right-rules (rule ∷ rules) [] = omega arith
right-rules (rule ∷ rules) (w ∷ ws) = step-le (rule w) (right-rules rules ws)

pub right-words : (rules : List Rule) (ws : List ℕ) → right rules ws ≤ length ws
unfolding right
right-words [] ws = omega arith
right-words (rule ∷ rules) [] = omega arith
right-words (rule ∷ rules) (w ∷ ws) = step-le (rule w) (right-words rules ws)

-- ---- one list of rules after another

step-on : (b : Bool) {r n q : ℕ} (s : ℕ) → (r ≡ n → q ≡ n + s) → cond b (suc r) 0 ≡ suc n → cond b (suc q) 0 ≡ suc n + s
step-on true {r} {n} s f e = let z : r ≡ n = omega arith in let g = f z in omega arith
step-on false s f e = absurd (omega arith)

pub right-on : (xs ys : List Rule) (ws : List ℕ) → right xs ws ≡ length xs → right (xs ++ ys) ws ≡ length xs + right ys (drop (length xs) ws)
unfolding right
right-on [] ys ws e = omega arith
right-on (x ∷ xs) ys [] e = absurd (omega arith)
right-on (x ∷ xs) ys (w ∷ ws) e = step-on (x w) (right ys (drop (length xs) ws)) (right-on xs ys ws) e

step-off : (b : Bool) {r n q : ℕ} → (r < n → q ≡ r) → cond b (suc r) 0 < suc n → cond b (suc q) 0 ≡ cond b (suc r) 0
step-off true {r} {n} f e = let z : r < n = omega arith in let g = f z in omega arith
step-off false f e = refl

pub right-off : (xs ys : List Rule) (ws : List ℕ) → right xs ws < length xs → right (xs ++ ys) ws ≡ right xs ws
unfolding right
right-off [] ys ws e = absurd (omega arith)
right-off (x ∷ xs) ys [] e = refl
right-off (x ∷ xs) ys (w ∷ ws) e = step-off (x w) (right-off xs ys ws) e

-- ---- one rule, at a position

module _ (rule : Rule) (rules : List Rule) where
  right-true : (w : ℕ) (ws : List ℕ) → rule w ≡ true → right (rule ∷ rules) (w ∷ ws) ≡ suc (right rules ws)
  unfolding right
  right-true w ws e = ap (λ (b : Bool). cond b (suc (right rules ws)) 0) e

  right-false : (w : ℕ) (ws : List ℕ) → rule w ≡ false → right (rule ∷ rules) (w ∷ ws) ≡ 0
  unfolding right
  right-false w ws e = ap (λ (b : Bool). cond b (suc (right rules ws)) 0) e

  right-none : right (rule ∷ rules) [] ≡ 0
  unfolding right
  right-none = refl

  pub passes : (ws : List ℕ) (p : ℕ) → (ltb p (length ws) && rule (get_or ws p 0)) ≡ true
      → right (rule ∷ rules) (drop p ws) ≡ suc (right rules (drop (suc p) ws))
  passes ws p e =
      let t = both (ltb p (length ws)) (rule (get_or ws p 0)) e in
      ap (right (rule ∷ rules)) (drop-cons ws p 0 (ltb-true p (length ws) t.0)) ∙ right-true (get_or ws p 0) (drop (suc p) ws) t.1

  pub fails : (ws : List ℕ) (p : ℕ) → (ltb p (length ws) && rule (get_or ws p 0)) ≡ false → right (rule ∷ rules) (drop p ws) ≡ 0
  fails ws p e =
      cases (ltb p (length ws))
      (λ h. ap (right (rule ∷ rules)) (drop-cons ws p 0 (ltb-true p (length ws) h))
      ∙ right-false (get_or ws p 0) (drop (suc p) ws) (ap (λ (b : Bool). b && rule (get_or ws p 0)) (sym h) ∙ e))
      (λ h. ap (right (rule ∷ rules)) (drop_of_length-le ws (ltb-false p (length ws) h)) ∙ right-none)

-- ---- words of any value

pub any-all : (m : ℕ) (ws : List ℕ) → m ≤ length ws → right (replicate m anything) ws ≡ m
unfolding right
any-all zero ws h = refl
any-all (suc m) [] h = absurd (omega arith)
any-all (suc m) (w ∷ ws) h = let ih = any-all m ws (omega arith) in omega arith

pub any-short : (m : ℕ) (ws : List ℕ) → length ws ≤ m → right (replicate m anything) ws ≡ length ws
unfolding right
any-short zero [] h = refl
any-short zero (w ∷ ws) h = absurd (omega arith)
any-short (suc m) [] h = refl
any-short (suc m) (w ∷ ws) h = let ih = any-short m ws (omega arith) in omega arith

-- ---- the test of a word, as the code makes it

pub within-true : (least most w : ℕ) → within least most w ≡ true → (least ≤ w) × (w ≤ most)
within-true least most w e = let t = both (leb least w) (leb w most) e in (leb-true least w t.0, leb-true w most t.1)

pub true-within : (least most w : ℕ) → least ≤ w → w ≤ most → within least most w ≡ true
true-within least most w low high = and_both (leb least w) (leb w most) (le-leb least w low) (le-leb w most high)

module _ (ws : List ℕ) (p : ℕ) where
  pub test-missing : (b : Bool) → length ws ≤ p → false ≡ (ltb p (length ws) && b)
  test-missing b h = ap (λ (x : Bool). x && b) (sym (le-ltb p (length ws) h))

  module _ (least most w : ℕ) (h : p < length ws) (e : w ≡ get_or ws p 0) where
    there : within least most w ≡ (ltb p (length ws) && within least most (get_or ws p 0))
    there = ap (within least most) e ∙ ap (λ (x : Bool). x && within least most (get_or ws p 0)) (sym (lt-ltb p (length ws) h))

    pub test_low : w < least → false ≡ (ltb p (length ws) && within least most (get_or ws p 0))
    test_low l = ap (λ (x : Bool). x && leb w most) (sym (lt-leb least w l)) ∙ there

    pub test-most : least ≤ w → leb w most ≡ (ltb p (length ws) && within least most (get_or ws p 0))
    test-most l = ap (λ (x : Bool). x && leb w most) (sym (le-leb least w l)) ∙ there

-- ---- where every word is right

pub step-true : (b : Bool) {r n : ℕ} → cond b (suc r) 0 ≡ suc n → (b ≡ true) × (r ≡ n)
step-true true e = (refl, omega arith)
step-true false e = absurd (omega arith)

pub right-at : (rules : List Rule) (ws : List ℕ) → right rules ws ≡ length rules → (i : ℕ) → i < length rules → get_or rules i anything (get_or ws i 0) ≡ true
unfolding right
right-at [] ws e i h = absurd (omega arith)
right-at (rule ∷ rules) [] e i h = absurd (omega arith)
right-at (rule ∷ rules) (w ∷ ws) e zero h = (step-true (rule w) e).0
right-at (rule ∷ rules) (w ∷ ws) e (suc i) h = right-at rules ws (step-true (rule w) e).1 i (omega arith)

pub right-whole : (xs ys : List Rule) (ws : List ℕ) → right (xs ++ ys) ws ≡ length (xs ++ ys)
    → (right xs ws ≡ length xs) × (right ys (drop (length xs) ws) ≡ length ys)
right-whole xs ys ws e =
    let l = length-append xs ys in
    cases (eqb (right xs ws) (length xs))
    (λ t. let a = eqb-true (right xs ws) (length xs) t in let b = right-on xs ys ws a in (a, omega arith))
    (λ t. let a = eqb-false (right xs ws) (length xs) t in
    let m = right-rules xs ws in
    let b = right-off xs ys ws (omega arith) in
    absurd (omega arith))

-- ---- words behind those that have rules

pub right-front : (rules : List Rule) (xs ys : List ℕ) → length rules ≤ length xs → right rules (xs ++ ys) ≡ right rules xs
unfolding right
right-front [] xs ys h = refl
right-front (rule ∷ rules) [] ys h = absurd (omega arith)
right-front (rule ∷ rules) (x ∷ xs) ys h = ap (λ (n : ℕ). cond (rule x) (suc n) 0) (right-front rules xs ys (omega arith))
