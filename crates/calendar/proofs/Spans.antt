-- Laws of spans, years or months that follow one another, given by their lengths: the days before a span, and the span in which a day lies.
-- By recursion on the list. Assumes nothing.
use mathlib.Core.Bool.{Bool, true, false, cond}
use mathlib.Core.List.{List, [], ◌∷◌}
use mathlib.Core.Path.{◌≡◌, refl}
use Prim.Native.Nat.{ℕ, zero, suc, ◌+◌, ◌-◌, ◌≤◌, ◌<◌}
use native.Mathlib.Nat.{zero-add}
use native.Mathlib.Numerals.{add-one}
use native.Mathlib.Omega.{arith}
use lib.Dec.{ltb}
use lib.ListN.{length, get_or}
use borrow.Author.Tests.{ltb-true, ltb-false, lt-ltb, le-ltb}
use Rattle.calendar.specs.Calendar.{total, before, span_of}

-- one span more
pub before_more : (spans : List ℕ) (i : ℕ) → before spans (suc i) ≡ before spans i + get_or spans i 0
before_more [] zero = refl
before_more [] (suc i) = refl
before_more (x ∷ xs) zero = omega arith
before_more (x ∷ xs) (suc i) = omega (arith, before_more xs i)

pub before-next : (spans : List ℕ) (i : ℕ) → before spans (i + 1) ≡ before spans i + get_or spans i 0
before-next spans i = rw add-one (before_more spans i)

-- a span that starts by day n, before the end, is one of the spans
pub before-is : (spans : List ℕ) (i n : ℕ) → n < total spans → before spans i ≤ n → i < length spans
before-is [] i n h p = omega arith
before-is (x ∷ xs) zero n h p = omega arith
before-is (x ∷ xs) (suc i) n h p = omega (arith, before-is xs i (n - x) (omega arith) (omega arith))

-- a span ends where all end, or before
pub before-within : (spans : List ℕ) (i : ℕ) → before spans i + get_or spans i 0 ≤ total spans
before-within [] zero = omega arith
before-within [] (suc i) = omega arith
before-within (x ∷ xs) zero = omega arith
before-within (x ∷ xs) (suc i) = omega (arith, before-within xs i)

-- day r of span i lies in span i
pub span_of-at : (spans : List ℕ) (i r : ℕ) → r < get_or spans i 0 → span_of spans (before spans i + r) ≡ i
span_of-at [] i r h = omega arith
span_of-at (x ∷ xs) zero r h = simp (zero-add, lt-ltb r x h)
span_of-at (x ∷ xs) (suc i) r h =
    let past : x ≤ x + before xs i + r = omega arith in
    let rest : x + before xs i + r - x ≡ before xs i + r = omega arith in
    rw (le-ltb (x + before xs i + r) x past, rest, span_of-at xs i r h)

-- day n lies in span i
pub record Lies (spans : List ℕ) (n i : ℕ) : Type 0 where
  pub from : before spans i ≤ n
  pub to : n < before spans i + get_or spans i 0
  pub is : i < length spans

pub span_of-lies : (spans : List ℕ) (n : ℕ) → n < total spans → Lies spans n (span_of spans n)
span_of-lies [] n h = omega arith
span_of-lies (x ∷ xs) n h = go (ltb n x) refl (λ p. span_of-lies xs (n - x) (omega arith))
  where
    go : (b : Bool) → ltb n x ≡ b → (x ≤ n → Lies xs (n - x) (span_of xs (n - x))) → Lies (x ∷ xs) n (cond b 0 (suc (span_of xs (n - x))))
    go true e later = omega (arith, ltb-true n x e)
    go false e later = omega (arith, ltb-false n x e, later (ltb-false n x e))

pub ruleset spans = (before-next, before-within)
