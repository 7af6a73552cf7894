-- Laws of Boolean tests and of lists of them, by cases on the tests. Assumes nothing.
use Prim.Native.Nat.{ℕ, zero, suc}
use mathlib.Core.Path.{◌≡◌, refl, sym, ap, ◌∙◌}
use mathlib.Core.Bool.{Bool, true, false, not, ◌&&◌, and-true, and-false, and_assoc}
use mathlib.Core.List.{List, [], ◌∷◌}
use native.Mathlib.Omega.{arith}
use lib.ListN.{get_or}
use lib.Bits.{bit_or, or_add_and, and_le_l, and_le_r}
use lib.Dec.{eqb}
use borrow.Author.Tests.{eqb-true, eq-eqb, not-true, not-false}
use Rattle.calendar.specs.Calendar.{all_of}
use Rattle.laws.proofs.ListLaws.{cases, clash, both, and_both}
use Rattle.word_checks.specs.Tested.{all_zero}

-- what a call said of a test, and which way the test went
pub passed : {a b : Bool} → a ≡ b → not a ≡ false → b ≡ true
passed {a} e h = sym e ∙ not-false a h

pub failed : {a b : Bool} → a ≡ b → not a ≡ true → b ≡ false
failed {a} e h = sym e ∙ not-true a h

-- a test that cannot have passed
pub never : (a : Bool) → (a ≡ true → ⊥) → false ≡ a
never a f = cases a (λ e. absurd (f e)) (λ e. sym e)

-- two tests that pass together are equal
pub same : (a b : Bool) → (a ≡ true → b ≡ true) → (b ≡ true → a ≡ true) → a ≡ b
same true b f g = sym (f refl)
same false true f g = g refl
same false false f g = refl

-- a test of the list fails
pub fails : (l : List Bool) (k : ℕ) → get_or l k true ≡ false → false ≡ all_of l
fails [] k e = clash e
fails (b ∷ bs) zero e = rw e
fails (b ∷ bs) (suc k) e = sym (and-false b) ∙ ap (λ (x : Bool). b && x) (fails bs k e)

pub exchange : (a b c d : Bool) → ((a && b) && (c && d)) ≡ ((a && c) && (b && d))
exchange true true c d = refl
exchange true false true d = refl
exchange true false false d = refl
exchange false b c d = refl

grouped : (p a b c : Bool) → (((p && a) && b) && c) ≡ (p && (a && (b && (c && true))))
grouped true true true c = sym (and-true c)
grouped true true false c = refl
grouped true false b c = refl
grouped false a b c = refl

-- two numbers are zero where their bits together are
pub or-none : (a b : ℕ) → bit_or a b ≡ 0 → (a ≡ 0) × (b ≡ 0)
or-none a b z =
    let s = or_add_and a b in
    let l = and_le_l a b in
    let r = and_le_r a b in
    (omega arith, omega arith)

pub or-both : (a b : ℕ) → eqb (bit_or a b) 0 ≡ (eqb a 0 && eqb b 0)
or-both a b =
    same (eqb (bit_or a b) 0) (eqb a 0 && eqb b 0)
    (λ e.
    let z = or-none a b (eqb-true (bit_or a b) 0 e) in
    and_both (eqb a 0) (eqb b 0) (eq-eqb a 0 z.0) (eq-eqb b 0 z.1))
    (λ e.
    let h = both (eqb a 0) (eqb b 0) e in
    rw (eqb-true a 0 h.0, eqb-true b 0 h.1))

-- and three, and seven
pub or-zero : (a b c : ℕ) → eqb (bit_or (bit_or a b) c) 0 ≡ all_zero a b c
or-zero a b c = or-both (bit_or a b) c ∙ ap (λ (x : Bool). x && eqb c 0) (or-both a b) ∙ grouped true (eqb a 0) (eqb b 0) (eqb c 0)

pub or-zeros : (x a b c d e f : ℕ)
    → eqb (bit_or (bit_or (bit_or (bit_or (bit_or (bit_or x a) b) c) d) e) f) 0 ≡ (eqb x 0 && (all_zero a b c && all_zero d e f))
or-zeros x a b c d e f =
    let xabc = bit_or (bit_or (bit_or x a) b) c in
    three xabc d e f
    ∙ ap (λ (y : Bool). y && all_zero d e f) (three x a b c)
    ∙ and_assoc (eqb x 0) (all_zero a b c) (all_zero d e f)
  where
    three : (x a b c : ℕ) → eqb (bit_or (bit_or (bit_or x a) b) c) 0 ≡ (eqb x 0 && all_zero a b c)
    three x a b c =
        or-both (bit_or (bit_or x a) b) c
        ∙ ap (λ (y : Bool). y && eqb c 0) (or-both (bit_or x a) b ∙ ap (λ (y : Bool). y && eqb b 0) (or-both x a))
        ∙ grouped (eqb x 0) (eqb a 0) (eqb b 0) (eqb c 0)
