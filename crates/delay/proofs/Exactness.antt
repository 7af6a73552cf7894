-- A conversion is exact: its ticks are the smallest whole number not below seconds times T, and wherever there is one within the limits it is given.
-- Assumes nothing.
use Prim.Native.Nat.{ℕ, ◌*◌, ◌≤◌, ◌<◌}
use mathlib.Core.Path.{◌≡◌, refl, sym, ap, ◌∙◌}
use mathlib.Core.Bool.{Bool, true, false, not, ◌&&◌}
use lib.Dec.{leb, eqb}
use lib.Ieee.{Float, nan, inf, fin, up, down}
use lib.Ieee.Fits.{up_pos, down_pos}
use lib.IntN.{ℤ}
use native.Mathlib.Nat.{le_antisymm, mul-one}
use native.Mathlib.Omega.{arith}
use borrow.Author.Tests.{le-leb, leb-true, eqb-true, eq-eqb}
use Rattle.laws.proofs.ListLaws.{cases, clash, both}
use Rattle.delay.specs.Seconds.{Conversion, gives, refused, ceil, ticks_of_value, converted}
use Rattle.delay.specs.Exact.{Smallest, TicksOf, Taken, Exact}
use Rattle.delay.proofs.Ceilings.{ceil-least, ceil-enough}
use Rattle.delay.proofs.Values.{same-zero}
use Rattle.delay.proofs.Conversions.{rate-within, no-ticks}

smallest : (a b rate : ℕ) → 0 < b → Smallest a b rate (ceil (a * rate) b)
smallest a b rate h = record { enough = ceil-enough (a * rate) b h; least = λ m. ceil-least (a * rate) b m h }

-- there is one such number
only : (a b rate n : ℕ) → 0 < b → Smallest a b rate n → ceil (a * rate) b ≡ n
only a b rate n h s = le_antisymm (ceil-least (a * rate) b n h s.enough) (s.least (ceil (a * rate) b) (ceil-enough (a * rate) b h))

refusal : (c : Conversion) → c ≡ refused → c.status ≡ 0 → ⊥
refusal c e z = let no : ◌≡◌ {A = ℕ} 10 0 = sym (ap (λ (d : Conversion). d.status) e) ∙ z in omega arith

is_zero : (m : ℕ) (e : ℤ) → eqb (m * up e) 0 ≡ eqb m 0
is_zero m e = same-zero (m * up e) (up e) m 1 (up_pos e) (omega arith) (mul-one (m * up e))

sign-given : (s : Bool) (m : ℕ) (e : ℤ) → (s && not (eqb (m * up e) 0)) ≡ false → s ≡ true → m ≡ 0
sign-given true m e f t = cases (eqb m 0) (eqb-true m 0) (λ n. clash (rw (is_zero m e, n) at f))
sign-given false m e f t = clash (sym t)

sign-found : (s : Bool) (m : ℕ) (e : ℤ) → (s ≡ true → m ≡ 0) → (s && not (eqb (m * up e) 0)) ≡ false
sign-found true m e z = rw (is_zero m e, eq-eqb m 0 (z refl)) refl
sign-found false m e z = refl

value-given : (x : Float) (rate : ℕ) → (ticks_of_value x rate).status ≡ 0
    → TicksOf x rate (ticks_of_value x rate).ticks × ((ticks_of_value x rate).ticks ≤ 4294967295)
unfolding ticks_of_value
value-given nan rate z = absurd (refusal refused refl z)
value-given (inf s) rate z = absurd (refusal refused refl z)
value-given (fin s m e) rate z =
    cases (s && not (eqb (m * up e) 0))
    (λ f. absurd (refusal refused refl (rw f at z)))
    (λ f. rw f
    (cases (leb n 4294967295)
    (λ g. rw g ((sign-given s m e f, smallest (m * up e) (down e) rate (down_pos e)), leb-true n 4294967295 g))
    (λ g. absurd (refusal refused refl (rw (f, g) at z)))))
  where
    n : ℕ
    n = ceil (m * up e * rate) (down e)

value_found : (x : Float) (rate n : ℕ) → TicksOf x rate n → n ≤ 4294967295 → ticks_of_value x rate ≡ gives n
unfolding ticks_of_value
value_found nan rate n t h = absurd t
value_found (inf s) rate n t h = absurd t
value_found (fin s m e) rate n t h =
    rw (sign-found s m e t.0, only (m * up e) (down e) rate n (down_pos e) t.1, le-leb n 4294967295 h) refl

given : (x : Float) (rate : ℕ) → (converted x rate).status ≡ 0 → Taken x rate (converted x rate).ticks
unfolding converted
given x rate z =
    cases (leb 1 rate && leb rate 1000)
    (λ f.
    let v = value-given x rate (rw f at z) in
    let limits = both (leb 1 rate) (leb rate 1000) f in
    rw f (record { has = v.0; few = v.1; low = leb-true 1 rate limits.0; high = leb-true rate 1000 limits.1 }))
    (λ f. absurd (refusal refused refl (rw f at z)))

pub is-exact : (x : Float) (rate : ℕ) → Exact x rate (converted x rate)
is-exact x rate =
    record {
      takes = λ n t. sym (rate-within x rate t.low t.high) ∙ value_found x rate n t.has t.few;
      refuses = λ none.
          cases (eqb (converted x rate).status 0)
          (λ e. absurd (none (converted x rate).ticks (given x rate (eqb-true (converted x rate).status 0 e))))
          (no-ticks x rate);
    }

-- what equals a conversion is exact with it
pub exactly : (x : Float) (rate : ℕ) (c : Conversion) → c ≡ converted x rate → (c ≡ converted x rate) × Exact x rate c
exactly x rate c e = rw e (refl, is-exact x rate)
