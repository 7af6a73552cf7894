-- The clock of a history, counted in ticks, and the second and ticks of the table's clock step together. Assumes nothing.
use mathlib.Core.Path.{◌≡◌, refl, sym, ap, ◌∙◌}
use Prim.Native.Nat.{ℕ, suc, ◌+◌, ◌-◌, ◌*◌, ◌≤◌, ◌<◌, min}
use native.Mathlib.Nat.{mul-le-mul_right, suc-mul}
use native.Mathlib.Omega.{arith}
use mathlib.Core.Bool.{Bool, true, false, cond}
use mathlib.Core.Option.{Option, none, some}
use mathlib.Core.List.{List, [], ◌∷◌}
use lib.IntN.{ℤ, pos, ◌-ℤ◌}
use lib.Dec.{leb, ltb}
use borrow.Author.Tests.{leb-true, leb-false, le-leb, lt-leb, ltb-true, ltb-false}
use Rattle.model.specs.State.{Clock}
use Rattle.calendar.specs.Calendar.{last_second}
use Rattle.model.specs.Directives.{clock_step}
use Rattle.demand.specs.History.{Event, laid_out_for, changes, deletes, one_tick, clock_set_to, initiates, serves_front, nothing, per_second, clock_after}
use Rattle.laws.proofs.ListLaws.{cases}

-- one tick later, up to the last tick of the last second
abbrev pub onward : ℕ → Option ℕ → Option ℕ
onward t none = none
onward t (some k) = some (min (suc k) (suc last_second * t - 1))

pub one_later : (n : ℕ) (h : List Event) → clock_after (suc n) h ≡ onward (per_second h) (clock_after n h)
one_later n [] = refl
one_later n (laid_out_for t l ∷ h) = refl
one_later n (changes i s ∷ h) = one_later n h
one_later n (deletes i ∷ h) = one_later n h
one_later n (one_tick ∷ h) = one_later (suc n) h
one_later n (clock_set_to d m ∷ h) = ap {B = Option ℕ} some (omega arith)
one_later n (initiates ∷ h) = one_later n h
one_later n (serves_front p ∷ h) = one_later n h
one_later n (nothing ∷ h) = one_later n h

-- the clock of a table, counted in ticks
abbrev pub standing : Clock → Option ℕ
standing c = cond c.is_set (some (c.second * c.per_second + c.ticks_into)) none

-- how far it moved apart two such, 0 where it was unset
abbrev pub apart : Option ℕ → Option ℕ → ℤ
apart none new = pos 0
apart (some old) none = pos 0
apart (some old) (some new) = pos new -ℤ pos old

-- it is at or past a date where its second is
pub at-or-past : (t second into d : ℕ) → into < t → leb (d * t) (second * t + into) ≡ leb d second
at-or-past t second into d p =
    cases (leb d second)
    (λ e. le-leb (d * t) (second * t + into) (omega (arith, mul-le-mul_right t (leb-true d second e))) ∙ sym e)
    (λ e. lt-leb (d * t) (second * t + into) (omega (arith, mul-le-mul_right t (leb-false d second e), suc-mul second t)) ∙ sym e)

pub step-onward : (c : Clock) → c.ticks_into < c.per_second → c.second ≤ last_second → onward c.per_second (standing c) ≡ standing (clock_step c)
step-onward c p q = go c.is_set refl
  where
    go : (b : Bool) → c.is_set ≡ b → onward c.per_second (standing c) ≡ standing (clock_step c)
    go false r = rw r
    go true r =
        cases (ltb (suc c.ticks_into) c.per_second)
        (λ e. rw (r, e) (ap {B = Option ℕ} some (omega (arith, ltb-true (suc c.ticks_into) c.per_second e, mul-le-mul_right c.per_second q))))
        (λ e.
        let full : c.per_second ≤ suc c.ticks_into = ltb-false (suc c.ticks_into) c.per_second e in
        cases (ltb c.second last_second)
        (λ f.
        let room = mul-le-mul_right c.per_second (ltb-true c.second last_second f) in
        rw (r, e, f) (ap {B = Option ℕ} some (omega (arith, suc-mul c.second c.per_second))))
        (λ f.
        let g : c.second ≡ last_second = omega (arith, ltb-false c.second last_second f) in
        let k : c.second * c.per_second ≡ last_second * c.per_second = ap (λ (n : ℕ). n * c.per_second) g in
        rw (r, e, f) (ap {B = Option ℕ} some (omega arith))))
