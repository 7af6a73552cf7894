-- One tick of the clock: it stays within its bounds. Each law is read off the four ways that a step can go. Assumes nothing.
use mathlib.Core.Path.{◌≡◌, refl, sym}
use Prim.Native.Nat.{suc, ◌≤◌, ◌<◌}
use native.Mathlib.Omega.{arith}
use mathlib.Core.Bool.{Bool, true, false, cond}
use lib.Dec.{ltb}
use borrow.Author.Tests.{ltb-true, ltb-false}
use Rattle.model.specs.State.{Clock}
use Rattle.calendar.specs.Calendar.{last_second}
use Rattle.model.specs.Directives.{clock_at, clock_step}

either : (P : Clock → Type 0) (b : Bool) (x y : Clock) → (b ≡ true → P x) → (b ≡ false → P y) → P (cond b x y)
either P true x y f g = f refl
either P false x y f g = g refl

module _ (c : Clock) where
  -- the clock is not set; within a second; into the next second; at the last tick of the last second
  clock-cases : (P : Clock → Type 0)
      → (c.is_set ≡ false → P c)
      → (c.is_set ≡ true → suc c.ticks_into < c.per_second → P (clock_at c c.second (suc c.ticks_into)))
      → (c.is_set ≡ true → c.per_second ≤ suc c.ticks_into → c.second < last_second → P (clock_at c (suc c.second) 0))
      → (c.is_set ≡ true → c.per_second ≤ suc c.ticks_into → last_second ≤ c.second → P c)
      → P (clock_step c)
  clock-cases P unset within next last =
      let into = clock_at c c.second (suc c.ticks_into) in
      let written_over = cond (ltb c.second last_second) (clock_at c (suc c.second) 0) c in
      let short = ltb (suc c.ticks_into) c.per_second in
      either P c.is_set (cond short into written_over) c
      (λ e. either P short into written_over
      (λ f. within e (ltb-true (suc c.ticks_into) c.per_second f))
      (λ f.
      let full = ltb-false (suc c.ticks_into) c.per_second f in
      either P (ltb c.second last_second) (clock_at c (suc c.second) 0) c
      (λ g. next e full (ltb-true c.second last_second g))
      (λ g. last e full (ltb-false c.second last_second g))))
      unset

  pub clock-unset : c.is_set ≡ false → clock_step c ≡ c
  clock-unset e = rw e

  pub clock-is_set : (clock_step c).is_set ≡ c.is_set
  clock-is_set = clock-cases (λ d. d.is_set ≡ c.is_set) (λ e. refl) (λ e f. sym e) (λ e f g. sym e) (λ e f g. refl)

  pub clock-per_second : (clock_step c).per_second ≡ c.per_second
  clock-per_second = clock-cases (λ d. d.per_second ≡ c.per_second) (λ e. refl) (λ e f. refl) (λ e f g. refl) (λ e f g. refl)

  pub clock-into : c.ticks_into < c.per_second → (clock_step c).ticks_into < (clock_step c).per_second
  clock-into p = clock-cases (λ d. d.ticks_into < d.per_second) (λ e. p) (λ e f. f) (λ e f g. omega arith) (λ e f g. p)

  pub clock-last : c.second ≤ last_second → (clock_step c).second ≤ last_second
  clock-last p = clock-cases (λ d. d.second ≤ last_second) (λ e. p) (λ e f. p) (λ e f g. g) (λ e f g. p)
