-- The ticks until a timer is due, as the code reads them from the words of a sound table: the first wait of the interval chain, and the first date;
-- and the words after many ticks in which none is due. Assumes nothing.
use mathlib.Core.Path.{◌≡◌, refl, sym, ap, ap₂, ◌∙◌, subst}
use mathlib.Core.Logic.{◌≢◌}
use Prim.Native.Nat.{ℕ, ◌+◌, ◌-◌, ◌*◌, ◌≤◌, ◌<◌, min}
use native.Mathlib.Nat.{mul-le-mul_right, mul-le-mul}
use native.Mathlib.Omega.{arith}
use mathlib.Core.Bool.{true}
use mathlib.Core.List.{List}
use lib.ListN.{length}
use Rattle.calendar.specs.Calendar.{last_second}
use Rattle.model.specs.declared.Chain.TheVariants.{ByTicks, ByDate}
use Rattle.model.specs.Lists.{All}
use Rattle.model.specs.State.{State, with_clock}
use Rattle.model.specs.Words.{written_over, read, ticks_per_second, seconds, ticks_into, first_ticking, first_dated, wait_of}
use Rattle.model.specs.Sound.{sound}
use Rattle.laws.proofs.ReadBack.{slots_length, over-over}
use Rattle.laws.proofs.Steps.{chained-with-clock}
use Rattle.laws.proofs.WellFormed.{Holds}
use Rattle.laws.proofs.SoundHolds.{sound-header, sound-holds, sound-well-formed}
use Rattle.links.proofs.NextState.{Next, next_start, next-read, next-holds, next-then}
use Rattle.firing.specs.Nearer.{nearer_by, Nearable}
use Rattle.firing.proofs.Heads.{Front, front, no_front}
use Rattle.leaping.specs.Leaps.{clock_on, skipped, until_ticks, until_date}

module _ (t : List ℕ) (ok : sound t ≡ true) where
  -- ---- the first interval timer

  pub no-ticks : (most : ℕ) → first_ticking t ≡ 0 → most ≡ until_ticks most (read t).ticking
  no-ticks most e = ap (until_ticks most) (sym (no_front ByTicks (sound-holds t ok) refl e))

  pub first-ticking : first_ticking t ≢ 0 → Front ByTicks t (first_ticking t)
  first-ticking n = front ByTicks (sound-holds t ok) refl n

  pub some-ticks : (most w : ℕ) → first_ticking t ≢ 0 → w ≡ wait_of t (first_ticking t) → min w most ≡ until_ticks most (read t).ticking
  some-ticks most w n e =
      let a = first-ticking n in
      ap (λ (x : ℕ). min x most) (e ∙ a.wait) ∙ ap (until_ticks most) (sym a.whole)

  pub ticking-inside : first_ticking t ≢ 0 → 8 * first_ticking t + 10 ≤ length t
  ticking-inside n = omega (arith, (first-ticking n).high, slots_length t, (sound-header t ok).long)

  -- ---- the first date

  pub no-date : (most : ℕ) → first_dated t ≡ 0 → most ≡ until_date most (read t).clock (read t).dated
  no-date most e = ap (until_date most (read t).clock) (sym (no_front ByDate (sound-holds t ok) refl e))

  pub first-dated : first_dated t ≢ 0 → Front ByDate t (first_dated t)
  first-dated n = front ByDate (sound-holds t ok) refl n

  pub dated-inside : first_dated t ≢ 0 → 8 * first_dated t + 10 ≤ length t
  dated-inside n = omega (arith, (first-dated n).high, slots_length t, (sound-header t ok).long)

  pub date-later : first_dated t ≢ 0 → seconds t < wait_of t (first_dated t)
  date-later n =
      let a = first-dated n in
      omega (arith, a.wait, (subst (All (λ v. (seconds t < v.wait) × (v.wait ≤ last_second))) a.whole (sound-well-formed t ok).dates).0.0)

  pub some-date : (most w x : ℕ) → first_dated t ≢ 0 → w ≡ wait_of t (first_dated t) → x ≡ (w - seconds t) * ticks_per_second t - ticks_into t
      → min x most ≡ until_date most (read t).clock (read t).dated
  some-date most w x n e f =
      let a = first-dated n in
      ap (λ (y : ℕ). min y most) (f ∙ ap (λ (d : ℕ). (d - seconds t) * ticks_per_second t - ticks_into t) (e ∙ a.wait))
      ∙ ap (until_date most (read t).clock) (sym a.whole)

  -- ---- many ticks in which none is due

  module _ (m : ℕ) (far : All (λ w. m ≤ w.wait) (read t).ticking) {u : List ℕ} (e : u ≡ written_over (with_clock (read t) (clock_on m (read t).clock)) t) where
    abbrev c : State
    c = with_clock (read t) (clock_on m (read t).clock)

    after-clock : Next t c u
    after-clock =
        next-then (next_start (sound-holds t ok)) (λ z. with_clock z (clock_on m z.clock))
        (chained-with-clock (read t) (clock_on m (read t).clock) (sound-holds t ok).chained) refl e

    pub skip-holds : Holds u (read u)
    skip-holds = next-holds after-clock

    pub skip-nearable : Nearable u m
    skip-nearable = subst (λ (z : State). All (λ w. m ≤ w.wait) z.ticking) (sym (next-read after-clock)) far

    pub skip_is : {v : List ℕ} → v ≡ written_over (nearer_by m (read u)) u → v ≡ written_over (skipped m (read t)) t
    skip_is is =
        is ∙ ap₂ (λ (z : State) (w : List ℕ). written_over (nearer_by m z) w) (next-read after-clock) e ∙ over-over c (nearer_by m c) t refl

-- ---- a product of 32-bit numbers

pub product-fits : (seconds rate : ℕ) → seconds ≤ 4294967295 → rate ≤ 1000 → seconds * rate ≤ 4294967295000
product-fits seconds rate p q = omega (arith, mul-le-mul p q)

pub product-low : (seconds rate : ℕ) → 1 ≤ seconds → rate ≤ seconds * rate
product-low seconds rate p = let one : 1 * rate ≤ seconds * rate = mul-le-mul_right rate p in omega arith
