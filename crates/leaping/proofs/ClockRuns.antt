-- The clock after many ticks: where the ticks into its second and those that it goes on by are q seconds and r ticks, it is q seconds on and r ticks
-- into that second, or stands still at the last tick of the last second. Assumes nothing.
use mathlib.Core.Path.{◌≡◌, refl, sym, ap, ◌∙◌}
use mathlib.Core.Logic.{◌≢◌}
use mathlib.Core.List.{List}
use lib.ListN.{length, set}
use Prim.Native.Nat.{ℕ, zero, suc, ◌+◌, ◌-◌, ◌*◌, ◌/◌, ◌%◌, ◌≤◌, ◌<◌}
use native.Mathlib.Nat.{suc-mul, mod-lt, div-add-mod', div-le_self}
use native.Mathlib.Omega.{arith}
use mathlib.Core.Bool.{true}
use lib.Dec.{ltb}
use borrow.Author.Tests.{ltb-true, ltb-false, lt-ltb, le-ltb, eq-eqb, ne_eqb}
use Rattle.calendar.specs.Calendar.{last_second}
use Rattle.model.specs.State.{Clock, with_clock}
use Rattle.model.specs.Directives.{most_leap, clock_at, clock_step}
use Rattle.model.specs.Words.{written_over, read, ticks_per_second, clock_set, seconds, ticks_into}
use Rattle.model.specs.Sound.{sound}
use Rattle.laws.proofs.ClockSteps.{clock-unset}
use Rattle.laws.proofs.SoundHolds.{Header, sound-header, sound-holds}
use Rattle.laws.proofs.ListLaws.{cases}
use Rattle.leaping.specs.Leaps.{clock_on}
use Rattle.firing.proofs.ClockWords.{clock-moved}

-- ---- one step

module _ (c : Clock) (on : c.is_set ≡ true) where
  pub step-inside : suc c.ticks_into < c.per_second → clock_step c ≡ clock_at c c.second (suc c.ticks_into)
  step-inside p = rw (on, lt-ltb (suc c.ticks_into) c.per_second p)

  pub step-over : c.per_second ≤ suc c.ticks_into → c.second < last_second → clock_step c ≡ clock_at c (suc c.second) 0
  step-over p q = rw (on, le-ltb (suc c.ticks_into) c.per_second p, lt-ltb c.second last_second q)

  pub step_end : c.per_second ≤ suc c.ticks_into → last_second ≤ c.second → clock_step c ≡ c
  step_end p q = rw (on, le-ltb (suc c.ticks_into) c.per_second p, le-ltb c.second last_second q)

  -- the clock as it is
  same-clock : (second into : ℕ) → c.second ≡ second → c.ticks_into ≡ into → c ≡ clock_at c second into
  same-clock second into a b = λ j. record { per_second = c.per_second; is_set = on j; second = a j; ticks_into = b j }

-- ---- many steps

pub clock-stands : (m : ℕ) (c : Clock) → clock_step c ≡ c → clock_on m c ≡ c
clock-stands zero c e = refl
clock-stands (suc m) c e = ap (clock_on m) e ∙ clock-stands m c e

pub clock-step-last : (m : ℕ) (c : Clock) → clock_on (suc m) c ≡ clock_step (clock_on m c)
clock-step-last zero c = refl
clock-step-last (suc m) c = clock-step-last m (clock_step c)

-- no whole second
none-whole : (q r n T : ℕ) → n ≡ q * T + r → n < T → q ≡ 0
none-whole zero r n T e p = refl
none-whole (suc q) r n T e p = absurd (omega (arith, suc-mul q T))

some-whole : (q r n T : ℕ) → n ≡ q * T + r → r < T → T ≤ n → 1 ≤ q
some-whole zero r n T e p h = absurd (omega arith)
some-whole (suc q) r n T e p h = omega arith

-- a whole second less
one_less : (q T : ℕ) → 1 ≤ q → q * T ≡ (q - 1) * T + T
one_less zero T p = absurd (omega arith)
one_less (suc q) T p = let less : q ≡ suc q - 1 = omega arith in suc-mul q T ∙ ap (λ (x : ℕ). x * T + T) less

pub clock-runs : (m q r : ℕ) (c : Clock) → c.is_set ≡ true → c.ticks_into < c.per_second → c.ticks_into + m ≡ q * c.per_second + r → r < c.per_second
    → c.second + q ≤ last_second → clock_on m c ≡ clock_at c (c.second + q) r
clock-runs zero q r c on p e f last =
    let none = none-whole q r c.ticks_into c.per_second (omega arith) p in
    let gone : q * c.per_second ≡ 0 * c.per_second = ap (λ (x : ℕ). x * c.per_second) none in
    same-clock c on (c.second + q) r (omega arith) (omega arith)
clock-runs (suc m) q r c on p e f last =
    cases (ltb (suc c.ticks_into) c.per_second)
    (λ x.
    let inside = ltb-true (suc c.ticks_into) c.per_second x in
    ap (clock_on m) (step-inside c on inside)
    ∙ clock-runs m q r (clock_at c c.second (suc c.ticks_into)) refl inside (omega arith) f last)
    (λ x.
    let full = ltb-false (suc c.ticks_into) c.per_second x in
    let low = some-whole q r (c.ticks_into + suc m) c.per_second e f (omega arith) in
    let less = one_less q c.per_second low in
    let second : suc c.second + (q - 1) ≡ c.second + q = omega arith in
    ap (clock_on m) (step-over c on full (omega arith))
    ∙ clock-runs m (q - 1) r (clock_at c (suc c.second) 0) refl (omega arith) (omega arith) f (omega arith)
    ∙ ap (λ (x : ℕ). clock_at c x r) second)

pub clock-ends : (m q r : ℕ) (c : Clock) → c.is_set ≡ true → c.ticks_into < c.per_second → c.ticks_into + m ≡ q * c.per_second + r → r < c.per_second
    → c.second ≤ last_second → last_second < c.second + q → clock_on m c ≡ clock_at c last_second (c.per_second - 1)
clock-ends zero q r c on p e f high last =
    absurd (let none = none-whole q r c.ticks_into c.per_second (omega arith) p in omega arith)
clock-ends (suc m) q r c on p e f high last =
    cases (ltb (suc c.ticks_into) c.per_second)
    (λ x.
    let inside = ltb-true (suc c.ticks_into) c.per_second x in
    ap (clock_on m) (step-inside c on inside)
    ∙ clock-ends m q r (clock_at c c.second (suc c.ticks_into)) refl inside (omega arith) f high last)
    (λ x.
    let full = ltb-false (suc c.ticks_into) c.per_second x in
    cases (ltb c.second last_second)
    (λ y.
    let next = ltb-true c.second last_second y in
    let low = some-whole q r (c.ticks_into + suc m) c.per_second e f (omega arith) in
    let less = one_less q c.per_second low in
    ap (clock_on m) (step-over c on full next)
    ∙ clock-ends m (q - 1) r (clock_at c (suc c.second) 0) refl (omega arith) (omega arith) f next (omega arith))
    (λ y.
    let end = ltb-false c.second last_second y in
    ap (clock_on m) (step_end c on full end) ∙ clock-stands m c (step_end c on full end)
    ∙ same-clock c on last_second (c.per_second - 1) (omega arith) (omega arith)))

-- ---- the words

module _ (t : List ℕ) (ok : sound t ≡ true) (m : ℕ) where
  h : Header t
  h = sound-header t ok

  abbrev c : Clock
  c = (read t).clock

  -- the ticks into the second and those to come, and how many whole seconds and ticks they are
  abbrev n : ℕ
  n = ticks_into t + m

  abbrev q : ℕ
  q = n / ticks_per_second t

  abbrev r : ℕ
  r = n % ticks_per_second t

  pub run_long : 10 ≤ length t
  run_long = omega (arith, h.long)

  pub run-rate : 1 ≤ ticks_per_second t
  run-rate = h.per-low

  pub run_fits : m ≤ most_leap → n ≤ 1000999
  run_fits few = omega (arith, h.into, h.per-high)

  pub run-second-fits : m ≤ most_leap → seconds t + q ≤ 3535452198
  run-second-fits few = omega (arith, run_fits few, div-le_self n (ticks_per_second t), h.second-high)

  -- the table with its clock gone on
  abbrev run : List ℕ
  run = written_over (with_clock (read t) (clock_on m c)) t

  pub run-unset : clock_set t ≢ 1 → t ≡ run
  run-unset off =
      sym (ap (λ (d : Clock). written_over (with_clock (read t) d) t) (clock-stands m c (clock-unset c (ne_eqb (clock_set t) 1 off))) ∙ (sound-holds t ok).is)

  module _ (on : clock_set t ≡ 1) where
    goes : (second into : ℕ) → clock_on m c ≡ clock_at c second into → set (set t 4 into) 3 second ≡ run
    goes second into e =
        clock-moved t (read t) (sound-holds t ok).is second into (eq-eqb (clock_set t) 1 on)
        ∙ ap (λ (d : Clock). written_over (with_clock (read t) d) t) (sym e)

    parts : n ≡ q * ticks_per_second t + r
    parts = sym (div-add-mod' n (ticks_per_second t))

    small : r < ticks_per_second t
    small = mod-lt n h.per-low

    pub run_on : seconds t + q ≤ last_second → set (set t 4 r) 3 (seconds t + q) ≡ run
    run_on p = goes (seconds t + q) r (clock-runs m q r c (eq-eqb (clock_set t) 1 on) h.into parts small p)

    pub run_ends : last_second < seconds t + q → set (set t 4 (ticks_per_second t - 1)) 3 last_second ≡ run
    run_ends p =
        goes last_second (ticks_per_second t - 1) (clock-ends m q r c (eq-eqb (clock_set t) 1 on) h.into parts small h.second-high p)
