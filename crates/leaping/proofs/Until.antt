-- The ticks until a timer is due, if they are fewer than k: no timer is due before, and one is due then. So a leap by k is those ticks but one at
-- once, and one tick. Assumes nothing.
use mathlib.Core.Path.{◌≡◌, refl, sym, ap, ◌∙◌, subst}
use Prim.Native.Nat.{ℕ, zero, suc, ◌+◌, ◌-◌, ◌*◌, ◌/◌, ◌%◌, ◌≤◌, ◌<◌, min}
use native.Mathlib.Nat.{mod-lt, div-add-mod', lt_of_mul-lt-mul_right, mul-le-mul_right}
use native.Mathlib.Omega.{arith}
use mathlib.Core.Bool.{Bool, true, false}
use mathlib.Core.List.{List, [], ◌∷◌, map, cons≢nil}
use lib.ListN.{length, length-append}
use lib.Dec.{leb, ltb}
use borrow.Author.Tests.{ltb-true, ltb-false, le-leb, ne_eqb}
use Rattle.calendar.specs.Calendar.{last_second}
use Rattle.model.specs.declared.Chain.TheVariants.{ByTicks, ByDate}
use Rattle.model.specs.Lists.{keep, All, Sorted}
use Rattle.model.specs.State.{Link, Clock, State}
use Rattle.model.specs.Directives.{due, fire, without_server, nearer, closer, clock_step, ticked_once, due_in_tick, is_quiet, leapt}
use Rattle.laws.proofs.ListLaws.{cases, all_map}
use Rattle.laws.proofs.KindLaws.{again-not-dated}
use Rattle.laws.proofs.WellFormed.{Chained, WellFormed}
use Rattle.laws.proofs.Steps.{fire-elsewhere, chained-nearer}
use Rattle.laws.proofs.LeapLaws.{leapt-on, leapt-stops, quiet-fired, further}
use Rattle.firing.specs.Nearer.{closer_by}
use Rattle.leaping.specs.Leaps.{clock_on, skipped, until_ticks, until_date, until_due}
use Rattle.leaping.proofs.ClockRuns.{clock-runs, clock-step-last}
use Rattle.leaping.proofs.Skips.{chained-skipped, well-formed-skipped, leapt-skips}

-- ---- a date

module _ (c : Clock) (on : c.is_set ≡ true) (into : c.ticks_into < c.per_second) (date : ℕ) (later : c.second < date) (last : date ≤ last_second) where
  -- the ticks until the clock comes to it
  abbrev away : ℕ
  away = (date - c.second) * c.per_second - c.ticks_into

  whole : c.per_second ≤ (date - c.second) * c.per_second
  whole =
      let one : 1 * c.per_second ≤ (date - c.second) * c.per_second = mul-le-mul_right c.per_second (omega arith) in omega arith

  away-low : 1 ≤ away
  away-low = omega (arith, whole)

  not_yet : (m : ℕ) → m < away → (clock_on m c).second < date
  not_yet m p =
      let n = c.ticks_into + m in
      let q = n / c.per_second in
      let r = n % c.per_second in
      let split = div-add-mod' n c.per_second in
      let small : r < c.per_second = mod-lt n (omega arith) in
      let less : q < date - c.second = lt_of_mul-lt-mul_right c.per_second (omega arith) in
      omega (arith, ap (λ (d : Clock). d.second) (clock-runs m q r c on into (sym split) small (omega arith)))

  just-then : (m : ℕ) → suc m ≡ away → (clock_step (clock_on m c)).second ≡ date
  just-then m e =
      let q = date - c.second in
      let run = clock-runs (suc m) q 0 c on into (omega (arith, whole)) (omega arith) (omega arith) in
      sym (ap (λ (d : Clock). d.second) (clock-step-last m c)) ∙ ap (λ (d : Clock). d.second) run ∙ omega arith

-- ---- what is due

keep_some : (p : Link → Bool) (w : Link) (ws : List Link) → p w ≡ true → 1 ≤ length (keep p (w ∷ ws))
keep_some p w ws e = rw e (omega arith)

module _ (s : State) (chained : Chained s) where
  abbrev second : ℕ
  second = (clock_step s.clock).second

  -- no dated timer comes or goes where interval timers fire
  same-dated : (fire ByTicks 0 (nearer s)).dated ≡ s.dated
  same-dated = fire-elsewhere ByTicks 0 (nearer s) (chained-nearer s chained) ByDate (λ n _. again-not-dated n) refl

  some-due : 1 ≤ length (due ByTicks 0 (nearer s)) + length (due ByDate second s) → is_quiet s ≡ false
  some-due p =
      let first = due ByTicks 0 (nearer s) in
      let then = due ByDate second (fire ByTicks 0 (nearer s)) in
      let same : length then ≡ length (due ByDate second s) = ap (λ (l : List Link). length (keep (λ w. leb w.wait second) l)) same-dated in
      ne_eqb (length (due_in_tick s)) 0 (λ z. omega (arith, length-append first then))

-- ---- how far

-- no timer is due before the last of d ticks; and one is due then, where they are fewer than k
pub record Until (k d : ℕ) (s : State) : Type 0 where
  pub low : 1 ≤ d
  pub high : d ≤ k
  pub ticks : All (λ w. d ≤ w.wait) s.ticking
  pub dates : All (λ w. (clock_on (d - 1) s.clock).second < w.wait) s.dated
  pub stops : d < k → is_quiet (skipped (d - 1) s) ≡ false

-- the same, of the interval chain alone
record TicksUntil (k r : ℕ) (l : List Link) : Type 0 where
  low : 1 ≤ r
  high : r ≤ k
  all-far : All (λ w. r ≤ w.wait) l
  stops : r < k → (m : ℕ) → suc m ≡ r → 1 ≤ length (keep (λ w. leb w.wait 0) (map closer (map (closer_by m) l)))

ticks-until : (k : ℕ) → 1 ≤ k → (l : List Link) → All (λ w. 1 ≤ w.wait) l → Sorted (λ w. w.wait) l → TicksUntil k (until_ticks k l) l
ticks-until k p [] ones rises = record { low = p; high = omega arith; all-far = tt; stops = λ z. absurd (omega arith) }
ticks-until k p (w ∷ ws) ones rises =
    let one = ones.0 in
    record {
      low = omega arith;
      high = omega arith;
      all-far = (omega arith, all_map (λ v q. omega arith) ws rises.0);
      stops = λ z m e.
          keep_some (λ v. leb v.wait 0) (closer (closer_by m w)) (map closer (map (closer_by m) ws)) (le-leb (w.wait - m - 1) 0 (omega arith));
    }

module _ (k : ℕ) (some : 1 ≤ k) (s : State) (f : WellFormed s) where
  abbrev r : ℕ
  r = until_ticks k s.ticking

  first : TicksUntil k r s.ticking
  first = ticks-until k some s.ticking f.ticks (f.chained.rises ByTicks)

  -- an interval timer is due then
  ticks-stop : r < k → is_quiet (skipped (r - 1) s) ≡ false
  ticks-stop p =
      some-due (skipped (r - 1) s) (chained-skipped (r - 1) s f.chained) (omega (arith, first.stops p (r - 1) (omega (arith, first.low))))

  -- with no date to come
  none-dated : s.dated ≡ [] → Until k r s
  none-dated is = record {
    low = first.low;
    high = first.high;
    ticks = first.all-far;
    dates = subst (All (λ w. (clock_on (r - 1) s.clock).second < w.wait)) (sym is) tt;
    stops = ticks-stop;
  }

  module _ (w : Link) (ws : List Link) (is : s.dated ≡ w ∷ ws) where
    running : s.clock.is_set ≡ true
    running = cases s.clock.is_set (λ e. e) (λ e. absurd (cons≢nil (sym is ∙ (f.unset e).2)))

    date : (s.clock.second < w.wait) × (w.wait ≤ last_second)
    date = (subst (All (λ v. (s.clock.second < v.wait) × (v.wait ≤ last_second))) is f.dates).0

    abbrev x : ℕ
    x = (w.wait - s.clock.second) * s.clock.per_second - s.clock.ticks_into

    all-later : (m : ℕ) → m < x → All (λ v. (clock_on m s.clock).second < v.wait) s.dated
    all-later m p =
        let now = not_yet s.clock running f.into w.wait date.0 date.1 m p in
        let rises : Sorted (λ v. v.wait) (w ∷ ws) = subst (Sorted (λ v. v.wait)) is (f.chained.rises ByDate) in
        subst (All (λ v. (clock_on m s.clock).second < v.wait)) (sym is) (now, all_map (λ v q. omega arith) ws rises.0)

    date-stops : (m : ℕ) → suc m ≡ x → is_quiet (skipped m s) ≡ false
    date-stops m e =
        let now = just-then s.clock running f.into w.wait date.0 date.1 m e in
        let second = (clock_step (clock_on m s.clock)).second in
        let one : 1 ≤ length (keep (λ v. leb v.wait second) s.dated) =
        subst (λ (l : List Link). 1 ≤ length (keep (λ v. leb v.wait second) l)) (sym is)
        (keep_some (λ v. leb v.wait second) w ws (le-leb w.wait second (omega arith))) in
        some-due (skipped m s) (chained-skipped m s f.chained) (omega arith)

    some-dated : Until k (min x r) s
    some-dated =
        let low = away-low s.clock running f.into w.wait date.0 date.1 in
        cases (ltb x r)
        (λ e.
        let less = ltb-true x r e in
        let d : x ≡ min x r = omega arith in
        subst (λ (n : ℕ). Until k n s) d (record {
          low = low;
          high = omega (arith, first.high);
          ticks = all_map (λ v q. omega arith) s.ticking first.all-far;
          dates = all-later (x - 1) (omega arith);
          stops = λ p. date-stops (x - 1) (omega arith);
        }))
        (λ e.
        let less = ltb-false x r e in
        let d : r ≡ min x r = omega arith in
        subst (λ (n : ℕ). Until k n s) d (record {
          low = first.low;
          high = first.high;
          ticks = first.all-far;
          dates = all-later (r - 1) (omega (arith, first.low));
          stops = ticks-stop;
        }))

  pub until-due : Until k (until_due k s) s
  until-due = go s.dated refl
    where
      go : (l : List Link) → s.dated ≡ l → Until k (until_date r s.clock s.dated) s
      go [] is = subst (λ (l : List Link). Until k (until_date r s.clock l) s) (sym is) (none-dated is)
      go (w ∷ ws) is = subst (λ (l : List Link). Until k (until_date r s.clock l) s) (sym is) (some-dated w ws is)

-- ---- a leap

-- its last tick: it fires or queues a timer, or there is none behind it
one-tick : (j : ℕ) (s : State) → (0 < j → is_quiet s ≡ false)
    → leapt (suc j) s ≡ record { state = ticked_once s; done = 1; fired = without_server s.slots (due_in_tick s) }
one-tick zero s e =
    cases (is_quiet s)
    (λ q. leapt-on 0 s q ∙ ap (λ (l : List Link). record { state = ticked_once s; done = 1; fired = l }) (sym (quiet-fired s q)))
    (λ q. leapt-stops 0 s q)
one-tick (suc j) s e = leapt-stops (suc j) s (e (omega arith))

module _ (k d : ℕ) (s : State) (u : Until k d s) where
  far : All (λ w. d - 1 < w.wait) s.ticking
  far = all_map (λ w p. omega (arith, u.low)) s.ticking u.ticks

  pub skips-well-formed : WellFormed s → WellFormed (skipped (d - 1) s)
  skips-well-formed f = well-formed-skipped (d - 1) s f far u.dates

  -- a leap by k
  pub leaps-at-once : let s' = skipped (d - 1) s in
      leapt k s ≡ record { state = ticked_once s'; done = d; fired = without_server s.slots (due_in_tick s') }
  leaps-at-once =
      let s' = skipped (d - 1) s in
      let j = k - d in
      let parts : k ≡ d - 1 + suc j = omega (arith, u.low, u.high) in
      let total : d - 1 + 1 ≡ d = omega (arith, u.low) in
      ap (λ (n : ℕ). leapt n s) parts ∙ leapt-skips (d - 1) (suc j) s far u.dates
      ∙ ap (further (d - 1)) (one-tick j s' (λ p. u.stops (omega arith)))
      ∙ ap (λ (n : ℕ). record { state = ticked_once s'; done = n; fired = without_server s.slots (due_in_tick s') }) total

-- no timer is due in k ticks: a leap by k is the jump over them
pub leap-is-jump : (k : ℕ) (s : State) → Until (k + 1) (k + 1) s → leapt k s ≡ record { state = skipped k s; done = k; fired = [] }
leap-is-jump k s u =
    let all : k + 1 - 1 ≡ k = omega arith in
    let ticks : All (λ w. k < w.wait) s.ticking = all_map (λ w p. omega arith) s.ticking u.ticks in
    let dates : All (λ w. (clock_on k s.clock).second < w.wait) s.dated =
    subst (λ (n : ℕ). All (λ w. (clock_on n s.clock).second < w.wait) s.dated) all u.dates in
    let total : k + 0 ≡ k = omega arith in
    ap (λ (n : ℕ). leapt n s) (sym total) ∙ leapt-skips k 0 s ticks dates ∙ ap (λ (n : ℕ). record { state = skipped k s; done = n; fired = [] }) total

-- one is due in k ticks, where the first that is due is before the next
pub sooner : (k d : ℕ) (s : State) → Until (k + 1) d s → d ≤ k → Until k d s
sooner k d s u h = record { low = u.low; high = h; ticks = u.ticks; dates = u.dates; stops = λ p. u.stops (omega arith) }

-- The law of the code: on a well-formed state a leap by k, if that is not 0, is the jump over all ticks but the last, and one tick; whatever kinds of
-- timers there are.
pub leap-is-jump-and-tick : (k : ℕ) → 1 ≤ k → (s : State) → WellFormed s → let d = until_due k s in let s' = skipped (d - 1) s in
    leapt k s ≡ record { state = ticked_once s'; done = d; fired = without_server s.slots (due_in_tick s') }
leap-is-jump-and-tick k some s f = leaps-at-once k (until_due k s) s (until-due k some s f)
