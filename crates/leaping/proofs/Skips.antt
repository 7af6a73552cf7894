-- Ticks in which no timer is due, taken at once: m of them leave every interval timer m ticks nearer and the clock m ticks on, and no other change.
-- So a leap goes over them, and goes on from there. Assumes nothing.
use mathlib.Core.Path.{◌≡◌, refl, sym, ap, ap₂, ◌∙◌}
use Prim.Native.Nat.{ℕ, zero, suc, ◌+◌, ◌≤◌, ◌<◌}
use native.Mathlib.Omega.{arith}
use mathlib.Core.Bool.{true}
use mathlib.Core.List.{List, [], ◌++◌}
use lib.ListN.{length}
use lib.Dec.{leb, ltb, eqb}
use borrow.Author.Tests.{ltb-true, ltb-false, lt-ltb, lt-leb}
use Rattle.calendar.specs.Calendar.{last_second}
use Rattle.model.specs.declared.Chain.{Chain}
use Rattle.model.specs.declared.Chain.TheVariants.{ByTicks, ByDate, Queue}
use Rattle.model.specs.Lists.{keep, All}
use Rattle.model.specs.State.{Link, Clock, State, chain_of, with_chain, with_clock}
use Rattle.model.specs.Directives.{fired_all, go_on, due, fire, nearer, closer, clock_step, ticked_once, due_in_tick, is_quiet, one_more, leapt}
use Rattle.laws.proofs.ListLaws.{cases, all_map, all-mapped, all-zip, keep_all, keep-none}
use Rattle.laws.proofs.ClockSteps.{clock-unset, clock-is_set, clock-per_second, clock-into, clock-last}
use Rattle.laws.proofs.WellFormed.{Chained, WellFormed}
use Rattle.laws.proofs.Steps.{chained-with-clock}
use Rattle.laws.proofs.LeapLaws.{leapt-on, further}
use Rattle.firing.specs.Nearer.{closer_by, nearer_by}
use Rattle.firing.proofs.Nearer.{closer-none, closer-more, chained-by}
use Rattle.leaping.specs.Leaps.{clock_on, skipped}
use Rattle.leaping.proofs.ClockRuns.{step-inside, step-over, step_end, clock-stands}

-- ---- the state after m of them

abbrev with-ticking : State → Clock → List Link → State
with-ticking s c l = with_clock (with_chain ByTicks s s.slots l) c

skipped-none : (s : State) → skipped 0 s ≡ s
skipped-none s = ap (with-ticking s s.clock) (closer-none s.ticking)

skipped-more : (m : ℕ) (s : State) → skipped m (skipped 1 s) ≡ skipped (suc m) s
skipped-more m s = ap (with-ticking s (clock_on (suc m) s.clock)) (closer-more m s.ticking)

-- ---- the clock's second never falls, and the clock keeps its bounds

second-rises : (c : Clock) → c.second ≤ (clock_step c).second
second-rises c =
    cases c.is_set
    (λ on.
    cases (ltb (suc c.ticks_into) c.per_second)
    (λ x. omega (arith, ap (λ (d : Clock). d.second) (step-inside c on (ltb-true (suc c.ticks_into) c.per_second x))))
    (λ x.
    let full = ltb-false (suc c.ticks_into) c.per_second x in
    cases (ltb c.second last_second)
    (λ y. omega (arith, ap (λ (d : Clock). d.second) (step-over c on full (ltb-true c.second last_second y))))
    (λ y. omega (arith, ap (λ (d : Clock). d.second) (step_end c on full (ltb-false c.second last_second y))))))
    (λ off. omega (arith, ap (λ (d : Clock). d.second) (clock-unset c off)))

seconds-rise : (m : ℕ) (c : Clock) → c.second ≤ (clock_on m c).second
seconds-rise zero c = omega arith
seconds-rise (suc m) c = omega (arith, second-rises c, seconds-rise m (clock_step c))

-- what every step keeps
on-keeps : (P : Clock → Type 0) → ((c : Clock) → P c → P (clock_step c)) → (m : ℕ) (c : Clock) → P c → P (clock_on m c)
on-keeps P step zero c h = h
on-keeps P step (suc m) c h = on-keeps P step m (clock_step c) (step c h)

-- ---- the chains stay in order, and the state well formed

pub chained-skipped : (m : ℕ) (s : State) → Chained s → Chained (skipped m s)
chained-skipped m s h = chained-with-clock (nearer_by m s) (clock_on m s.clock) (chained-by m s h)

module _ (m : ℕ) (s : State) (f : WellFormed s) (ticks : All (λ w. m < w.wait) s.ticking)
    (dates : All (λ w. (clock_on m s.clock).second < w.wait) s.dated) where
  abbrev c : Clock
  c = clock_on m s.clock

  same_set : c.is_set ≡ s.clock.is_set
  same_set = on-keeps (λ d. d.is_set ≡ s.clock.is_set) (λ d e. clock-is_set d ∙ e) m s.clock refl

  same-rate : c.per_second ≡ s.clock.per_second
  same-rate = on-keeps (λ d. d.per_second ≡ s.clock.per_second) (λ d e. clock-per_second d ∙ e) m s.clock refl

  pub well-formed-skipped : WellFormed (skipped m s)
  well-formed-skipped = record {
    chained = chained-skipped m s f.chained;
    some-slot = f.some-slot;
    parted = f.parted;
    per-low = omega (arith, same-rate, f.per-low);
    per-high = omega (arith, same-rate, f.per-high);
    into = on-keeps (λ d. d.ticks_into < d.per_second) clock-into m s.clock f.into;
    second-high = on-keeps (λ d. d.second ≤ last_second) clock-last m s.clock f.second-high;
    unset = λ e.
        let off = sym same_set ∙ e in
        let stands = clock-stands m s.clock (clock-unset s.clock off) in
        let was = f.unset off in
        (ap (λ (d : Clock). d.second) stands ∙ was.0, ap (λ (d : Clock). d.ticks_into) stands ∙ was.1, was.2);
    shape = f.shape;
    ticks = all-mapped (closer_by m) (λ w. 1 ≤ w.wait) s.ticking (all_map (λ w p. omega arith) s.ticking ticks);
    dates = all_map (λ w p. (p.0, p.1.1)) s.dated (all-zip (λ w. c.second < w.wait)
        (λ w. (s.clock.second < w.wait) × (w.wait ≤ last_second)) s.dated dates f.dates);
  }

-- ---- one tick

-- none of a chain is due
none-due : (k : Chain) (limit : ℕ) (s : State) → All (λ w. limit < w.wait) (chain_of k s) → due k limit s ≡ []
none-due k limit s late =
    keep-none (λ w. leb w.wait limit) (chain_of k s) (all_map (λ w p. lt-leb w.wait limit p) (chain_of k s) late)

none-fire : (k : Chain) (limit : ℕ) (s : State) → All (λ w. limit < w.wait) (chain_of k s) → fire k limit s ≡ s
none-fire k limit s late =
    let rest : keep (λ w. ltb limit w.wait) (chain_of k s) ≡ chain_of k s =
    keep_all (λ w. ltb limit w.wait) (chain_of k s) (all_map (λ w p. lt-ltb limit w.wait p) (chain_of k s) late) in
    ap₂ (λ (ws l : List Link). go_on ws (with_chain k s (fired_all ws s.slots) l)) (none-due k limit s late) rest ∙ same k
  where
    same : (k : Chain) → with_chain k s s.slots (chain_of k s) ≡ s
    same ByTicks = refl
    same ByDate = refl
    same Queue = refl

module _ (s : State) (ticks : All (λ w. 1 < w.wait) s.ticking) (dates : All (λ w. (clock_step s.clock).second < w.wait) s.dated) where
  abbrev later : Clock
  later = clock_step s.clock

  late : All (λ w. 0 < w.wait) (nearer s).ticking
  late = all-mapped closer (λ w. 0 < w.wait) s.ticking (all_map (λ w p. omega arith) s.ticking ticks)

  no-ticks : fire ByTicks 0 (nearer s) ≡ nearer s
  no-ticks = none-fire ByTicks 0 (nearer s) late

  none-listed : due_in_tick s ≡ []
  none-listed =
      ap₂ (λ (a b : List Link). a ++ b) (none-due ByTicks 0 (nearer s) late)
      (ap (λ (z : State). due ByDate later.second (with_clock z later)) no-ticks ∙ none-due ByDate later.second (with_clock (nearer s) later) dates)

  pub quiet-tick : is_quiet s ≡ true
  quiet-tick = ap (λ (l : List Link). eqb (length l) 0) none-listed

  pub after-quiet : ticked_once s ≡ skipped 1 s
  after-quiet =
      ap (λ (z : State). fire ByDate later.second (with_clock z later)) no-ticks
      ∙ none-fire ByDate later.second (with_clock (nearer s) later) dates

-- ---- a leap over m of them

pub leapt-skips : (m j : ℕ) (s : State) → All (λ w. m < w.wait) s.ticking → All (λ w. (clock_on m s.clock).second < w.wait) s.dated
    → leapt (m + j) s ≡ further m (leapt j (skipped m s))
leapt-skips zero j s ticks dates =
    let none : 0 + j ≡ j = omega arith in
    let same : (leapt j s).done ≡ 0 + (leapt j s).done = omega arith in
    ap (λ (n : ℕ). leapt n s) none ∙ ap (λ (d : ℕ). record { state = (leapt j s).state; done = d; fired = (leapt j s).fired }) same
    ∙ ap (λ (z : State). further 0 (leapt j z)) (sym (skipped-none s))
leapt-skips (suc m) j s ticks dates =
    let soon : All (λ w. 1 < w.wait) s.ticking = all_map (λ w p. omega arith) s.ticking ticks in
    let next : All (λ w. (clock_step s.clock).second < w.wait) s.dated =
    all_map (λ w p. omega (arith, seconds-rise m (clock_step s.clock))) s.dated dates in
    let rest = leapt-skips m j (skipped 1 s)
    (all-mapped closer (λ w. m < w.wait) s.ticking (all_map (λ w p. omega arith) s.ticking ticks)) dates in
    let one : suc m + j ≡ suc (m + j) = omega arith in
    let l = leapt j (skipped m (skipped 1 s)) in
    let more : suc (m + l.done) ≡ suc m + l.done = omega arith in
    ap (λ (n : ℕ). leapt n s) one
    ∙ leapt-on (m + j) s (quiet-tick s soon next)
    ∙ ap (λ (z : State). one_more (leapt (m + j) z)) (after-quiet s soon next)
    ∙ ap one_more rest
    ∙ ap (λ (d : ℕ). record { state = l.state; done = d; fired = l.fired }) more
    ∙ ap (λ (z : State). further (suc m) (leapt j z)) (skipped-more m s)
