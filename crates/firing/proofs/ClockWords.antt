-- The clock in the words of a table: words 1 to 4 are the clock's, and no other word depends on it, so that a store to them is the state with
-- another clock; and which clock a step gives. Assumes nothing.
use mathlib.Core.Path.{◌≡◌, refl, sym, ap, ap₂, ◌∙◌}
use mathlib.Core.Logic.{◌≢◌}
use Prim.Native.Nat.{ℕ, suc, ◌+◌, ◌*◌, ◌≤◌, ◌<◌}
use native.Mathlib.Omega.{arith}
use mathlib.Core.Bool.{Bool, true, cond}
use mathlib.Core.List.{List, ◌∷◌}
use lib.ListN.{length, set, drop}
use lib.Seq.{get_or-set_other, set-get_or}
use borrow.Author.Tests.{eq-eqb, ne_eqb, lt-ltb, le-ltb}
use Rattle.calendar.specs.Calendar.{last_second}
use Rattle.model.specs.State.{Clock, State, with_clock}
use Rattle.model.specs.Directives.{clock_at, clock_step}
use Rattle.model.specs.Words.{first, all_slots, written_over, read, ticks_per_second, clock_set, seconds, ticks_into}
use Rattle.laws.proofs.WellFormed.{Holds}
use Rattle.laws.proofs.ClockSteps.{clock-unset}
use Rattle.laws.proofs.Steps.{chained-with-clock}
use Rattle.links.proofs.NextState.{next_start, next-holds, next-then}
use Rattle.links.proofs.Storing.{same-slots}

-- ---- the words

-- the words of s with words 2 to 4 as given
abbrev clock_stored : State → ℕ → ℕ → ℕ → List ℕ → List ℕ
clock_stored s is_set second into rest =
    length s.slots ∷ s.clock.per_second ∷ is_set ∷ second ∷ into ∷ first s.ticking ∷ first s.dated ∷ s.split ∷ cond s.server 1 0
    ∷ first s.queue ∷ rest

module _ (t : List ℕ) (s : State) (is : written_over s t ≡ t) (second into : ℕ) where
  same : all_slots s 1 s.slots (drop (10 + 8 * length s.slots) t)
      ≡ all_slots (with_clock s (clock_at s.clock second into)) 1 s.slots (drop (10 + 8 * length s.slots) t)
  same = sym (same-slots s s.slots (clock_at s.clock second into) s.server 1 s.slots (drop (10 + 8 * length s.slots) t))

  -- the clock is set to a second, so many ticks into it
  clock-placed : set (set (set t 2 1) 3 second) 4 into ≡ written_over (with_clock s (clock_at s.clock second into)) t
  clock-placed = ap (λ (u : List ℕ). set (set (set u 2 1) 3 second) 4 into) (sym is) ∙ ap (clock_stored s 1 second into) same

  -- a clock that is set goes on
  pub clock-moved : s.clock.is_set ≡ true → set (set t 4 into) 3 second ≡ written_over (with_clock s (clock_at s.clock second into)) t
  clock-moved on =
      ap (λ (u : List ℕ). set (set u 4 into) 3 second) (sym is)
      ∙ ap₂ (λ (b : Bool) (r : List ℕ). clock_stored s (cond b 1 0) second into r) on same

-- ---- what the code leaves

module _ (t : List ℕ) (h : Holds t (read t)) where
  -- the chains stay in order
  clock_keeps : (c : Clock) {u : List ℕ} → u ≡ written_over (with_clock (read t) c) t → Holds u (read u)
  clock_keeps c e = next-holds (next-then (next_start h) (λ s. with_clock s c) (chained-with-clock (read t) c h.chained) refl e)

  pub clock-set : (second into : ℕ)
      → set (set (set t 2 1) 3 second) 4 into ≡ written_over (with_clock (read t) (clock_at (read t).clock second into)) t
  clock-set second into = clock-placed t (read t) h.is second into

  pub set_keeps : (second into : ℕ) → Holds (set (set (set t 2 1) 3 second) 4 into) (read (set (set (set t 2 1) 3 second) 4 into))
  set_keeps second into = clock_keeps (clock_at (read t).clock second into) (clock-set second into)

  pub step_keeps : {u : List ℕ} → u ≡ written_over (with_clock (read t) (clock_step (read t).clock)) t → Holds u (read u)
  step_keeps e = clock_keeps (clock_step (read t).clock) e

  stands : clock_step (read t).clock ≡ (read t).clock → t ≡ written_over (with_clock (read t) (clock_step (read t).clock)) t
  stands e = sym (ap (λ (c : Clock). written_over (with_clock (read t) c) t) e ∙ h.is)

  goes : (second into : ℕ) → clock_set t ≡ 1 → clock_step (read t).clock ≡ clock_at (read t).clock second into
      → set (set t 4 into) 3 second ≡ written_over (with_clock (read t) (clock_step (read t).clock)) t
  goes second into on e =
      clock-moved t (read t) h.is second into (eq-eqb (clock_set t) 1 on) ∙ ap (λ (c : Clock). written_over (with_clock (read t) c) t) (sym e)

  pub step-unset : clock_set t ≢ 1 → t ≡ written_over (with_clock (read t) (clock_step (read t).clock)) t
  step-unset n = stands (clock-unset (read t).clock (ne_eqb (clock_set t) 1 n))

  module _ (on : clock_set t ≡ 1) where
    pub step-within : ticks_into t + 1 < ticks_per_second t → set t 4 (ticks_into t + 1) ≡ written_over (with_clock (read t) (clock_step (read t).clock)) t
    step-within p =
        let one : ticks_into t + 1 ≡ suc (ticks_into t) = omega arith in
        sym (keeps (set t 4 (ticks_into t + 1)) (get_or-set_other t 4 3 (ticks_into t + 1) 0 (omega arith)))
        ∙ goes (seconds t) (ticks_into t + 1) on
        (rw (eq-eqb (clock_set t) 1 on, lt-ltb (suc (ticks_into t)) (ticks_per_second t) (omega arith)) (ap (clock_at (read t).clock (seconds t)) (sym one)))
      where
        keeps : (u : List ℕ) → seconds u ≡ seconds t → set u 3 (seconds t) ≡ u
        keeps u q = ap (set u 3) (sym q) ∙ set-get_or u 3 0

    module _ (full : ticks_per_second t ≤ ticks_into t + 1) where
      pub step-next : seconds t < last_second → set (set t 4 0) 3 (seconds t + 1) ≡ written_over (with_clock (read t) (clock_step (read t).clock)) t
      step-next p =
          let one : seconds t + 1 ≡ suc (seconds t) = omega arith in
          goes (seconds t + 1) 0 on
          (rw (eq-eqb (clock_set t) 1 on, le-ltb (suc (ticks_into t)) (ticks_per_second t) (omega arith), lt-ltb (seconds t) last_second p)
          (ap (λ (n : ℕ). clock_at (read t).clock n 0) (sym one)))

      pub step-last : last_second ≤ seconds t → t ≡ written_over (with_clock (read t) (clock_step (read t).clock)) t
      step-last p =
          stands (rw (eq-eqb (clock_set t) 1 on, le-ltb (suc (ticks_into t)) (ticks_per_second t) (omega arith), le-ltb (seconds t) last_second p))
