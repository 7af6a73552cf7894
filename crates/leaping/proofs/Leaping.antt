-- A leap on the words of a table: the ticks in which no timer is due, at once, leave what the leap does where none is due at all; else they leave a sound
-- table, and one tick from there leaves what the leap does.
-- Assumes nothing.
use mathlib.Core.Path.{◌≡◌, refl, sym, ap, ap₂, ◌∙◌, subst}
use Prim.Native.Nat.{ℕ, ◌+◌, ◌-◌, ◌≤◌, ◌<◌}
use native.Mathlib.Omega.{arith}
use mathlib.Core.List.{List, map, head-eq_of_cons-eq}
use lib.ListN.{length}
use Rattle.model.specs.Lists.{All}
use Rattle.model.specs.State.{State, listed}
use Rattle.model.specs.Directives.{most_leap, clock_step, ticked, Leapt}
use Rattle.model.specs.Words.{read, written_over}
use Rattle.model.specs.Outcome.{written}
use Rattle.laws.proofs.ListLaws.{all_map}
use Rattle.laws.proofs.WellFormed.{WellFormed, Holds}
use Rattle.laws.proofs.ReadBack.{slots_length, read_back, over-over, over-holds}
use Rattle.laws.proofs.SoundHolds.{sound-holds, sound-well-formed}
use Rattle.laws.proofs.HoldsSound.{well-formed-sound}
use Rattle.laws.proofs.KeptWellFormed.{tick-slots}
use Rattle.links.specs.Places.{last_slot}
use Rattle.firing.specs.Lists.{Leaves}
use Rattle.firing.proofs.Ticks.{ticked_to}
use Rattle.leaping.specs.Leaps.{skipped, until_due, Ready, LeapLeaves}
use Rattle.leaping.proofs.Until.{Until, until-due, skips-well-formed, leaps-at-once, leap-is-jump, sooner}

-- a tick fires at no ticks left, and up to the second that the clock has come to
pub tick_is : (t list : List ℕ) {limit second m : ℕ} {u list' : List ℕ} → second ≡ (clock_step (read t).clock).second
    → Leaves t list (ticked_to limit second (read t)) m u list' → limit ≡ 0 → Leaves t list (ticked (read t)) m u list'
tick_is t list {limit} {second} {m} {u} {list'} e l at =
    let first = subst (λ (d : ℕ). Leaves t list (ticked_to d second (read t)) m u list') at l in
    subst (λ (d : ℕ). Leaves t list (ticked_to 0 d (read t)) m u list') e first

module _ (t list : List ℕ) {end : ℕ} (r : Ready t list end) (k : ℕ) (few : k ≤ most_leap) {d : ℕ} (is : d ≡ until_due (k + 1) (read t)) where
  abbrev s : State
  s = read t

  -- no timer is due before the last of d ticks
  beyond : Until (k + 1) d s
  beyond = subst (λ (n : ℕ). Until (k + 1) n s) (sym is) (until-due (k + 1) (omega arith) s (sound-well-formed t r.ok))

  -- ---- none is due in k ticks
  module _ (none : k < d) where
    pub jump-far : All (λ w. k ≤ w.wait) s.ticking
    jump-far = all_map (λ w p. omega arith) s.ticking beyond.ticks

    pub jump-done : {u : List ℕ} → u ≡ written_over (skipped k s) t → LeapLeaves t list k 0 k u list
    jump-done {u} e =
        let next : d ≡ k + 1 = omega (arith, beyond.high) in
        let whole = sym (leap-is-jump k s (subst (λ (n : ℕ). Until (k + 1) n s) next beyond)) in
        record {
          table = e ∙ ap (λ (x : Leapt). written_over x.state t) whole;
          fired = ap (λ (x : Leapt). length x.fired) whole;
          ticks = ap (λ (x : Leapt). x.done) whole;
          entries = ap (λ (x : Leapt). written (map (listed s.slots) x.fired) list) whole;
        }

  -- ---- one is due in the last of d ticks
  module _ (some : d ≤ k) where
    until : Until k d s
    until = sooner k d s beyond some

    pub done-low : 1 ≤ d
    done-low = until.low

    pub skip-few : d - 1 ≤ most_leap
    skip-few = omega (arith, until.high)

    pub skip-far : All (λ w. d - 1 ≤ w.wait) s.ticking
    skip-far = all_map (λ w p. omega arith) s.ticking until.ticks

    -- the table after the others
    module _ {u : List ℕ} (e : u ≡ written_over (skipped (d - 1) s) t) where
      abbrev s' : State
      s' = skipped (d - 1) s

      formed : WellFormed s'
      formed = skips-well-formed k d s until (sound-well-formed t r.ok)

      holds : Holds u s'
      holds = subst (λ (w : List ℕ). Holds w s') (sym e) (over-holds t s s' (sound-holds t r.ok) formed.chained refl)

      here : read u ≡ s'
      here = read_back u s' holds

      pub skipped-ready : Ready u list end
      skipped-ready = record {
        ok = well-formed-sound u s' holds formed;
        long = omega (arith, ap (λ (z : State). length z.slots) here, slots_length u, slots_length t, r.long);
        last = r.last ∙ ap (λ (z : State). last_slot 0 z.queue) (sym here);
      }

      pub leap-done : {m : ℕ} {v list' : List ℕ} → Leaves u list (ticked (read u)) m v list' → LeapLeaves t list k m d v list'
      leap-done {m} {v} {list'} l =
          let whole = sym (leaps-at-once k d s until) in
          record {
            table = l.table ∙ ap₂ (λ (z : State) (w : List ℕ). written_over (ticked z).state w) here e
                ∙ over-over s' (ticked s').state t (tick-slots s') ∙ ap (λ (x : Leapt). written_over x.state t) whole;
            fired = head-eq_of_cons-eq l.answer ∙ ap (λ (z : State). length (ticked z).fired) here ∙ ap (λ (x : Leapt). length x.fired) whole;
            ticks = ap (λ (x : Leapt). x.done) whole;
            entries = l.entries ∙ ap (λ (z : State). written (map (listed z.slots) (ticked z).fired) list) here
                ∙ ap (λ (x : Leapt). written (map (listed s.slots) x.fired) list) whole;
          }
