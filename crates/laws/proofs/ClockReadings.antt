-- What is read of the clock's calls on any table: which number a set clock is refused with, how far an accepted one moves the clock, what get clock
-- answers, and that fire when and server fire when ignore the ticks of their date. Assumes nothing.
use mathlib.Core.Path.{◌≡◌, refl, ap, ◌∙◌}
use Prim.Native.Nat.{ℕ, ◌+◌, ◌*◌}
use mathlib.Core.Bool.{Bool, true, false, cond, not, ◌&&◌}
use mathlib.Core.List.{List, [], ◌∷◌}
use lib.ListN.{length}
use lib.IntN.{pos, ◌-ℤ◌}
use lib.Dec.{ltb, eqb}
use borrow.Author.Tests.{eq-eqb, ne_eqb}
use Rattle.calendar.specs.declared.WallTime.{WallTime}
use Rattle.calendar.specs.Calendar.{valid, seconds_of, date_of}
use Rattle.model.specs.declared.Status.TheVariants.{NotSound, ListTooShort, InvalidClock}
use Rattle.model.specs.Status.{when, first_of}
use Rattle.model.specs.Calls.{fire_when, set_clock, get_clock, server_fire_when}
use Rattle.model.specs.Directives.{is_short, numbers}
use Rattle.model.specs.Words.{read, slot_count, ticks_per_second, clock_set, seconds, ticks_into}
use Rattle.model.specs.Sound.{sound}
use Rattle.model.specs.Outcome.{Outcome, status_on, outcome, movement}
use Rattle.laws.proofs.ReadBack.{slots_length}
use Rattle.laws.proofs.OutcomeLaws.{outcome-accepted}

-- ---- set clock: 100, then 101, then 20

in_order : (a b c : Bool)
    → first_of (when NotSound (not a) ∷ when ListTooShort b ∷ when InvalidClock (not c) ∷ []) ≡ cond a (cond b 101 (cond c 0 20)) 100
in_order true true true = refl
in_order true true false = refl
in_order true false true = refl
in_order true false false = refl
in_order false true true = refl
in_order false true false = refl
in_order false false true = refl
in_order false false false = refl

module _ (t : List ℕ) (w : WallTime) (list : List ℕ) where
  pub set-clock-status : status_on t (set_clock w list)
      ≡ cond (sound t) (cond (ltb (length list) (3 * slot_count t)) 101 (cond (valid w && ltb w.ticks (ticks_per_second t)) 0 20)) 100
  unfolding status_on
  set-clock-status =
      in_order (sound t) (is_short (read t) list) (valid w && ltb w.ticks (ticks_per_second t))
      ∙ ap (λ (n : ℕ). cond (sound t) (cond (ltb (length list) (3 * n)) 101 (cond (valid w && ltb w.ticks (ticks_per_second t)) 0 20)) 100) (slots_length t)

  -- It answers how far the clock moved, as new minus old in ticks, 0 where it was not set; 0 on a refusal.
  pub set-clock-moves-by : status_on t (set_clock w list) ≡ 0
      → movement t w list
      ≡ cond (eqb (clock_set t) 1) (pos (seconds_of w * ticks_per_second t + w.ticks) -ℤ pos (seconds t * ticks_per_second t + ticks_into t)) (pos 0)
  set-clock-moves-by z = rw (eq-eqb (status_on t (set_clock w list)) 0 z)

  pub refused-moves-none : (status_on t (set_clock w list) ≡ 0 → ⊥) → movement t w list ≡ pos 0
  refused-moves-none z = rw (ne_eqb (status_on t (set_clock w list)) 0 z)

-- ---- Get clock gives the date and, in ticks, word 4.

pub get-clock-reads : (t : List ℕ) → status_on t get_clock ≡ 0 → (outcome t get_clock).answer ≡ numbers (date_of (seconds t)) (ticks_into t)
get-clock-reads t z = ap (λ (o : Outcome). o.answer) (outcome-accepted t get_clock z)

-- ---- Fire when still ignores the ticks, and so does server fire when.

abbrev pub with_ticks : WallTime → ℕ → WallTime
with_ticks w n = record { year = w.year; month = w.month; day = w.day; hour = w.hour; minute = w.minute; second = w.second; ticks = n }

module _ (t : List ℕ) (party id : ℕ) (w : WallTime) (n r u : ℕ) where
  pub when-ignores-ticks : outcome t (fire_when party id (with_ticks w n) r u) ≡ outcome t (fire_when party id w r u)
  unfolding outcome status_on valid seconds_of
  when-ignores-ticks = refl

  pub server-when-ignores-ticks : outcome t (server_fire_when party id (with_ticks w n) r u) ≡ outcome t (server_fire_when party id w r u)
  unfolding outcome status_on valid seconds_of
  server-when-ignores-ticks = refl
