-- The clock of a sound table, as the calls that ask for it find it. Assumes nothing.
use mathlib.Core.Path.{◌≡◌, refl, sym, ap, ap₂, ◌∙◌, subst}
use Prim.Native.Nat.{ℕ, ◌≤◌, ◌<◌}
use native.Mathlib.Omega.{arith}
use mathlib.Core.Bool.{Bool, true, false, not, ◌&&◌}
use mathlib.Core.List.{List, [], ◌∷◌}
use lib.ListN.{take}
use lib.IntN.{ℤ, pos}
use lib.Dec.{ltb}
use borrow.Author.Tests.{lt-ltb, le-ltb, eq-eqb, ne_eqb}
use Rattle.calendar.specs.declared.WallTime.{WallTime}
use Rattle.std.specs.Prelude.{Option, Some, None}
use Rattle.calendar.specs.Calendar.{valid, seconds_of, date_of, instant_of, date_answer}
use Rattle.calendar.proofs.Theorems.{second-answer, not-valid-answer, on-answer, past-answer}
use Rattle.model.specs.declared.Status.{Status}
use Rattle.model.specs.declared.Status.TheVariants.{InvalidClock}
use Rattle.model.specs.declared.Chain.{Chain}
use Rattle.model.specs.declared.Chain.TheVariants.{ByDate}
use Rattle.model.specs.Lists.{All}
use Rattle.model.specs.Status.{number_of}
use Rattle.model.specs.Calls.{tick, set_clock, leap}
use Rattle.model.specs.Directives.{not_settable, clock_at, ticked, moved_by, numbers}
use Rattle.model.specs.Words.{read, ticks_per_second, seconds, ticks_into}
use Rattle.model.specs.Sound.{sound}
use Rattle.model.specs.Outcome.{Outcome, outcome_of, status_on, outcome, movement}
use Rattle.laws.proofs.ListLaws.{cases, and_both}
use Rattle.laws.proofs.StatusLaws.{not-zero}
use Rattle.laws.proofs.OutcomeLaws.{outcome-status}
use Rattle.laws.proofs.SoundHolds.{sound-header}
use Rattle.firing.specs.Lists.{Leaves}
use Rattle.firing.proofs.Ticks.{moved_to}
use Rattle.leaping.specs.Leaps.{Ready, LeapLeaves}
use Rattle.std.specs.declared.result.Result.{Result}
use Rattle.std.specs.declared.result.Result.TheVariants.{Err}
use Rattle.answers.specs.Answers.{status_of, answer_of}
use Rattle.answers.specs.Openings.{Opens}
use Rattle.answers.proofs.Openings.{refuses-as}
use Rattle.answers.proofs.Replies.{rules, refuses, done}
use Rattle.clock.specs.Lent.{on_list, Lent}

module _ (t : List ℕ) where
  -- the seconds of a sound table are not past the last
  pub in-calendar : {d : Option WallTime} → sound t ≡ true → d ≡ date_answer (seconds t) → d ≡ None → ⊥
  in-calendar ok e p = omega (arith, past-answer (seconds t) e p, (sound-header t ok).second-high)

  pub time-now : {d : Option WallTime} {w : WallTime} → d ≡ date_answer (seconds t) → d ≡ Some w → numbers w (ticks_into t) ≡ numbers (date_of (seconds t)) (ticks_into t)
  time-now {w = w} e p = ap (λ (x : WallTime). numbers x (ticks_into t)) (on-answer (seconds t) w e p).is

-- ---- set clock

-- the date is not valid, or its ticks are T or more; or neither
module _ (t : List ℕ) (w : WallTime) where
  pub not_valid : {i : Option ℕ} → i ≡ instant_of w → i ≡ None → not_settable (read t) w ≡ true
  not_valid e n = ap (λ (b : Bool). not (b && ltb w.ticks (ticks_per_second t))) (not-valid-answer w e n)

  pub too-many-ticks : ticks_per_second t ≤ w.ticks → not_settable (read t) w ≡ true
  too-many-ticks h = cases (valid w) (λ e. rw (e, le-ltb w.ticks (ticks_per_second t) h)) (λ e. rw e)

  pub is-clock : {s : ℕ} {i : Option ℕ} → i ≡ instant_of w → i ≡ Some s → w.ticks < ticks_per_second t → not_settable (read t) w ≡ false
  is-clock {s} e n h =
      ap not
      (and_both (valid w) (ltb w.ticks (ticks_per_second t)) (second-answer w s e n).is-valid (lt-ltb w.ticks (ticks_per_second t) h))

-- ---- how far it moved

module _ (t : List ℕ) (w : WallTime) (list : List ℕ) {a u l : List ℕ} where
  -- 0 where it is refused
  pub refused-stays : (s : Status) → outcome_of (number_of s) a u l ≡ outcome t (set_clock w list) → pos 0 ≡ movement t w list
  refused-stays s o =
      let is : number_of s ≡ status_on t (set_clock w list) = ap (λ (x : Outcome). x.status) o ∙ outcome-status t (set_clock w list) in
      rw (ne_eqb (status_on t (set_clock w list)) 0 (λ z. not-zero s (is ∙ z))) refl

  -- to the second and ticks given
  pub accepted-moves : {s : ℕ} {m : ℤ} → outcome_of 0 a u l ≡ outcome t (set_clock w list) → s ≡ seconds_of w
      → m ≡ moved_by (read t).clock (clock_at (read t).clock s w.ticks) → m ≡ movement t w list
  accepted-moves {s} {m} o e by =
      let is : status_on t (set_clock w list) ≡ 0 = sym (ap (λ (x : Outcome). x.status) o ∙ outcome-status t (set_clock w list)) in
      by ∙ ap (λ (d : ℕ). moved_by (read t).clock (clock_at (read t).clock d w.ticks)) e
      ∙ sym (rw (eq-eqb (status_on t (set_clock w list)) 0 is) refl)

-- the table is not sound, or the list too short
pub opening-refused : (t : List ℕ) (w : WallTime) (list : List ℕ) {P : ℕ → Type 0} {r : Result ℕ Status} {s : Status} → Opens (on_list t list) P r → r ≡ Err s
    → (outcome_of (status_of r) (answer_of r) t list ≡ outcome t (set_clock w list)) × (pos 0 ≡ movement t w list)
opening-refused t w list {r = r} {s = s} opens e =
    let o : outcome_of (status_of r) (answer_of r) t list ≡ outcome t (set_clock w list) = refuses-as t (set_clock w list) opens e _ refl refl in
    (o, refused-stays t w list s (ap (λ (a : Result ℕ Status). outcome_of (status_of a) (answer_of a) t list) (sym e) ∙ o))

-- a date that is not valid, or ticks of T or more
pub clock-refused : (t : List ℕ) (w : WallTime) (list : List ℕ)
    → All (λ r. r.given ≡ false) (take 2 (rules t (set_clock w list))) → not_settable (read t) w ≡ true
    → (outcome_of (number_of InvalidClock) (0 ∷ []) t list ≡ outcome t (set_clock w list)) × (pos 0 ≡ movement t w list)
clock-refused t w list first given =
    let o : outcome_of (number_of InvalidClock) (0 ∷ []) t list ≡ outcome t (set_clock w list) =
    refuses t (set_clock w list) InvalidClock 2 first given refl in
    (o, refused-stays t w list InvalidClock o)

-- ---- what it leaves

pub second_is : (w : WallTime) {s : ℕ} {i : Option ℕ} → i ≡ instant_of w → i ≡ Some s → s ≡ seconds_of w
second_is w {s} e n = (second-answer w s e n).is

-- it fires the dated timers, up to the second given
pub set-clock-done : (t : List ℕ) (w : WallTime) (list : List ℕ) {k : Chain} {limit s m : ℕ} {u list' : List ℕ}
    → All (λ r. r.given ≡ false) (rules t (set_clock w list)) → s ≡ seconds_of w
    → Leaves t list (moved_to k limit (read t) s w.ticks) m u list' → k ≡ ByDate → limit ≡ s
    → outcome_of 0 (m ∷ []) u list' ≡ outcome t (set_clock w list)
set-clock-done t w list {k} {limit} {s} {m} {u} {list'} none e l chain to =
    let dated = subst (λ (x : Chain). Leaves t list (moved_to x limit (read t) s w.ticks) m u list') chain l in
    let now = subst (λ (d : ℕ). Leaves t list (moved_to ByDate d (read t) s w.ticks) m u list') to dated in
    let left = subst (λ (d : ℕ). Leaves t list (moved_to ByDate d (read t) d w.ticks) m u list') e now in
    done t (set_clock w list) (m ∷ []) u list' none left.answer left.table left.entries

-- ---- tick

pub lent-ready : (t list : List ℕ) {end : ℕ} → Lent t list end → Ready t list end
lent-ready t list l = record { ok = l.ok; long = l.long; last = l.last }

pub tick-done : (t list : List ℕ) {m : ℕ} {u list' : List ℕ} → All (λ r. r.given ≡ false) (rules t (tick list))
    → Leaves t list (ticked (read t)) m u list' → outcome_of 0 (m ∷ []) u list' ≡ outcome t (tick list)
tick-done t list {m} {u} {list'} none l = done t (tick list) (m ∷ []) u list' none l.answer l.table l.entries

-- ---- leap

pub leap-done : (t list : List ℕ) {k m d : ℕ} {u list' : List ℕ} → All (λ r. r.given ≡ false) (rules t (leap k list))
    → LeapLeaves t list k m d u list' → outcome_of 0 (m ∷ d ∷ []) u list' ≡ outcome t (leap k list)
leap-done t list {k} {m} {d} {u} {list'} none l =
    done t (leap k list) (m ∷ d ∷ []) u list' none (ap₂ {C = List ℕ} (λ (a b : ℕ). a ∷ b ∷ []) l.fired l.ticks) l.table l.entries
