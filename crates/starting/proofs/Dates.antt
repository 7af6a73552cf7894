-- A date that a timer is to wait for: not valid, not ahead of the clock, or ahead of it. Assumes nothing.
use mathlib.Core.Path.{◌≡◌, ap, ap₂, ◌∙◌}
use Prim.Native.Nat.{ℕ, ◌≤◌, ◌<◌}
use native.Mathlib.Omega.{arith}
use mathlib.Core.Bool.{Bool, true, false, not, ◌&&◌}
use mathlib.Core.List.{List}
use lib.Dec.{ltb}
use borrow.Author.Tests.{le-ltb, lt-ltb}
use Rattle.calendar.specs.declared.WallTime.{WallTime}
use Rattle.std.specs.Prelude.{Option, Some, None}
use Rattle.calendar.specs.Calendar.{seconds_of, instant_of}
use Rattle.calendar.proofs.Theorems.{second-answer, not-valid-answer}
use Rattle.model.specs.declared.Mode.{Mode}
use Rattle.model.specs.Directives.{not_ahead, started}
use Rattle.model.specs.Words.{written_over, read, seconds}

module _ (t : List ℕ) where
  pub not-a-date : (w : WallTime) {i : Option ℕ} → i ≡ instant_of w → i ≡ None → not_ahead (read t) w ≡ true
  not-a-date w e n = ap (λ (b : Bool). not (b && ltb (seconds t) (seconds_of w))) (not-valid-answer w e n)

  pub past-date : (w : WallTime) {s : ℕ} {i : Option ℕ} → i ≡ instant_of w → i ≡ Some s → s ≤ seconds t → not_ahead (read t) w ≡ true
  past-date w {s} e n h =
      let a = second-answer w s e n in
      ap₂ (λ (b c : Bool). not (b && c)) a.is-valid (le-ltb (seconds t) (seconds_of w) (omega (arith, a.is)))

  pub later-date : (w : WallTime) {s : ℕ} {i : Option ℕ} → i ≡ instant_of w → i ≡ Some s → seconds t < s → not_ahead (read t) w ≡ false
  later-date w {s} e n h =
      let a = second-answer w s e n in
      ap₂ (λ (b c : Bool). not (b && c)) a.is-valid (lt-ltb (seconds t) (seconds_of w) (omega (arith, a.is)))

  pub dated-is : (m : Mode) (w : WallTime) (r u : ℕ) {s i k : ℕ} {d : Option ℕ} {v : List ℕ} → d ≡ instant_of w → d ≡ Some s → i ≡ k
      → v ≡ written_over (started m (read t) i s r u) t → v ≡ written_over (started m (read t) k (seconds_of w) r u) t
  dated-is m w r u {s} e n is h = h ∙ ap₂ (λ (a b : ℕ). written_over (started m (read t) a b r u) t) is (second-answer w s e n).is
