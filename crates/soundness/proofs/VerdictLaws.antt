-- What a verdict says, and what the number says from which it is made: no slot has the number 256, so that it tells just the tables that are not sound.
-- Assumes nothing.
use Prim.Native.Nat.{ℕ, ◌<◌}
use mathlib.Core.Path.{◌≡◌, refl, sym, ap, ◌∙◌}
use mathlib.Core.Logic.{◌≢◌}
use mathlib.Core.Bool.{Bool, true, false, cond, not}
use mathlib.Core.List.{List}
use native.Mathlib.Omega.{arith}
use lib.Dec.{eqb}
use borrow.Author.Tests.{eq-eqb, ne_eqb}
use Rattle.model.specs.Sound.{sound_tests, sound}
use Rattle.laws.proofs.ListLaws.{cases, all-at}
use Rattle.word_checks.proofs.HeaderTests.{header-ranges}
use Rattle.server_check.specs.LastSlots.{last_queued, last_if_sound}
use Rattle.server_check.proofs.LastSlot.{last-in-table}
use Rattle.std.specs.Prelude.{Some, None}
use Rattle.soundness.specs.Verdicts.{verdict}

module _ (t : List ℕ) where
  pub says-unsound : false ≡ sound t → None ≡ verdict t
  says-unsound e = ap (λ (b : Bool). cond b (Some (last_queued t)) None) e

  pub says-sound : (last : ℕ) → sound t ≡ true → last_queued t ≡ last → Some last ≡ verdict t
  says-sound last e l = ap Some (sym l) ∙ ap (λ (b : Bool). cond b (Some (last_queued t)) None) (sym e)

  -- ---- the number

  few : sound t ≡ true → last_queued t < 256
  unfolding sound
  few e = omega (arith, last-in-table t e, (header-ranges t (all-at (sound_tests t) e 0)).slots.1)

  found : sound t ≡ true → last_if_sound t ≡ last_queued t
  found e = ap (λ (b : Bool). cond b (last_queued t) 256) e

  not_found : sound t ≡ false → last_if_sound t ≡ 256
  not_found e = ap (λ (b : Bool). cond b (last_queued t) 256) e

  pub other-than : not (eqb (last_if_sound t) 256) ≡ sound t
  other-than =
      cases (sound t)
      (λ e. ap not (ne_eqb (last_if_sound t) 256 (λ z. omega (arith, z, found e, few e))) ∙ sym e)
      (λ e. ap not (eq-eqb (last_if_sound t) 256 (not_found e)) ∙ sym e)

  pub is-unsound : last_if_sound t ≡ 256 → false ≡ sound t
  is-unsound z = cases (sound t) (λ e. absurd (omega (arith, z, found e, few e))) (λ e. sym e)

  pub is-sound : last_if_sound t ≢ 256 → sound t ≡ true
  is-sound n = cases (sound t) (λ e. e) (λ e. absurd (n (not_found e)))

  pub is_last : last_if_sound t ≢ 256 → last_queued t ≡ last_if_sound t
  is_last n = sym (found (is-sound n))
