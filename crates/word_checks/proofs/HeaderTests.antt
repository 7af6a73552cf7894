-- The header's tests: what they say where they pass, and what is left of them where most have passed. Assumes nothing.
use Prim.Native.Nat.{ℕ, ◌+◌, ◌*◌, ◌≤◌, ◌<◌}
use mathlib.Core.Path.{◌≡◌}
use mathlib.Core.Bool.{true, false}
use mathlib.Core.List.{List}
use lib.ListN.{length}
use borrow.Author.Tests.{leb-true, ltb-true}
use Rattle.calendar.specs.Calendar.{last_second}
use Rattle.laws.proofs.ListLaws.{all-at}
use Rattle.model.specs.Words.{slot_count, ticks_per_second, clock_set, seconds, ticks_into, party_split, server_initiated}
use Rattle.model.specs.Sound.{header_tests, header_sound}
use Rattle.word_checks.proofs.BooleanTests.{never}

-- what all of them say but the last
pub record Ranges (t : List ℕ) : Type 0 where
  pub slots : (1 ≤ slot_count t) × (slot_count t ≤ 255)
  pub long : 10 + 8 * slot_count t ≤ length t
  pub per_second : (1 ≤ ticks_per_second t) × (ticks_per_second t ≤ 1000)
  pub flag : clock_set t ≤ 1
  pub second : seconds t ≤ last_second
  pub ticks : ticks_into t < ticks_per_second t
  pub split : party_split t < slot_count t
  pub server : server_initiated t ≤ 1

module _ (t : List ℕ) where
  pub header-ranges : header_sound t ≡ true → Ranges t
  unfolding header_sound
  header-ranges e =
      let at = all-at (header_tests t) e in
      record {
        slots = (leb-true 1 (slot_count t) (at 0), leb-true (slot_count t) 255 (at 1));
        long = leb-true (10 + 8 * slot_count t) (length t) (at 2);
        per_second = (leb-true 1 (ticks_per_second t) (at 3), leb-true (ticks_per_second t) 1000 (at 4));
        flag = leb-true (clock_set t) 1 (at 5);
        second = leb-true (seconds t) last_second (at 6);
        ticks = ltb-true (ticks_into t) (ticks_per_second t) (at 7);
        split = ltb-true (party_split t) (slot_count t) (at 8);
        server = leb-true (server_initiated t) 1 (at 9);
      }

  pub out_of_range : (Ranges t → ⊥) → false ≡ header_sound t
  out_of_range f = never (header_sound t) (λ e. f (header-ranges e))
