-- The lent list is long enough, or too short. Assumes nothing.
use mathlib.Core.Path.{◌≡◌}
use Prim.Native.Nat.{ℕ, ◌*◌, ◌≤◌, ◌<◌}
use native.Mathlib.Omega.{arith}
use mathlib.Core.Bool.{true, false}
use mathlib.Core.List.{List}
use lib.ListN.{length}
use borrow.Author.Tests.{le-ltb, lt-ltb}
use Rattle.model.specs.Directives.{is_short}
use Rattle.model.specs.Words.{read, slot_count}
use Rattle.laws.proofs.ReadBack.{slots_length}

module _ (t list : List ℕ) where
  pub too_short : length list < 3 * slot_count t → is_short (read t) list ≡ true
  too_short h = lt-ltb (length list) (3 * length (read t).slots) (omega (arith, slots_length t))

  pub not_short : 3 * slot_count t ≤ length list → is_short (read t) list ≡ false
  not_short h = le-ltb (length list) (3 * length (read t).slots) (omega (arith, slots_length t))
