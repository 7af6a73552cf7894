-- `macro_library::find_in` meets its contract: what is sought from the start is what is sought from the place reached. Assumes nothing.
use Prim.Native.Nat.{◌-◌, ◌≤◌}
use mathlib.Core.Path.{◌≡◌}
use lib.ListN.{length, drop}
use Rattle.macro_library.specs.Library.{sought}
use Rattle.macro_library.proofs.find_in.Given as goal

abbrev pub invariant-loop-at : goal.invariant-loop-at
invariant-loop-at l = (l.at ≤ length l.library) × (sought l.name 0 0 l.library ≡ sought l.name l.at 0 (drop l.at l.library))

abbrev pub decreases-loop-at : goal.decreases-loop-at
decreases-loop-at l = length l.library - l.at
