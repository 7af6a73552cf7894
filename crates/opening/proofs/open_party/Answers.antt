-- `opening::open_party` meets its contract: the rules are tried in their order. Assumes nothing.
use mathlib.Core.Path.{sym}
use native.Mathlib.Omega.{arith}
use Rattle.laws.proofs.SoundHolds.{sound-header}
use Rattle.opening.proofs.open_party.Goals as goal

pub bounds-table-7 : goal.bounds-table-7
bounds-table-7 c = omega (arith, sound-header _ (sym c.if-not-is_sound.ensures))
