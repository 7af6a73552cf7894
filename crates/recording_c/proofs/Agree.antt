-- What C gets of a replay, and that `HC_AGREE` is no place and no position. Assumes nothing.
use mathlib.Core.Path.{◌≡◌, refl}
use Prim.Native.Nat.{ℕ}
use native.Mathlib.Omega.{arith}
use mathlib.Core.Option.{none, some}
use mathlib.Core.List.{List}
use Rattle.playback.specs.Replay.{replay_of}
use Rattle.playback.proofs.Bounds.{few-places}
use Rattle.recording_c.specs.Exports.{in_c, AgreeIsNone}

-- each number as it is, a place or position among them, and the header's number for none
pub place-given : (status k : ℕ) (table list : List ℕ)
    → in_c (replay_of status (some k) table list) ≡ record { status = status; place = k; table = table; list = list }
place-given status k table list = refl

pub agree-given : (status : ℕ) (table list : List ℕ)
    → in_c (replay_of status none table list) ≡ record { status = status; place = 4294967295; table = table; list = list }
agree-given status table list = refl

pub agree-is-none : AgreeIsNone
agree-is-none bytes table list k e = let h = few-places bytes table list k e in omega arith
