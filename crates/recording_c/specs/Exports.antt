-- What C gets of a replay: its numbers, the place of agree among them. Assumes nothing: these are definitions.
use Rattle.std.specs.Prelude.{◌≡◌, ℕ, ◌<◌, List}
use Rattle.std.proofs.Math.Option.{Option, none, some}
use Rattle.playback.specs.Replay.{Replay, replaying}

-- `HC_AGREE`, which is no place and no position (`AgreeIsNone`)
abbrev pub agree : ℕ
agree = 4294967295

abbrev pub place_number : Option ℕ → ℕ
place_number none = agree
place_number (some place) = place

pub record Exported : Type 0 where
  pub status : ℕ
  pub place : ℕ
  pub table : List ℕ
  pub list : List ℕ

abbrev pub exported : ℕ → ℕ → List ℕ → List ℕ → Exported
exported status place table list = record { status = status; place = place; table = table; list = list }

abbrev pub in_c : Replay → Exported
in_c r = exported r.status (place_number r.place) r.table r.list

-- A place, and the position of a refusal, are below `HC_AGREE`: C can tell that no status differs from that one does.
abbrev pub AgreeIsNone : Type 0
AgreeIsNone = (bytes table list : List ℕ) (k : ℕ) → (replaying bytes table list).place ≡ some k → k < agree
