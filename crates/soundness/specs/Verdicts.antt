-- What the check says of a table: whether it is sound and, if it is, where its queue ends. Assumes nothing: these are definitions.
use Rattle.std.specs.Prelude.{ℕ, cond, List, Option, Some, None}
use Rattle.model.specs.Sound.{sound}
use Rattle.server_check.specs.LastSlots.{last_queued}

abbrev pub verdict : List ℕ → Option ℕ
verdict t = cond (sound t) (Some (last_queued t)) None
