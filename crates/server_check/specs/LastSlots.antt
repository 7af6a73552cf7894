-- Where the queue of a table ends, and the number by which the check says so. Assumes nothing: these are definitions.
use Rattle.std.specs.Prelude.{ℕ, cond, List, [], ◌∷◌}
use Rattle.model.specs.declared.Chain.TheVariants.{Queue}
use Rattle.model.specs.State.{Link}
use Rattle.model.specs.Words.{links}
use Rattle.model.specs.Sound.{sound}

-- the slot of the last link, p if there is none
abbrev pub last_after : ℕ → List Link → ℕ
last_after p [] = p
last_after p (w ∷ ws) = last_after w.slot ws

-- the last slot of the queue, 0 if it is empty
abbrev pub last_queued : List ℕ → ℕ
last_queued t = last_after 0 (links Queue t)

-- that, if the table is sound; else a number that no slot has
abbrev pub last_if_sound : List ℕ → ℕ
last_if_sound t = cond (sound t) (last_queued t) 256
