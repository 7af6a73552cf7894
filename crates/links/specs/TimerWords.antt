-- The words of a slot that a start writes besides its wait and its links. A reader need not believe these: the public contracts speak of the
-- model's state. Assumes nothing: these are definitions.
use Rattle.std.specs.Prelude.{ℕ, List, set}
use Rattle.chains.specs.EditedWords.{field_word}

-- kind, interval, routine and user data of slot i
unfoldable pub timer_put : List ℕ → ℕ → ℕ → ℕ → ℕ → ℕ → List ℕ
timer_put t i kind interval routine user_data =
    set (set (set (set t (field_word i 0) kind) (field_word i 2) interval) (field_word i 4) routine) (field_word i 5) user_data
