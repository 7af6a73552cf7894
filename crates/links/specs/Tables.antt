-- A table as it was and as it is. Assumes nothing: these are definitions.
use Rattle.std.specs.Prelude.{◌≡◌}
use Rattle.model.specs.State.{State}
use Rattle.model.specs.Words.{written_over}
use Rattle.links.specs.declared.Table.{Table}

-- it is the same slice still
abbrev pub SameWords : Table → Table → Type 0
SameWords old new = new.words.ghost_name ≡ old.words.ghost_name

-- it is the same slice still, whose words are those of this state, written over those from before
pub record Becomes (old new : Table) (s : State) : Type 0 where
  pub same_words : SameWords old new
  pub is : new.words.now ≡ written_over s old.words.now
