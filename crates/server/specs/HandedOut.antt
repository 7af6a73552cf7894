-- What a slot that is handed out leaves of table and list. A reader need not believe this: the calls' contracts speak of the model. Assumes nothing:
-- these are definitions.
use Rattle.std.specs.Prelude.{◌≡◌, ℕ, ◌+◌, List, [], ◌∷◌}
use Rattle.std.proofs.lemmas.List.Edits.{sets}
use Rattle.model.specs.State.{slot_at, id_base}
use Rattle.model.specs.Directives.{stopped, idled}
use Rattle.model.specs.Words.{read, written_over, routine_of, data_of}

-- slot i stopped, and its three words are the list's first
pub record HandedOut (t list : List ℕ) (i : ℕ) (t' list' : List ℕ) : Type 0 where
  pub table : t' ≡ written_over (stopped (read t) i (idled (slot_at (read t).slots i))) t
  pub entry : list' ≡ sets list 0 ((id_base + i) ∷ routine_of t i ∷ data_of t i ∷ [])
