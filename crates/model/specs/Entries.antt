-- The entries of a lent list, word by word. Assumes nothing: these are definitions.
use Rattle.std.specs.Prelude.{◌≡◌, ℕ, ◌+◌, ◌*◌, ◌≤◌, List, ◌∷◌, ◌++◌, length}
use Rattle.model.specs.State.{Fired}
use Rattle.model.specs.Words.{word}

-- entry number i of a list, three words each: id, then routine and data
pub record EntryAt (list : List ℕ) (i : ℕ) (f : Fired) : Type 0 where
  pub id : word list (3 * i) ≡ f.id
  pub routine : word list (3 * i + 1) ≡ f.routine
  pub user_data : word list (3 * i + 2) ≡ f.user_data

-- a list has these entries, in this order, and after them the words with which it was lent
pub record Begins (list lent : List ℕ) (fs : List Fired) : Type 0 where
  pub entry : (xs ys : List Fired) (f : Fired) → fs ≡ xs ++ (f ∷ ys) → EntryAt list (length xs) f
  pub rest : (m : ℕ) → 3 * length fs ≤ m → word list m ≡ word lent m
  pub as_long : length list ≡ length lent
