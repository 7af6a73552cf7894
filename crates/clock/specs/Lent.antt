-- The rules with which a call that is lent a list opens, and what it knows of the list then. A reader need not believe these: the calls'
-- contracts speak of the model. Assumes nothing: these are definitions.
use Rattle.std.specs.Prelude.{◌≡◌, ℕ, ◌*◌, ◌≤◌, true, false, not, List, [], ◌∷◌, length}
use Rattle.model.specs.declared.Status.TheVariants.{NotSound, ListTooShort}
use Rattle.model.specs.Status.{Refusal, when}
use Rattle.model.specs.Directives.{is_short}
use Rattle.model.specs.Words.{read, slot_count}
use Rattle.model.specs.Sound.{sound}
use Rattle.firing.specs.Lists.{EndsAt}

-- the table is not sound; the list is too short
abbrev pub on_list : List ℕ → List ℕ → List Refusal
on_list t list = when NotSound (not (sound t)) ∷ when ListTooShort (is_short (read t) list) ∷ []

-- neither rule applies, the list has three words for each slot, and slot `end` is the last of the queue
pub record Lent (t list : List ℕ) (end : ℕ) : Type 0 where
  pub ok : sound t ≡ true
  pub tested : not (sound t) ≡ false
  pub rule : is_short (read t) list ≡ false
  pub long : 3 * slot_count t ≤ length list
  pub last : EndsAt t end
