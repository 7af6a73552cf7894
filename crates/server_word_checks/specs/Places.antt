-- What the code finds of a slot where server timers may occur: whether its words are right, and in which chain it stands. Assumes nothing: these are
-- definitions.
use Rattle.std.specs.Prelude.{ℕ, true, cond, List}
use Rattle.model.specs.declared.Chain.TheVariants.{ByTicks, ByDate, Queue}
use Rattle.model.specs.Kinds.{waits_in}
use Rattle.model.specs.Words.{kind_of}
use Rattle.word_checks.specs.Tested.{slot_tested}

-- the head word of the chain in which a slot of this kind stands, 0 for none
abbrev pub head_of : ℕ → ℕ
head_of kind = cond (waits_in ByTicks kind) 5 (cond (waits_in ByDate kind) 6 (cond (waits_in Queue kind) 9 0))

-- that of slot i, if the tests of its words pass; else 1
unfoldable pub place_of : List ℕ → ℕ → ℕ
place_of t i = cond (slot_tested true t i) (head_of (kind_of t i)) 1
