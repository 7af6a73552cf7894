-- Where the server is not initiated, a slot that passed its tests is of kind 0 to 7: it waits for ticks if its kind is 4 or 6, for a date if it is 5,
-- and is never queued. Assumes nothing.
use mathlib.Core.Path.{◌≡◌, sym, ◌∙◌}
use Prim.Native.Nat.{ℕ, ◌≤◌, ◌<◌}
use native.Mathlib.Omega.{arith}
use mathlib.Core.Bool.{true, false, ◌||◌, or-false}
use mathlib.Core.List.{List}
use lib.Dec.{ltb, eqb}
use borrow.Author.Tests.{ltb-true, ne_eqb}
use Rattle.model.specs.declared.Chain.TheVariants.{ByTicks, ByDate, Queue}
use Rattle.model.specs.Kinds.{waits_in}
use Rattle.model.specs.Words.{kind_of}
use Rattle.laws.proofs.ListLaws.{all-at}
use Rattle.table.proofs.KindTests.{ticking-is, dated-is, queued-is}
use Rattle.word_checks.specs.Tested.{slot_tests_made, slot_tested}

-- a number below 8 is none of the server's kinds
below : (n m : ℕ) → n < 8 → 8 ≤ m → eqb n m ≡ false
below n m p q = ne_eqb n m (λ e. omega arith)

pub plain-kind : (t : List ℕ) (i : ℕ) → slot_tested false t i ≡ true → kind_of t i < 8
unfolding slot_tested
plain-kind t i e =
    let k = kind_of t i in
    ltb-true k 8 (sym (or-false (ltb k 8)) ∙ all-at (slot_tests_made false t i k) e 7)

pub plain-ticking : (n : ℕ) → n < 8 → waits_in ByTicks n ≡ (eqb n 4 || eqb n 6)
plain-ticking n p = ticking-is n ∙ rw (below n 10 p (omega arith)) (or-false (eqb n 4 || eqb n 6))

pub plain-dated : (n : ℕ) → n < 8 → waits_in ByDate n ≡ eqb n 5
plain-dated n p = dated-is n ∙ rw (below n 11 p (omega arith)) (or-false (eqb n 5))

pub plain-queued : (n : ℕ) → n < 8 → waits_in Queue n ≡ false
plain-queued n p = queued-is n ∙ rw (below n 12 p (omega arith), below n 13 p (omega arith))
