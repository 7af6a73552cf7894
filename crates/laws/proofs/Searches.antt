-- The search for the lowest slot that passes a test of its index and its words: what it finds is in range and passes, and no lower slot does. By
-- induction over the slots left to search. Assumes nothing.
use mathlib.Core.Path.{◌≡◌, ap, ◌∙◌}
use Prim.Native.Nat.{ℕ, zero, suc, ◌+◌, ◌-◌, ◌≤◌, ◌<◌}
use native.Mathlib.Omega.{arith}
use mathlib.Core.Bool.{Bool, true, false, ◌&&◌}
use mathlib.Core.List.{List, [], ◌∷◌}
use lib.ListN.{length}
use lib.Dec.{eqb}
use borrow.Author.Tests.{eqb-true, eqb-false}
use Rattle.model.specs.Parties.{owns}
use Rattle.model.specs.State.{Slot, State, slot_at, lowest}
use Rattle.model.specs.Directives.{lowest_free}
use Rattle.laws.proofs.ListLaws.{cases, both}

pub record Lowest (p : ℕ → Slot → Bool) (slots : List Slot) (at : ℕ) : Type 0 where
  pub low : 0 < at
  pub high : at ≤ length slots
  pub passes : p at (slot_at slots at) ≡ true
  pub least : (j : ℕ) → 0 < j → j < at → p j (slot_at slots j) ≡ false

-- the same of the slots left, behind b others
record LowestFrom (p : ℕ → Slot → Bool) (b : ℕ) (slots : List Slot) (at : ℕ) : Type 0 where
  low : b < at
  high : at ≤ b + length slots
  passes : p at (slot_at slots (at - b)) ≡ true
  least : (j : ℕ) → b < j → j < at → p j (slot_at slots (j - b)) ≡ false

behind : (x : Slot) (xs : List Slot) (m n : ℕ) → n ≡ suc m → 0 < m → slot_at (x ∷ xs) n ≡ slot_at xs m
behind x xs zero n e p = absurd (omega arith)
behind x xs (suc m) n e p = ap (slot_at (x ∷ xs)) e

module _ (p : ℕ → Slot → Bool) where
  -- the first of the slots left
  at_first : (b : ℕ) (x : Slot) (xs : List Slot) {c : Bool} → p (suc b) x ≡ c → p (suc b) (slot_at (x ∷ xs) (suc b - b)) ≡ c
  at_first b x xs e = let one : suc b - b ≡ 1 = omega arith in ap (λ (m : ℕ). p (suc b) (slot_at (x ∷ xs) m)) one ∙ e

  found_from : (b : ℕ) (slots : List Slot) → 0 < lowest p (suc b) slots → LowestFrom p b slots (lowest p (suc b) slots)
  found_from b [] some = absurd (omega arith)
  found_from b (x ∷ xs) some =
      cases (p (suc b) x)
      (λ e. rw e (record { low = omega arith; high = omega arith; passes = at_first b x xs e; least = λ j low high. absurd (omega arith) }))
      (λ e. rw e (
      let at = lowest p (suc (suc b)) xs in
      let r = found_from (suc b) xs (rw e at some) in
      record {
        low = omega (arith, r.low);
        high = omega (arith, r.high);
        passes = ap (p at) (behind x xs (at - suc b) (at - b) (omega (arith, r.low)) (omega (arith, r.low))) ∙ r.passes;
        least = λ j low high.
            cases (eqb j (suc b))
            (λ f. let is = eqb-true j (suc b) f in rw is (at_first b x xs e))
            (λ f.
            let above : suc b < j = omega (arith, eqb-false j (suc b) f) in
            ap (p j) (behind x xs (j - suc b) (j - b) (omega arith) (omega arith)) ∙ r.least j above high);
      }))

  pub found : (slots : List Slot) → 0 < lowest p 1 slots → Lowest p slots (lowest p 1 slots)
  found slots some =
      let at = lowest p 1 slots in
      let r = found_from 0 slots some in
      let same : (j : ℕ) → j ≡ j - 0 = λ j. omega arith in
      record {
        low = r.low;
        high = omega (arith, r.high);
        passes = ap (λ (m : ℕ). p at (slot_at slots m)) (same at) ∙ r.passes;
        least = λ j low high. ap (λ (m : ℕ). p j (slot_at slots m)) (same j) ∙ r.least j low high;
      }

-- a party's lowest free slot
pub record FreeSlot (s : State) (party at : ℕ) : Type 0 where
  pub low : 0 < at
  pub high : at ≤ length s.slots
  pub is_free : (slot_at s.slots at).kind ≡ 0
  pub own : owns s.split party at ≡ true

pub lowest-free : (s : State) (party : ℕ) → 0 < lowest_free s party → FreeSlot s party (lowest_free s party)
lowest-free s party p =
    let i = lowest_free s party in
    let kind = (slot_at s.slots i).kind in
    let r = found (λ j x. owns s.split party j && eqb x.kind 0) s.slots p in
    let b = both (owns s.split party i) (eqb kind 0) r.passes in
    record { low = r.low; high = r.high; is_free = eqb-true kind 0 b.1; own = b.0 }
