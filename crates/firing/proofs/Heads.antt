-- The first link of a chain, as the code finds it from the chain's header word: there is none where the word is 0, else its slot is one of
-- the table's and the slot's wait is its own, since nothing stands before it. Assumes nothing.
use mathlib.Core.Path.{◌≡◌, refl, ap, ◌∙◌}
use mathlib.Core.Logic.{◌≢◌}
use Prim.Native.Nat.{ℕ, ◌≤◌}
use native.Mathlib.Omega.{arith}
use mathlib.Core.List.{List, [], ◌∷◌}
use lib.ListN.{length}
use Rattle.model.specs.declared.Chain.{Chain}
use Rattle.model.specs.State.{Link, chain_of}
use Rattle.model.specs.Words.{first, word, head_word, read, wait_of, next_of, previous_of}
use Rattle.laws.proofs.WellFormed.{Holds}
use Rattle.laws.proofs.StateWords.{holds_parts}
use Rattle.links.proofs.LinkInMiddle.{mid-stands, mid-own}
use Rattle.links.proofs.WalkToPlace.{differ-zero}

-- the header word of a chain is its first slot
pub head_of : (k : Chain) {t : List ℕ} → Holds t (read t) → word t (head_word k) ≡ first (chain_of k (read t))
head_of k {t} h = ((holds_parts t (read t) h).lay k).links 0 (λ p. absurd (omega arith))

-- slot i is that of the first link of chain k
pub record Front (k : Chain) (t : List ℕ) (i : ℕ) : Type 0 where
  pub entry : Link
  pub back : List Link
  pub whole : chain_of k (read t) ≡ entry ∷ back
  pub slot : i ≡ entry.slot
  pub wait : wait_of t i ≡ entry.wait
  pub previous : previous_of t i ≡ 0
  pub next : next_of t i ≡ first back
  pub low : 1 ≤ i
  pub high : i ≤ length (read t).slots

module _ (k : Chain) {t : List ℕ} {i : ℕ} (h : Holds t (read t)) (here : i ≡ word t (head_word k)) where
  head-is : i ≡ first (chain_of k (read t))
  head-is = here ∙ head_of k h

  pub no_front : i ≡ 0 → chain_of k (read t) ≡ []
  no_front e = go (chain_of k (read t)) refl
    where
      go : (c : List Link) → chain_of k (read t) ≡ c → chain_of k (read t) ≡ []
      go [] q = q
      go (y ∷ ys) q = absurd (omega (arith, (mid-own k t (read t) h [] y ys q).0, head-is, ap first q))

  pub front : i ≢ 0 → Front k t i
  front n = go (chain_of k (read t)) refl
    where
      go : (c : List Link) → chain_of k (read t) ≡ c → Front k t i
      go [] q = absurd (n (head-is ∙ ap first q))
      go (y ∷ ys) q =
          let in_table = mid-own k t (read t) h [] y ys q in
          let e : i ≡ y.slot = head-is ∙ ap first q in
          record {
            entry = y;
            back = ys;
            whole = q;
            slot = e;
            wait = ap (wait_of t) e ∙ (mid-stands k t (read t) h [] y ys q).wait ∙ differ-zero k y.wait;
            next = ap (next_of t) e ∙ (mid-stands k t (read t) h [] y ys q).next;
            previous = ap (previous_of t) e ∙ (mid-stands k t (read t) h [] y ys q).previous;
            low = omega arith;
            high = omega arith;
          }
