-- How far in a chain a slot stands, and what is found at the last slot of a chain's front: one induction along the front. Assumes nothing.
use mathlib.Core.Path.{◌≡◌, refl, subst}
use Prim.Native.Nat.{ℕ, suc, ◌+◌, ◌≤◌, ◌<◌}
use native.Mathlib.Omega.{arith}
use mathlib.Core.List.{List, [], ◌∷◌, ◌++◌}
use lib.ListN.{length}
use lib.Dec.{ltb, eqb}
use borrow.Author.Tests.{ltb-true, ltb-false, eq-eqb}
use Rattle.model.specs.declared.Chain.{Chain}
use Rattle.model.specs.State.{Link, State, chain_of, wait_at}
use Rattle.laws.proofs.ListLaws.{cases}
use Rattle.laws.proofs.WellFormed.{times_in, Chained}
use Rattle.laws.proofs.Chains.{times-own, once, met-in-range}
use Rattle.laws.proofs.StateWords.{absent}
use Rattle.links.specs.Places.{last_slot, last_wait}
use Rattle.links.proofs.LinkInMiddle.{times_more}

-- the number of links up to slot i, its own counted: slot i is in so many tails of the chain; 0 where it is not there
abbrev pub position : ℕ → List Link → ℕ
position i [] = 0
position i (w ∷ ws) = times_in (w ∷ ws) i + position i ws

-- slot i is link number m of the chain c, with wait w
record Found (i m w : ℕ) (c : List Link) : Type 0 where
  there : 0 < times_in c i
  at : position i c ≡ m
  wait : wait_at i c ≡ w

position-none : (i : ℕ) (c : List Link) → times_in c i ≡ 0 → position i c ≡ 0
position-none i [] e = refl
position-none i (w ∷ ws) e = omega (arith, e, position-none i ws (absent w ws i e).1)

wait-none : (i : ℕ) (c : List Link) → times_in c i ≡ 0 → wait_at i c ≡ 0
wait-none i [] e = refl
wait-none i (w ∷ ws) e = let a = absent w ws i e in rw a.0 (wait-none i ws a.1)

found : (x : Link) (xs ys : List Link) → ((j : ℕ) → times_in (x ∷ xs ++ ys) j ≤ 1)
    → Found (last_slot x.slot xs) (suc (length xs)) (last_wait x.wait xs) (x ∷ xs ++ ys)
found x [] ys o =
    let own = times-own x ys in
    record {
      there = omega arith;
      at = omega (arith, o x.slot, position-none x.slot ys (omega (arith, o x.slot)));
      wait = rw (eq-eqb x.slot x.slot refl);
    }
found x (y ∷ xs) ys o =
    let j = last_slot y.slot xs in
    let f = found y xs ys (λ i. omega (arith, o i, times_more x (y ∷ xs ++ ys) i)) in
    cases (eqb x.slot j)
    (λ e. absurd (let z : suc (times_in (y ∷ xs ++ ys) j) ≤ 1 = rw e at (o j) in omega (arith, f.there)))
    (λ e. record {
      there = rw e f.there;
      at = omega (arith, f.at, f.there, o j, times_more x (y ∷ xs ++ ys) j);
      wait = rw e f.wait;
    })

-- the last slot of the front xs of the chain c; 0 where the front is empty
pub record Last (xs c : List Link) : Type 0 where
  pub there : 0 < last_slot 0 xs → 0 < times_in c (last_slot 0 xs)
  pub at : position (last_slot 0 xs) c ≡ length xs
  pub wait : wait_at (last_slot 0 xs) c ≡ last_wait 0 xs

module _ (k : Chain) (s : State) (h : Chained s) where
  -- there is no slot 0
  zero-none : times_in (chain_of k s) 0 ≡ 0
  zero-none =
      cases (ltb 0 (times_in (chain_of k s) 0))
      (λ e. absurd (omega (arith, (met-in-range s h k 0 (ltb-true 0 (times_in (chain_of k s) 0) e)).0)))
      (λ e. omega (arith, ltb-false 0 (times_in (chain_of k s) 0) e))

  pub last_of : (xs ys : List Link) → chain_of k s ≡ xs ++ ys → Last xs (chain_of k s)
  last_of [] ys e = record {
    there = λ p. absurd (omega arith);
    at = position-none 0 (chain_of k s) zero-none;
    wait = wait-none 0 (chain_of k s) zero-none;
  }
  last_of (x ∷ xs) ys e =
      let f = found x xs ys (λ j. subst (λ (c : List Link). times_in c j ≤ 1) e (once s h k j)) in
      rw e (record { there = λ _. f.there; at = f.at; wait = f.wait })
