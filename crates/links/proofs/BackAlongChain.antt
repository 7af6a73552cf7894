-- Back along the interval chain: what the words of a slot say of the slot before it. The chain is split at the slot; the slot before is the
-- last one of the front, and the slot itself the last one of the front with it. Assumes nothing.
use mathlib.Core.Path.{◌≡◌, refl, sym, ap, ◌∙◌, subst}
use Prim.Native.Nat.{ℕ, ◌+◌, ◌*◌, ◌≤◌, ◌<◌}
use native.Mathlib.Omega.{arith}
use mathlib.Core.List.{List, [], ◌∷◌, ◌++◌, append_assoc}
use lib.ListN.{length, length-append}
use Rattle.model.specs.declared.Chain.TheVariants.{ByTicks}
use Rattle.model.specs.Lists.{All}
use Rattle.model.specs.State.{Slot, Link, slot_at, wait_at}
use Rattle.model.specs.Words.{read, interval_of, wait_of, previous_of}
use Rattle.laws.proofs.WellFormed.{times_in, Holds}
use Rattle.laws.proofs.Chains.{once}
use Rattle.laws.proofs.StateWords.{holds_parts}
use Rattle.links.proofs.LinkInMiddle.{last-slot, last-wait, split, all-mid, mid-stands, mid-own, last-low}
use Rattle.links.proofs.Positions.{position, last_of}

-- slot i of the interval chain, and the slot before it
pub record Before (t : List ℕ) (i : ℕ) : Type 0 where
  pub inside : 8 * i + 10 ≤ length t
  pub there : 0 < previous_of t i → 0 < times_in (read t).ticking (previous_of t i)
  pub less : position (previous_of t i) (read t).ticking < position i (read t).ticking
  pub sum : wait_at (previous_of t i) (read t).ticking + wait_of t i ≡ wait_at i (read t).ticking
  pub fits : wait_at i (read t).ticking ≤ interval_of t i

module _ (t : List ℕ) (h : Holds t (read t)) where
  pub none_before : (i : ℕ) → i ≡ 0 → 0 ≡ wait_at i (read t).ticking
  none_before i e = sym (ap (λ (j : ℕ). wait_at j (read t).ticking) e ∙ (last_of ByTicks (read t) h.chained [] (read t).ticking refl).wait)

  before-mid : (xs : List Link) (e : Link) (ys : List Link) → (read t).ticking ≡ xs ++ e ∷ ys → Before t e.slot
  before-mid xs e ys q =
      let s = read t in
      let stands = mid-stands ByTicks t s h xs e ys q in
      let within = mid-own ByTicks t s h xs e ys q in
      let left = last_of ByTicks s h.chained xs (e ∷ ys) q in
      let own = last_of ByTicks s h.chained (xs ++ (e ∷ [])) ys (q ∙ sym (append_assoc xs (e ∷ []) ys)) in
      let own_at : position e.slot s.ticking ≡ length xs + 1 =
      ap (λ (i : ℕ). position i s.ticking) (sym (last-slot 0 xs e)) ∙ own.at ∙ length-append xs (e ∷ []) in
      let own-wait : wait_at e.slot s.ticking ≡ e.wait =
      ap (λ (i : ℕ). wait_at i s.ticking) (sym (last-slot 0 xs e)) ∙ own.wait ∙ last-wait 0 xs e in
      let bounded = subst (All (λ w. w.wait ≤ (slot_at s.slots w.slot).interval)) q (h.chained.within ByTicks) in
      record {
        inside = omega (arith, within.1, h.long);
        there = rw stands.previous left.there;
        less = rw stands.previous (omega (arith, own_at, left.at));
        sum = rw (stands.previous, stands.wait, left.wait, own-wait) (omega (arith, last-low ByTicks t s h xs e ys q));
        fits = rw own-wait (omega (
          arith,
          all-mid (λ w. w.wait ≤ (slot_at s.slots w.slot).interval) xs e ys bounded,
          ap (λ (x : Slot). x.interval) ((holds_parts t s h).slots e.slot within.0 within.1),
        ));
      }

pub before : (t : List ℕ) (i : ℕ) → Holds t (read t) × (0 < times_in (read t).ticking i) → Before t i
before t i (h, m) =
    let p = split i (read t).ticking (omega (arith, m, once (read t) h.chained ByTicks i)) in
    subst (Before t) p.slot (before-mid t h p.front p.entry p.back p.whole)
