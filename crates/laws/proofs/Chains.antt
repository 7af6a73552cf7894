-- How often a slot stands in the chains of a state: at most once in both together. Assumes nothing.
use mathlib.Core.Path.{◌≡◌, refl, sym, ap, ◌∙◌, subst}
use Prim.Native.Nat.{ℕ, zero, suc, ◌+◌, ◌≤◌, ◌<◌}
use native.Mathlib.Omega.{arith}
use mathlib.Core.Bool.{Bool, true, false, cond, not}
use mathlib.Core.List.{List, [], ◌∷◌, ◌++◌, map, append_assoc}
use lib.ListN.{length, length-append}
use lib.Dec.{eqb}
use borrow.Author.Tests.{eqb-true, eqb-false, eq-eqb, ne_eqb, not-true}
use Rattle.model.specs.Lists.{All}
use Rattle.model.specs.declared.Chain.{Chain}
use Rattle.model.specs.declared.Chain.TheVariants.{ByTicks, ByDate, Queue}
use Rattle.model.specs.Kinds.{kind_at, same_chain, waits_in, linked}
use Rattle.model.specs.State.{Link, State, chain_of, slot_at, without}
use Rattle.model.specs.Directives.{closer}
use Rattle.model.specs.Words.{sum_of}
use Rattle.laws.proofs.ListLaws.{cases, all_map, all_append, all_keep, all-passed, all-zip, count-append, count-keep}
use Rattle.laws.proofs.KindLaws.{one-chain, times-in}
use Rattle.laws.proofs.Slots.{in-range}
use Rattle.laws.proofs.WellFormed.{times_in, Chained}

-- ---- counts

pub times-own : (w : Link) (ws : List Link) → times_in (w ∷ ws) w.slot ≡ suc (times_in ws w.slot)
times-own w ws = rw (eq-eqb w.slot w.slot refl)

pub times-closer : (i : ℕ) (l : List Link) → times_in (map closer l) i ≡ times_in l i
times-closer i [] = refl
times-closer i (w ∷ ws) = let ih = times-closer i ws in cases (eqb w.slot i) (λ e. rw (e, ih)) (λ e. rw (e, ih))

pub times-without : (i : ℕ) (l : List Link) → times_in (without i l) i ≡ 0
times-without i [] = refl
times-without i (w ∷ ws) = let ih = times-without i ws in cases (eqb w.slot i) (λ e. rw e ih) (λ e. rw e (rw e ih))

pub times-other : (i j : ℕ) (l : List Link) → eqb j i ≡ false → times_in (without i l) j ≡ times_in l j
times-other i j [] e = refl
times-other i j (w ∷ ws) e =
    let ih = times-other i j ws e in
    cases (eqb w.slot i)
    (λ f.
    let g : eqb w.slot j ≡ false = ne_eqb w.slot j (λ q. eqb-false j i e (sym q ∙ eqb-true w.slot i f)) in
    rw (f, g) ih)
    (λ f. rw f (cases (eqb w.slot j) (λ g. rw g (ap suc ih)) (λ g. rw g ih)))

pub without-none : (i : ℕ) (l : List Link) → times_in l i ≡ 0 → without i l ≡ l
without-none i [] e = refl
without-none i (w ∷ ws) e =
    cases (eqb w.slot i)
    (λ f. absurd (let z : suc (times_in ws i) ≡ 0 = rw f at e in omega arith))
    (λ f. rw f (ap {B = List Link} (λ l. w ∷ l) (without-none i ws (rw f at e))))

length_without : (i : ℕ) (l : List Link) → length l ≡ times_in l i + length (without i l)
length_without i [] = omega arith
length_without i (w ∷ ws) = let ih = length_without i ws in cases (eqb w.slot i) (λ e. rw e (omega arith)) (λ e. rw e (omega arith))

-- a link of a chain stands in it
pub met : (p l : List Link) → All (λ w. 0 < times_in (p ++ l) w.slot) l
met p [] = tt
met p (w ∷ ws) = (
  omega (arith, count-append (λ y. eqb y.slot w.slot) p (w ∷ ws), times-own w ws),
  subst (λ (m : List Link). All (λ y. 0 < times_in m y.slot) ws) (append_assoc p (w ∷ []) ws) (met (p ++ (w ∷ [])) ws),
)

abbrev pub InSlots : ℕ → Link → Type 0
InSlots n w = (0 < w.slot) × (w.slot ≤ n)

-- different slots are no more than there are
no-more-than-slots : (n : ℕ) (l : List Link) → All (InSlots n) l → ((i : ℕ) → times_in l i ≤ 1) → length l ≤ n
no-more-than-slots zero [] h k = omega arith
no-more-than-slots zero (w ∷ ws) h k = omega (arith, h.0.0, h.0.1)
no-more-than-slots (suc n) l h k =
    let low : length (without (suc n) l) ≤ n =
    no-more-than-slots n (without (suc n) l)
    (all_map (λ w p. (p.0.0, smaller w.slot p.0.1 (eqb-false w.slot (suc n) (not-true (eqb w.slot (suc n)) p.1))))
    (without (suc n) l)
    (all-zip (InSlots (suc n)) (λ w. not (eqb w.slot (suc n)) ≡ true) (without (suc n) l)
    (all_keep (InSlots (suc n)) (λ w. not (eqb w.slot (suc n))) l h) (all-passed (λ w. not (eqb w.slot (suc n))) l)))
    (λ i. omega (arith, count-keep (λ w. eqb w.slot i) (λ w. not (eqb w.slot (suc n))) l, k i)) in
    omega (arith, length_without (suc n) l, k (suc n))
  where
    smaller : (a : ℕ) → a ≤ suc n → (a ≡ suc n → ⊥) → a ≤ n
    smaller a p q = omega arith

-- ---- the chains of a state

once-only : (b : Bool) → cond b 1 0 ≤ 1
once-only true = omega arith
once-only false = omega arith

-- a slot that is in a chain is not free
in-not-free : (k : Chain) (kind : ℕ) → 0 < cond (waits_in k kind) 1 0 → kind ≡ 0 → ⊥
in-not-free k kind p e = let z : 0 < cond (waits_in k 0) 1 0 = rw e at p in omega arith

module _ (s : State) (h : Chained s) where
  -- two chains have no slot in common
  pub once-apart : (j k : Chain) → same_chain j k ≡ false → (i : ℕ) → times_in (chain_of j s) i + times_in (chain_of k s) i ≤ 1
  once-apart j k e i = omega (arith, h.meets j i, h.meets k i, one-chain j k (kind_at (slot_at s.slots i).kind).chain e)

  pub once : (k : Chain) (i : ℕ) → times_in (chain_of k s) i ≤ 1
  once k i = omega (arith, h.meets k i, once-only (waits_in k (slot_at s.slots i).kind))

  -- in all chains together a slot stands once, where its kind is linked
  pub times-all : (i : ℕ) → sum_of (λ _ c. times_in c i) s ≡ cond (linked (slot_at s.slots i).kind) 1 0
  times-all i = omega (arith, h.meets ByTicks i, h.meets ByDate i, h.meets Queue i, times-in (kind_at (slot_at s.slots i).kind).chain)

  pub once-all : (i : ℕ) → sum_of (λ _ c. times_in c i) s ≤ 1
  once-all i = omega (arith, times-all i, once-only (linked (slot_at s.slots i).kind))

  pub met-in-range : (k : Chain) (i : ℕ) → 0 < times_in (chain_of k s) i → (0 < i) × (i ≤ length s.slots)
  met-in-range k i p = in-range s.slots i (in-not-free k (slot_at s.slots i).kind (omega (arith, p, h.meets k i)))

  pub in-slots : (k : Chain) → All (InSlots (length s.slots)) (chain_of k s)
  in-slots k = all_map (λ w p. met-in-range k w.slot p) (chain_of k s) (met [] (chain_of k s))

  pub fits : (k : Chain) → length (chain_of k s) ≤ length s.slots
  fits k = no-more-than-slots (length s.slots) (chain_of k s) (in-slots k) (once k)

  -- both chains together have no more links than there are slots
  pub fit-both : length s.ticking + length s.dated ≤ length s.slots
  fit-both = omega (
    arith,
    length-append s.ticking s.dated,
    no-more-than-slots (length s.slots) (s.ticking ++ s.dated)
        (all_append (InSlots (length s.slots)) s.ticking s.dated (in-slots ByTicks) (in-slots ByDate))
        (λ i. omega (arith, count-append (λ w. eqb w.slot i) s.ticking s.dated, once-apart ByTicks ByDate refl i)),
  )
