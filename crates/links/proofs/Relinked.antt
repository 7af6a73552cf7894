-- One link goes into the middle of a chain or out of it: the table after the edit holds the state with the other chain. With `xs ++ e ∷ ys` and
-- `xs ++ ys` for the chain with and without the link e, the front is followed link by link up to its last one, and the back from its first.
-- Assumes nothing.
use mathlib.Core.Path.{◌≡◌, refl, sym, ap, ◌∙◌, subst}
use mathlib.Core.Logic.{◌≢◌}
use Prim.Native.Nat.{ℕ, ◌+◌, ◌≤◌, ◌<◌}
use native.Mathlib.Omega.{arith}
use mathlib.Core.Bool.{Bool, false, cond}
use mathlib.Core.List.{List, [], ◌∷◌, ◌++◌}
use lib.ListN.{length, get_or}
use lib.Dec.{ltb, eqb}
use borrow.Author.Tests.{ltb-true, ltb-false, eqb-true, eqb-false, eq-eqb, ne_eqb}
use Rattle.model.specs.declared.Chain.{Chain}
use Rattle.model.specs.declared.Chain.TheVariants.{ByTicks, ByDate, Queue}
use Rattle.model.specs.Kinds.{same_chain}
use Rattle.model.specs.State.{Link, Clock, State, chain_of, with_chain, put_at}
use Rattle.model.specs.Words.{first, difference, write, written_over, word, field, head_word, slot_from}
use Rattle.laws.proofs.ListLaws.{cases, clash, count-append}
use Rattle.laws.proofs.EachPlace.{end, ◌&◌, each_at}
use Rattle.laws.proofs.Slots.{at_same, at_other, length-put}
use Rattle.laws.proofs.WellFormed.{times_in, Chained, Holds}
use Rattle.laws.proofs.Chains.{times-own, met-in-range}
use Rattle.laws.proofs.KindLaws.{each-chain}
use Rattle.laws.proofs.StateWords.{head_words, link_word, link-field, Lay, Loose, Parts, holds_parts, parts-holds, Linked, linked-lay, holds-linked}
use Rattle.laws.proofs.Steps.{with-chain-slots, with-chain-clock, with-chain-split, with-chain-server, with-chain-own, with-chain-apart, with-chain-each}
use Rattle.links.specs.Places.{last_slot, last_wait}
use Rattle.links.proofs.LinkInMiddle.{times_more, times-mid, times-at}
use Rattle.chains.proofs.EditedWords.{head-low, Edit, slot_of, own-slot, kept, kept-link, kept-head, kept-rest}

-- ---- neighbours

last_of : (x : Link) (xs : List Link) → 0 < times_in (x ∷ xs) (last_slot x.slot xs)
last_of x [] = omega (arith, times-own x [])
last_of x (y ∷ ys) = omega (arith, last_of y ys, times_more x (y ∷ ys) (last_slot y.slot ys))

last-met : (xs : List Link) → 0 < last_slot 0 xs → 0 < times_in xs (last_slot 0 xs)
last-met [] h = absurd (omega arith)
last-met (x ∷ xs) h = last_of x xs

first-met : (ys : List Link) → 0 < first ys → 0 < times_in ys (first ys)
first-met [] h = absurd (omega arith)
first-met (y ∷ ys) h = omega (arith, times-own y ys)

pub times-but : (j : ℕ) (xs : List Link) (e : Link) (ys : List Link) → j ≢ e.slot → times_in (xs ++ e ∷ ys) j ≡ times_in (xs ++ ys) j
times-but j xs e ys n = times-mid j xs e ys ∙ rw (ne_eqb e.slot j (λ r. n (sym r))) (omega arith)

-- the chain k of s, but for the link e, is xs and ys; with e it is in order
pub record Around (k : Chain) (s : State) (xs : List Link) (e : Link) (ys : List Link) : Type 0 where
  pub once : (j : ℕ) → times_in (xs ++ e ∷ ys) j ≤ 1
  pub apart : (m : Chain) → same_chain m k ≡ false → (j : ℕ) → times_in (xs ++ e ∷ ys) j + times_in (chain_of m s) j ≤ 1
  pub within : (j : ℕ) → 0 < times_in (xs ++ e ∷ ys) j → (0 < j) × (j ≤ length s.slots)
  pub same : (j : ℕ) → j ≢ e.slot → times_in (chain_of k s) j ≡ times_in (xs ++ ys) j

module _ {k : Chain} {s : State} {xs : List Link} {e : Link} {ys : List Link} (a : Around k s xs e ys) where
  parts : (j : ℕ) → times_in (xs ++ e ∷ ys) j ≡ times_in xs j + times_in ys j + cond (eqb e.slot j) 1 0
  parts j = omega (arith, times-mid j xs e ys, count-append (λ w. eqb w.slot j) xs ys)

  pub own-within : (0 < e.slot) × (e.slot ≤ length s.slots)
  own-within = a.within e.slot (omega (arith, times-at xs e ys))

  -- a slot of one part is not in another, nor is one that stands c times elsewhere
  module _ (j c : ℕ) (one : times_in (xs ++ e ∷ ys) j + c ≤ 1) where
    not_own : 0 < times_in xs j + times_in ys j + c → j ≢ e.slot
    not_own m r =
        omega (arith, one, m, parts j, ap {B = ℕ} (λ (b : Bool). cond b 1 0) (eq-eqb e.slot j (sym r)))

    not_last : 0 < j → 0 < times_in ys j + c → j ≢ last_slot 0 xs
    not_last p m r = omega (arith, one, m, parts j, last-met xs (omega arith), ap (times_in xs) r)

    not_first : 0 < j → 0 < times_in xs j + c → j ≢ first ys
    not_first p m r = omega (arith, one, m, parts j, first-met ys (omega arith), ap (times_in ys) r)

  own-nowhere : times_in xs e.slot + times_in ys e.slot ≡ 0
  own-nowhere = omega (arith, a.once e.slot, times-at xs e ys, count-append (λ w. eqb w.slot e.slot) xs ys)

  pub own-not-last : e.slot ≢ last_slot 0 xs
  own-not-last r = omega (arith, own-nowhere, last-met xs (omega (arith, own-within.0)), ap (times_in xs) r)

  pub own-not-first : e.slot ≢ first ys
  own-not-first r = omega (arith, own-nowhere, first-met ys (omega (arith, own-within.0)), ap (times_in ys) r)

  pub last-high : last_slot 0 xs ≤ length s.slots
  last-high =
      cases (ltb 0 (last_slot 0 xs))
      (λ f. (a.within (last_slot 0 xs) (omega (arith, parts (last_slot 0 xs), last-met xs (ltb-true 0 (last_slot 0 xs) f)))).1)
      (λ f. omega (arith, ltb-false 0 (last_slot 0 xs) f))

  pub first-high : first ys ≤ length s.slots
  first-high =
      cases (ltb 0 (first ys))
      (λ f. (a.within (first ys) (omega (arith, parts (first ys), first-met ys (ltb-true 0 (first ys) f)))).1)
      (λ f. omega (arith, ltb-false 0 (first ys) f))

  pub behind-within : (y : Link) (zs : List Link) → ys ≡ y ∷ zs → (0 < y.slot) × (y.slot ≤ length s.slots)
  behind-within y zs q = a.within y.slot (omega (arith, parts y.slot, ap (λ (c : List Link). times_in c y.slot) q, times-own y zs))

-- ---- links that stand in the edited table

-- the links c of chain k stand in the table t, behind the slot p of wait b, which links to the first
pub record Led (k : Chain) (t : List ℕ) (p b : ℕ) (c : List Link) : Type 0 where
  pub link : word t (link_word k p) ≡ first c
  pub linked : Linked k t p b c

-- the links behind the front
pub led-tail : (k : Chain) (t : List ℕ) (p b : ℕ) (xs ys : List Link) → ((j : ℕ) → 0 < times_in xs j → 0 < j) → Led k t p b (xs ++ ys)
    → Led k t (last_slot p xs) (last_wait b xs) ys
led-tail k t p b [] ys low h = h
led-tail k t p b (x ∷ xs) ys low h =
    led-tail k t x.slot x.wait xs ys (λ j m. low j (omega (arith, m, times_more x xs j)))
    (record { link = link-field k t x.slot (low x.slot (omega (arith, times-own x xs))) ∙ h.linked.0.next; linked = h.linked.1 })

pub holds-led : (t : List ℕ) (s : State) → Holds t s → (k : Chain) → Led k t 0 0 (chain_of k s)
holds-led t s h k = record { link = ((holds_parts t s h).lay k).links 0 (λ p. absurd (omega arith)); linked = holds-linked t s h k }

module _ {k : Chain} {t u : List ℕ} {p l n q v i : ℕ} {ws : List ℕ} (edit : Edit k t u p l n q v i ws) where
  -- neither the slot nor a neighbour is among these links
  unmoved : (m : Chain) (o b : ℕ) (c : List Link) → ((j : ℕ) → 0 < times_in c j → (0 < j) × (j ≢ i) × (j ≢ p) × (j ≢ n))
      → Linked m t o b c → Linked m u o b c
  unmoved m o b [] a h = tt
  unmoved m o b (w ∷ ws) a h =
      let own = a w.slot (omega (arith, times-own w ws)) in
      let at : (f : ℕ) → f < 8 → field u w.slot f ≡ field t w.slot f =
      λ f f8. kept edit w.slot f own.0 f8 own.1 (λ _. own.2) (λ _. own.3) (λ _. own.3) in (
        record { next = at 6 (omega arith) ∙ h.0.next; previous = at 7 (omega arith) ∙ h.0.previous; wait = at 3 (omega arith) ∙ h.0.wait },
        unmoved m w.slot w.wait ws (λ j m. a j (omega (arith, m, times_more w ws j))) h.1,
      )

  -- the links xs, whose last is p, are followed by c in t and by c' in u
  front : (xs c c' : List Link) (o b : ℕ) → last_slot o xs ≡ p → o ≢ i → times_in xs o ≡ 0 → ((j : ℕ) → times_in xs j ≤ 1)
      → ((j : ℕ) → 0 < times_in xs j → (0 < j) × (j ≢ i) × (j ≢ n)) → Led k t o b (xs ++ c) → Led k u p (last_wait b xs) c' → Led k u o b (xs ++ c')
  front [] c c' o b e oi out one a h g = subst (λ (m : ℕ). Led k u m b c') (sym e) g
  front (x ∷ xs) c c' o b e oi out one a h g =
      let own = a x.slot (omega (arith, times-own x xs)) in
      let at : (f : ℕ) → f < 8 → f ≢ 6 → field u x.slot f ≡ field t x.slot f =
      λ f f8 f6. kept edit x.slot f own.0 f8 own.1 (λ z. absurd (f6 z)) (λ _. own.2) (λ _. own.2) in
      let rest = front xs c c' x.slot x.wait e own.1 (omega (arith, one x.slot, times-own x xs)) (λ j. omega (arith, one j, times_more x xs j))
      (λ j m. a j (omega (arith, m, times_more x xs j)))
      (record { link = link-field k t x.slot own.0 ∙ h.linked.0.next; linked = h.linked.1 }) g in
      record {
        link = kept-link edit o oi (λ r. omega (arith, last_of x xs, ap (times_in (x ∷ xs)) (r ∙ sym e), out)) ∙ h.link;
        linked = (
          record {
            next = sym (link-field k u x.slot own.0) ∙ rest.link;
            previous = at 7 (omega arith) (omega arith) ∙ h.linked.0.previous;
            wait = at 3 (omega arith) (omega arith) ∙ h.linked.0.wait;
          },
          rest.linked,
        );
      }

  -- the links ys, whose first is n, stand behind another slot, of another wait
  back : (ys : List Link) (o b b' : ℕ) → first ys ≡ n → ((y : Link) (zs : List Link) → ys ≡ y ∷ zs → v ≡ difference k b' y.wait)
      → ((j : ℕ) → times_in ys j ≤ 1) → ((j : ℕ) → 0 < times_in ys j → (0 < j) × (j ≢ i) × (j ≢ p)) → Linked k t o b ys → Linked k u q b' ys
  back [] o b b' e ev one a h = tt
  back (y ∷ ys) o b b' e ev one a h =
      let own = a y.slot (omega (arith, times-own y ys)) in
      let low : 0 < n = omega (arith, own.0) in (
        record {
          next = kept edit y.slot 6 own.0 (omega arith) own.1 (λ _. own.2) (λ z. absurd (omega arith)) (λ z. absurd (omega arith)) ∙ h.0.next;
          previous = rw e (edit.previous low);
          wait = rw e (edit.wait low ∙ ev y ys refl);
        },
        unmoved k y.slot y.wait ys (λ j m.
            let g = a j (omega (arith, m, times_more y ys j)) in
            (g.0, g.1, g.2, λ r. omega (arith, m, one y.slot, times-own y ys, ap (times_in ys) (r ∙ sym e))))
            h.1,
      )

-- ---- the state after the edit

same-heads : (s s' : State) → length s.slots ≡ length s'.slots → s.clock ≡ s'.clock → s.split ≡ s'.split → s.server ≡ s'.server
    → (m : ℕ) → m < 10 → m ≢ 5 → m ≢ 6 → m ≢ 9 → get_or (head_words s) m 0 ≡ get_or (head_words s') m 0
same-heads s s' e c l v = each_at (λ m n. m ≢ 5 → m ≢ 6 → m ≢ 9 → n ≡ get_or (head_words s') m 0) 0 (head_words s) (
    (λ _ _ _. e)
    & (λ _ _ _. ap (λ (x : Clock). x.per_second) c)
    & (λ _ _ _. ap (λ (x : Clock). cond x.is_set 1 0) c)
    & (λ _ _ _. ap (λ (x : Clock). x.second) c)
    & (λ _ _ _. ap (λ (x : Clock). x.ticks_into) c)
    & (λ a _ _. absurd (a refl))
    & (λ _ b _. absurd (b refl))
    & (λ _ _ _. l)
    & (λ _ _ _. ap {B = ℕ} (λ (b : Bool). cond b 1 0) v)
    & (λ _ _ d. absurd (d refl))
    & end)

not-head : (k : Chain) (m : ℕ) → m ≢ 5 → m ≢ 6 → m ≢ 9 → m ≢ head_word k
not-head ByTicks m a b d = a
not-head ByDate m a b d = b
not-head Queue m a b d = d

other-head : (m k : Chain) → same_chain m k ≡ false → head_word m ≢ head_word k
other-head ByTicks ByTicks e = clash e
other-head ByTicks ByDate e = omega arith
other-head ByTicks Queue e = omega arith
other-head ByDate ByTicks e = omega arith
other-head ByDate ByDate e = clash e
other-head ByDate Queue e = omega arith
other-head Queue ByTicks e = omega arith
other-head Queue ByDate e = omega arith
other-head Queue Queue e = clash e

module _ {k : Chain} {t u : List ℕ} {s : State} {xs : List Link} {e : Link} {ys : List Link} {l q v : ℕ} {ws : List ℕ}
    (h : Holds t s) (a : Around k s xs e ys) (edit : Edit k t u (last_slot 0 xs) l (first ys) q v e.slot ws) where
  -- with other links behind the front; and the back behind another slot
  pub led-front : (c c' : List Link) → chain_of k s ≡ xs ++ c → Led k u (last_slot 0 xs) (last_wait 0 xs) c' → Led k u 0 0 (xs ++ c')
  led-front c c' whole g =
      front edit xs c c' 0 0 refl (λ r. omega (arith, (own-within a).0)) none (λ j. omega (arith, a.once j, parts a j))
      (λ j m.
      let p = (a.within j (omega (arith, m, parts a j))).0 in
      let one : times_in (xs ++ e ∷ ys) j + 0 ≤ 1 = omega (arith, a.once j) in
      (p, not_own a j 0 one (omega (arith, m)), not_first a j 0 one p (omega (arith, m))))
      (subst (Led k t 0 0) whole (holds-led t s h k)) g
    where
      none : times_in xs 0 ≡ 0
      none =
          cases (ltb 0 (times_in xs 0))
          (λ f. absurd (omega (arith, (a.within 0 (omega (arith, ltb-true 0 (times_in xs 0) f, parts a 0))).0)))
          (λ f. omega (arith, ltb-false 0 (times_in xs 0) f))

  pub led-back : (o b b' : ℕ) → ((y : Link) (zs : List Link) → ys ≡ y ∷ zs → v ≡ difference k b' y.wait) → Linked k t o b ys → Linked k u q b' ys
  led-back o b b' ev = back edit ys o b b' refl ev (λ j. omega (arith, a.once j, parts a j))
      (λ j m.
      let p = (a.within j (omega (arith, m, parts a j))).0 in
      let one : times_in (xs ++ e ∷ ys) j + 0 ≤ 1 = omega (arith, a.once j) in
      (p, not_own a j 0 one (omega (arith, m)), not_last a j 0 one p (omega (arith, m))))

  other-lay : (m : Chain) → same_chain m k ≡ false → Lay m u (chain_of m s)
  other-lay o away =
      linked-lay o u (chain_of o s)
      (kept-head edit (head_word o) (head-low o) (other-head o k away) ∙ (holds-led t s h o).link)
      (unmoved edit o 0 0 (chain_of o s) (λ j m.
      let p = (met-in-range s h.chained o j m).0 in
      let c = times_in (chain_of o s) j in
      let one = a.apart o away j in
      (p, not_own a j c one (omega (arith, m)), not_last a j c one p (omega (arith, m)), not_first a j c one p (omega (arith, m))))
      (holds-led t s h o).linked)

  -- a slot in no chain
  loose-kept : (j : ℕ) → 0 < j → j ≢ e.slot → times_in (xs ++ ys) j ≡ 0 → Loose t j → Loose u j
  loose-kept j p ji z g =
      let none : times_in xs j + times_in ys j ≡ 0 = omega (arith, z, count-append (λ w. eqb w.slot j) xs ys) in
      let at : (f : ℕ) → f < 8 → field u j f ≡ field t j f =
      λ f f8. kept edit j f p f8 ji (λ _ r. omega (arith, last-met xs (omega arith), ap (times_in xs) r))
      (λ _ r. omega (arith, first-met ys (omega arith), ap (times_in ys) r)) (λ _ r. omega (arith, first-met ys (omega arith), ap (times_in ys) r)) in
      record { wait = at 3 (omega arith) ∙ g.wait; next = at 6 (omega arith) ∙ g.next; previous = at 7 (omega arith) ∙ g.previous }

  slot_kept : (j : ℕ) → 0 < j → j ≢ e.slot → slot_from u j ≡ slot_from t j
  slot_kept j p ji =
      let at : (f : ℕ) → f < 8 → f ≢ 6 → f ≢ 3 → f ≢ 7 → field u j f ≡ field t j f =
      λ f f8 f6 f3 f7. kept edit j f p f8 ji (λ z. absurd (f6 z)) (λ z. absurd (f3 z)) (λ z. absurd (f7 z)) in
      λ d. record {
        kind = at 0 (omega arith) (omega arith) (omega arith) (omega arith) d;
        name = at 1 (omega arith) (omega arith) (omega arith) (omega arith) d;
        interval = at 2 (omega arith) (omega arith) (omega arith) (omega arith) d;
        routine = at 4 (omega arith) (omega arith) (omega arith) (omega arith) d;
        user_data = at 5 (omega arith) (omega arith) (omega arith) (omega arith) d;
      }

  module _ (c : List Link) (led : Led k u 0 0 c) (but : (j : ℕ) → j ≢ e.slot → times_in c j ≡ times_in (xs ++ ys) j)
      (out : times_in c e.slot ≡ 0 → Loose u e.slot) where
    after : Parts u (with_chain k s (put_at s.slots e.slot (slot_of ws)) c)
    after =
        let slots = put_at s.slots e.slot (slot_of ws) in
        let before = holds_parts t s h in
        let size : length (with_chain k s slots c).slots ≡ length s.slots =
        ap length (with-chain-slots s slots c k) ∙ length-put s.slots e.slot (slot_of ws) in
        record {
          heads = λ m p f g i. kept-head edit m p (not-head k m f g i) ∙ before.heads m p f g i
              ∙ same-heads s (with_chain k s slots c) (sym size) (sym (with-chain-clock s slots c k)) (sym (with-chain-split s slots c k))
              (sym (with-chain-server s slots c k)) m p f g i;
          lay = with-chain-each s slots c (λ m l. Lay m u l) k (linked-lay k u c led.link led.linked) other-lay;
          loose = λ j p b z. cases (eqb j e.slot)
              (λ f.
              let is = eqb-true j e.slot f in
              rw is (out (ap (times_in c) (sym is) ∙ ap (λ (d : List Link). times_in d j) (sym (with-chain-own s slots c k)) ∙ z k)))
              (λ f.
              let ji = eqb-false j e.slot f in
              let zk : times_in c j ≡ 0 = ap (λ (d : List Link). times_in d j) (sym (with-chain-own s slots c k)) ∙ z k in
              loose-kept j p ji (sym (but j ji) ∙ zk)
              (before.loose j p (omega arith) (each-chain (λ m. times_in (chain_of m s) j ≡ 0) k
              (a.same j ji ∙ sym (but j ji) ∙ zk)
              (λ m away. ap (λ (d : List Link). times_in d j) (sym (with-chain-apart s slots c k m away)) ∙ z m))));
          slots = λ j p b. rw (with-chain-slots s slots c k) (cases (eqb j e.slot)
              (λ f.
              let is = eqb-true j e.slot f in
              rw is (own-slot edit ∙ sym (at_same s.slots e.slot (slot_of ws) (own-within a).0 (own-within a).1)))
              (λ f.
              let ji = eqb-false j e.slot f in
              slot_kept j p ji ∙ before.slots j p (omega arith) ∙ sym (at_other s.slots e.slot j (slot_of ws) ji)));
        }

    pub edited : (s' : State) → with_chain k s (put_at s.slots e.slot (slot_of ws)) c ≡ s' → Chained s' → u ≡ written_over s' t
    edited s' is ok =
        let slots = put_at s.slots e.slot (slot_of ws) in
        let size : length s'.slots ≡ length s.slots =
        ap (λ (x : State). length x.slots) (sym is) ∙ ap length (with-chain-slots s slots c k) ∙ length-put s.slots e.slot (slot_of ws) in
        let held = parts-holds u s' ok (subst (Parts u) is after) (omega (arith, h.long, edit.long)) in
        sym held.is ∙ ap (write s') (kept-rest edit (length s'.slots)
        (omega (arith, last-high a)) (omega (arith, first-high a)) (omega (arith, (own-within a).1)))
