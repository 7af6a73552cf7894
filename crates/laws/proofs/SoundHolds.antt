-- A sound table holds the state that is read from it, and that state is well formed: the tests are taken apart, and the words compared by
-- parts. Assumes nothing.
use mathlib.Core.Path.{◌≡◌, refl, sym, ap, ◌∙◌, subst}
use Prim.Native.Nat.{ℕ, zero, suc, ◌+◌, ◌*◌, ◌≤◌, ◌<◌}
use native.Mathlib.Omega.{arith}
use mathlib.Core.Logic.{◌≢◌}
use mathlib.Core.Bool.{Bool, true, false, cond, not}
use mathlib.Core.List.{List, [], ◌∷◌}
use lib.ListN.{length, get_or, get_or-eq_default}
use lib.Dec.{leb, ltb, eqb}
use borrow.Author.Tests.{leb-true, ltb-true, ltb-false, eqb-true, eq-eqb, ne_eqb, le-ltb}
use Rattle.model.specs.Lists.{count, every, All, Sorted}
use Rattle.model.specs.declared.Chain.{Chain}
use Rattle.model.specs.declared.Chain.TheVariants.{ByTicks, ByDate, Queue}
use Rattle.model.specs.Kinds.{kind_at, linked, waits_in}
use Rattle.model.specs.State.{Slot, Link, chain_of, free, slot_at}
use Rattle.calendar.specs.Calendar.{all_of, last_second}
use Rattle.model.specs.Words.{first, word, head_word, along, accumulated, links_from, links, slot_from, read, slot_count, ticks_per_second, clock_set, seconds, ticks_into, first_ticking, first_dated, kind_of, name_of, interval_of, wait_of, routine_of, data_of, next_of, previous_of, party_split}
use Rattle.model.specs.Sound.{header_tests, header_sound, unlinked, unstarted, slot_tests, slot_sound, previous_sound, chain_tests, chain_sound, first_sound, ticks_sound, rising, dates_sound, queue_sound, sound_tests, sound}
use Rattle.laws.proofs.ListLaws.{cases, both, or_else, all-at, up_at, every-all, all, all_map, all-zip}
use Rattle.laws.proofs.WellFormed.{times_in, Fits, Chained, Shape, WellFormed, Holds}
use Rattle.laws.proofs.KindLaws.{none_in}
use Rattle.laws.proofs.Chains.{InSlots}
use Rattle.laws.proofs.EachPlace.{end, ◌&◌, each_at}
use Rattle.laws.proofs.StateWords.{head_words, Lay, Loose, Parts, parts-holds, difference-total, Linked, linked-lay}
use Rattle.laws.proofs.Shapes.{free-shape}
use Rattle.laws.proofs.ReadBack.{slots_length, slot_read, links-slots, count-slots}

-- ---- the links that are read

module _ (k : Chain) (t : List ℕ) where
  from_first : (f b i : ℕ) → length (along (next_of t) (suc f) i) ≤ f → first (links_from k t f b i) ≡ i
  from_first zero b zero e = refl
  from_first (suc f) b zero e = refl
  from_first zero b (suc i) e = absurd (omega arith)
  from_first (suc f) b (suc i) e = refl

  from-linked : (f b p i : ℕ) → length (along (next_of t) (suc f) i) ≤ f → previous_sound t p (along (next_of t) f i) ≡ true
      → Linked k t p b (links_from k t f b i)
  from-linked zero b p i e q = tt
  from-linked (suc f) b p zero e q = tt
  from-linked (suc f) b p (suc i) e q =
      let n = accumulated k b (wait_of t (suc i)) in
      let j = next_of t (suc i) in
      let ends : length (along (next_of t) (suc f) j) ≤ f = omega arith in
      let a = both (eqb (previous_of t (suc i)) p) (previous_sound t (suc i) (along (next_of t) f j)) q in (
        record {
          next = sym (from_first f n j ends);
          previous = eqb-true (previous_of t (suc i)) p a.0;
          wait = sym (difference-total k b (wait_of t (suc i)));
        },
        from-linked f n (suc i) j ends a.1,
      )

  from-in-slots : (n f b i : ℕ) → every (λ j. leb j n) (along (next_of t) f i) ≡ true → All (InSlots n) (links_from k t f b i)
  from-in-slots n zero b i e = tt
  from-in-slots n (suc f) b zero e = tt
  from-in-slots n (suc f) b (suc i) e =
      let a = both (leb (suc i) n) (every (λ j. leb j n) (along (next_of t) f (next_of t (suc i)))) e in
      ((omega arith, leb-true (suc i) n a.0), from-in-slots n f (accumulated k b (wait_of t (suc i))) (next_of t (suc i)) a.1)

-- sums rise
ticks-rise : (t : List ℕ) (f b i : ℕ) → All (λ w. b ≤ w.wait) (links_from ByTicks t f b i) × Sorted (λ w. w.wait) (links_from ByTicks t f b i)
ticks-rise t zero b i = (tt, tt)
ticks-rise t (suc f) b zero = (tt, tt)
ticks-rise t (suc f) b (suc i) =
    let n = b + wait_of t (suc i) in
    let r = ticks-rise t f n (next_of t (suc i)) in
    ((omega arith, all_map (λ w p. omega arith) (links_from ByTicks t f n (next_of t (suc i))) r.0), r)

dates-rise : (b : ℕ) (c : List Link) → rising b c ≡ true → All (λ w. b ≤ w.wait) c × Sorted (λ w. w.wait) c
dates-rise b [] e = (tt, tt)
dates-rise b (w ∷ ws) e =
    let a = both (leb b w.wait) (rising w.wait ws) e in
    let low = leb-true b w.wait a.0 in
    let r = dates-rise w.wait ws a.1 in
    ((low, all_map (λ x p. omega arith) ws r.0), r)

first-low : (c : List Link) → first_sound c ≡ true → Sorted (λ w. w.wait) c → All (λ w. 1 ≤ w.wait) c
first-low [] e h = tt
first-low (w ∷ ws) e h = let p = leb-true 1 w.wait e in (p, all_map (λ x q. omega arith) ws h.0)

-- zeros rise
flat-rises : (c : List Link) → All (λ w. w.wait ≡ 0) c → Sorted (λ w. w.wait) c
flat-rises [] h = tt
flat-rises (w ∷ ws) h = (all_map (λ x p. omega (arith, h.0)) ws h.1, flat-rises ws h.1)

-- a slot that is not among 1 to n stands in no chain of them
outside : (n i : ℕ) (c : List Link) → All (InSlots n) c → ((0 < i) × (i ≤ n) → ⊥) → times_in c i ≡ 0
outside n i [] h out = refl
outside n i (w ∷ ws) h out =
    rw (ne_eqb w.slot i (λ q. out (subst (λ (j : ℕ). (0 < j) × (j ≤ n)) q h.0))) (outside n i ws h.1 out)

-- a property of every slot that is read, also past the last
every-slot : (P : ℕ → Slot → Type 0) (t : List ℕ) → ((i : ℕ) → 0 < i → i ≤ slot_count t → P i (slot_from t i))
    → ((i : ℕ) → ((0 < i) × (i ≤ slot_count t) → ⊥) → P i free) → (i : ℕ) → P i (slot_at (read t).slots i)
every-slot P t p q zero = q 0 (λ a. absurd (omega (arith, a.0)))
every-slot P t p q (suc i) =
    cases (ltb i (slot_count t))
    (λ e. let b = ltb-true i (slot_count t) e in subst (P (suc i)) (sym (slot_read t (suc i) (omega arith) b)) (p (suc i) (omega arith) b))
    (λ e.
    let b = ltb-false i (slot_count t) e in
    subst (P (suc i)) (sym (get_or-eq_default (read t).slots free {n = i} (omega (arith, slots_length t)))) (q (suc i) (λ a. absurd (omega (arith, a.1)))))

-- ---- what the header says

pub record Header (t : List ℕ) : Type 0 where
  pub some-slot : 1 ≤ slot_count t
  pub few : slot_count t ≤ 255
  pub long : 10 + 8 * slot_count t ≤ length t
  pub per-low : 1 ≤ ticks_per_second t
  pub per-high : ticks_per_second t ≤ 1000
  pub set : clock_set t ≤ 1
  pub second-high : seconds t ≤ last_second
  pub into : ticks_into t < ticks_per_second t
  pub parted : party_split t < slot_count t
  pub eight : word t 8 ≤ 1
  pub unset : eqb (clock_set t) 1 ≡ false → (seconds t ≡ 0) × (ticks_into t ≡ 0) × (first_dated t ≡ 0)

header : (t : List ℕ) → header_sound t ≡ true → Header t
unfolding header_sound
header t e =
    let at : (m : ℕ) → get_or (header_tests t) m true ≡ true = all-at (header_tests t) e in
    let zeros = eqb (seconds t) 0 ∷ eqb (ticks_into t) 0 ∷ eqb (first_dated t) 0 ∷ [] in
    record {
      some-slot = leb-true 1 (slot_count t) (at 0);
      few = leb-true (slot_count t) 255 (at 1);
      long = leb-true (10 + 8 * slot_count t) (length t) (at 2);
      per-low = leb-true 1 (ticks_per_second t) (at 3);
      per-high = leb-true (ticks_per_second t) 1000 (at 4);
      set = leb-true (clock_set t) 1 (at 5);
      second-high = leb-true (seconds t) last_second (at 6);
      into = ltb-true (ticks_into t) (ticks_per_second t) (at 7);
      parted = ltb-true (party_split t) (slot_count t) (at 8);
      eight = leb-true (word t 8) 1 (at 9);
      unset = λ f.
          let z : (m : ℕ) → get_or zeros m true ≡ true = all-at zeros (or_else (eqb (clock_set t) 1) (all_of zeros) (at 10) f) in
          (eqb-true (seconds t) 0 (z 0), eqb-true (ticks_into t) 0 (z 1), eqb-true (first_dated t) 0 (z 2));
    }

-- ---- what a slot says

module _ (t : List ℕ) (i : ℕ) (ok : slot_sound t i ≡ true) where
  slot-test : (m : ℕ) → get_or (slot_tests t i (kind_of t i)) m true ≡ true
  unfolding slot_sound
  slot-test m = all-at (slot_tests t i (kind_of t i)) ok m

  shape : Shape (eqb (word t 8) 1) (slot_from t i)
  shape =
      let kind = kind_of t i in
      let zeros = eqb (interval_of t i) 0 ∷ eqb (routine_of t i) 0 ∷ eqb (data_of t i) 0 ∷ [] in
      record {
        kinds = leb-true kind 13 (slot-test 0);
        nameless = λ e. eqb-true (name_of t i) 0 (or_else (not (eqb kind 0)) (eqb (name_of t i) 0) (slot-test 1) (ap not (eq-eqb kind 0 e)));
        named = λ p. ltb-true 0 (name_of t i) (or_else (eqb kind 0) (ltb 0 (name_of t i)) (slot-test 2) (ne_eqb kind 0 (λ e. omega arith)));
        blank = λ p.
            let z : (m : ℕ) → get_or zeros m true ≡ true = all-at zeros (or_else (ltb 1 kind) (unstarted t i) (slot-test 3) (le-ltb 1 kind p)) in
            (eqb-true (interval_of t i) 0 (z 0), eqb-true (routine_of t i) 0 (z 1), eqb-true (data_of t i) 0 (z 2));
        used = λ p. ltb-true 0 (routine_of t i) (or_else (ltb kind 2) (ltb 0 (routine_of t i)) (slot-test 4) (le-ltb kind 2 p));
        by-ticks = λ e. ltb-true 0 (interval_of t i) (rw e at (slot-test 5));
        by-date = λ e. eqb-true (interval_of t i) 0 (rw e at (slot-test 5));
        by-server = λ p. or_else (ltb kind 8) (eqb (word t 8) 1) (slot-test 7) (le-ltb kind 8 p);
      }

  loose : ((k : Chain) → waits_in k (kind_of t i) ≡ false) → Loose t i
  loose f =
      let kind = kind_of t i in
      let zeros = eqb (wait_of t i) 0 ∷ eqb (next_of t i) 0 ∷ eqb (previous_of t i) 0 ∷ [] in
      let z : (m : ℕ) → get_or zeros m true ≡ true = all-at zeros (or_else (linked kind) (unlinked t i) (slot-test 6) (none_in (kind_at kind).chain f)) in
      record { wait = eqb-true (wait_of t i) 0 (z 0); next = eqb-true (next_of t i) 0 (z 1); previous = eqb-true (previous_of t i) 0 (z 2) }

-- ---- what a chain says

record Followed (k : Chain) (t : List ℕ) : Type 0 where
  head : word t (head_word k) ≡ first (links k t)
  linked : Linked k t 0 0 (links k t)
  in-slots : All (InSlots (slot_count t)) (links k t)
  meets : (i : ℕ) → 0 < i → i ≤ slot_count t → times_in (links k t) i ≡ cond (waits_in k (kind_of t i)) 1 0

followed : (k : Chain) (t : List ℕ) → chain_sound k t ≡ true → Followed k t
unfolding chain_sound
followed k t e =
    let n = slot_count t in
    let i = word t (head_word k) in
    let l = along (next_of t) n i in
    let meets : ℕ → Bool = λ j. eqb (count (λ x. eqb x j) l) (cond (waits_in k (kind_of t j)) 1 0) in
    let at : (m : ℕ) → get_or (chain_tests k t) m true ≡ true = all-at (chain_tests k t) e in
    let ends = leb-true (length (along (next_of t) (suc n) i)) n (at 0) in
    record {
      head = sym (from_first k t n 0 i ends);
      linked = from-linked k t n 0 0 i ends (at 3);
      in-slots = from-in-slots k t n n 0 i (at 1);
      meets = λ j a b.
          sym (count-slots j (links k t)) ∙ ap (count (λ x. eqb x j)) (links-slots k t n 0 i)
          ∙ eqb-true (count (λ x. eqb x j) l) (cond (waits_in k (kind_of t j)) 1 0) (up_at meets 1 n (at 2) j a (omega arith));
    }

read-chain : (t : List ℕ) (k : Chain) → chain_of k (read t) ≡ links k t
read-chain t ByTicks = refl
read-chain t ByDate = refl
read-chain t Queue = refl

-- ---- a sound table

module _ (t : List ℕ) (ok : sound t ≡ true) where
  bullet : (m : ℕ) → get_or (sound_tests t) m true ≡ true
  unfolding sound
  bullet m = all-at (sound_tests t) ok m

  pub sound-header : Header t
  sound-header = header t (bullet 0)

  slot_ok : (i : ℕ) → 0 < i → i ≤ slot_count t → slot_sound t i ≡ true
  slot_ok i a b = up_at (slot_sound t) 1 (slot_count t) (bullet 1) i a (omega arith)

  chain-ok : (k : Chain) → Followed k t
  chain-ok ByTicks = followed ByTicks t (bullet 2)
  chain-ok ByDate = followed ByDate t (bullet 3)
  chain-ok Queue = followed Queue t (bullet 4)

  ticks-ok : (first_sound (links ByTicks t) ≡ true) × (every (λ w. leb w.wait (interval_of t w.slot)) (links ByTicks t) ≡ true)
  unfolding ticks_sound
  ticks-ok = both (first_sound (links ByTicks t)) (every (λ w. leb w.wait (interval_of t w.slot)) (links ByTicks t)) (bullet 5)

  dates-ok : (rising (suc (seconds t)) (links ByDate t) ≡ true) × (every (λ w. leb w.wait last_second) (links ByDate t) ≡ true)
  unfolding dates_sound
  dates-ok = both (rising (suc (seconds t)) (links ByDate t)) (every (λ w. leb w.wait last_second) (links ByDate t)) (bullet 6)

  queue-ok : All (λ w. w.wait ≡ 0) (links Queue t)
  unfolding queue_sound
  queue-ok = all_map (λ w p. eqb-true w.wait 0 p) (links Queue t) (every-all (λ w. eqb w.wait 0) (links Queue t) (bullet 7))

  rises : (k : Chain) → Sorted (λ w. w.wait) (links k t)
  rises ByTicks = (ticks-rise t (slot_count t) 0 (first_ticking t)).1
  rises ByDate = (dates-rise (suc (seconds t)) (links ByDate t) dates-ok.0).1
  rises Queue = flat-rises (links Queue t) queue-ok

  meets : (k : Chain) (i : ℕ) → times_in (links k t) i ≡ cond (waits_in k (slot_at (read t).slots i).kind) 1 0
  meets k = every-slot (λ i x. times_in (links k t) i ≡ cond (waits_in k x.kind) 1 0) t (chain-ok k).meets
      (λ i out. outside (slot_count t) i (links k t) (chain-ok k).in-slots out)

  within : (k : Chain) → All (Fits k (read t).slots) (chain_of k (read t))
  within ByDate = all (λ w. tt) (links ByDate t)
  within Queue = queue-ok
  within ByTicks =
      all_map (λ w p.
      let is = slot_read t w.slot p.0.0 p.0.1 in
      subst (λ (x : Slot). w.wait ≤ x.interval) (sym is) (leb-true w.wait (interval_of t w.slot) p.1))
      (links ByTicks t)
      (all-zip (InSlots (slot_count t)) (λ w. leb w.wait (interval_of t w.slot) ≡ true) (links ByTicks t) (chain-ok ByTicks).in-slots
      (every-all (λ w. leb w.wait (interval_of t w.slot)) (links ByTicks t) ticks-ok.1))

  chained : Chained (read t)
  chained = record {
    few = omega (arith, slots_length t, sound-header.few);
    meets = λ k i. ap (λ (c : List Link). times_in c i) (read-chain t k) ∙ meets k i;
    rises = λ k. subst (Sorted (λ w. w.wait)) (sym (read-chain t k)) (rises k);
    within = within;
  }

  parts : Parts t (read t)
  parts = record {
    heads = λ m p a b c. heads m p a b c;
    lay = λ k. subst (Lay k t) (sym (read-chain t k)) (linked-lay k t (links k t) (chain-ok k).head (chain-ok k).linked);
    loose = λ i a b z. loose t i (slot_ok i a (omega (arith, slots_length t))) (λ k. idle k i a (omega (arith, slots_length t)) (z k));
    slots = λ i a b. sym (slot_read t i a (omega (arith, slots_length t)));
  }
    where
      bit : (n : ℕ) → n ≤ 1 → n ≡ cond (eqb n 1) 1 0
      bit zero p = refl
      bit (suc zero) p = refl
      bit (suc (suc n)) p = absurd (omega arith)

      heads : (m : ℕ) → m < 10 → m ≢ 5 → m ≢ 6 → m ≢ 9 → word t m ≡ get_or (head_words (read t)) m 0
      heads = each_at (λ m n. m ≢ 5 → m ≢ 6 → m ≢ 9 → word t m ≡ n) 0 (head_words (read t)) (
          (λ _ _ _. sym (slots_length t))
          & (λ _ _ _. refl)
          & (λ _ _ _. bit (clock_set t) sound-header.set)
          & (λ _ _ _. refl)
          & (λ _ _ _. refl)
          & (λ a _ _. absurd (a refl))
          & (λ _ b _. absurd (b refl))
          & (λ _ _ _. refl)
          & (λ _ _ _. bit (word t 8) sound-header.eight)
          & (λ _ _ c. absurd (c refl))
          & end)

      idle : (k : Chain) (i : ℕ) → 0 < i → i ≤ slot_count t → times_in (chain_of k (read t)) i ≡ 0 → waits_in k (kind_of t i) ≡ false
      idle k i a b z =
          cases (waits_in k (kind_of t i))
          (λ e.
          let one : times_in (links k t) i ≡ 1 = (chain-ok k).meets i a b ∙ rw e in
          absurd (omega (arith, ap (λ (c : List Link). times_in c i) (read-chain t k))))
          (λ e. e)

  pub sound-holds : Holds t (read t)
  sound-holds = parts-holds t (read t) chained parts (omega (arith, slots_length t, sound-header.long))

  pub sound-well-formed : WellFormed (read t)
  sound-well-formed =
      let rise = dates-rise (suc (seconds t)) (links ByDate t) dates-ok.0 in
      record {
        chained = chained;
        some-slot = omega (arith, slots_length t, sound-header.some-slot);
        parted = omega (arith, slots_length t, sound-header.parted);
        per-low = sound-header.per-low;
        per-high = sound-header.per-high;
        into = sound-header.into;
        second-high = sound-header.second-high;
        unset = λ e.
            let z = sound-header.unset e in
            (z.0, z.1, none (links ByDate t) (chain-ok ByDate).in-slots (sym (chain-ok ByDate).head ∙ z.2));
        shape = every-slot (λ _ x. Shape (eqb (word t 8) 1) x) t (λ i a b. shape t i (slot_ok i a b)) (λ _ _. free-shape (eqb (word t 8) 1));
        ticks = first-low (links ByTicks t) ticks-ok.0 (rises ByTicks);
        dates = all_map (λ w p. (p.0, leb-true w.wait last_second p.1)) (links ByDate t)
            (all-zip (λ w. suc (seconds t) ≤ w.wait) (λ w. leb w.wait last_second ≡ true) (links ByDate t) rise.0
            (every-all (λ w. leb w.wait last_second) (links ByDate t) dates-ok.1));
      }
    where
      none : (c : List Link) → All (InSlots (slot_count t)) c → first c ≡ 0 → c ≡ []
      none [] a e = refl
      none (w ∷ ws) a e = absurd (omega (arith, a.0.0))
