-- A table that holds a well-formed state is sound: each test is passed, for the words are the state's and the chains are read back.
-- Assumes nothing.
use mathlib.Core.Path.{◌≡◌, refl, sym, ap, ◌∙◌, subst}
use Prim.Native.Nat.{ℕ, suc, ◌+◌, ◌*◌, ◌≤◌, ◌<◌}
use native.Mathlib.Nat.{pos_of_ne-zero}
use native.Mathlib.Omega.{arith}
use mathlib.Core.Bool.{Bool, true, false, cond, not, ◌&&◌, ◌||◌}
use mathlib.Core.List.{List, [], ◌∷◌, map}
use lib.ListN.{length, get_or, length-map}
use lib.Dec.{leb, ltb, eqb}
use borrow.Author.Tests.{ltb-false, eqb-true, eqb-false, eq-eqb, le-leb, lt-ltb, not-false}
use Rattle.model.specs.Lists.{count, every, All, Sorted}
use Rattle.model.specs.declared.Chain.{Chain}
use Rattle.model.specs.declared.Chain.TheVariants.{ByTicks, ByDate, Queue}
use Rattle.model.specs.Kinds.{kind_at, linked, waits_in, last_by_ticks}
use Rattle.model.specs.State.{Slot, Link, State, chain_of, slot_at}
use Rattle.calendar.specs.Calendar.{all_of, last_second}
use Rattle.model.specs.Words.{first, word, head_word, along, slot_from, slot_count, ticks_per_second, clock_set, seconds, ticks_into, first_dated, server_initiated, kind_of, name_of, interval_of, wait_of, routine_of, data_of, next_of, previous_of, party_split}
use Rattle.model.specs.Sound.{header_tests, header_sound, unlinked, unstarted, slot_tests, slot_sound, previous_sound, chain_tests, chain_sound, first_sound, ticks_sound, rising, dates_sound, queue_sound, sound_tests, sound}
use Rattle.laws.proofs.ListLaws.{cases, and_both, every_true, all_up, all_map, all-zip, all-mapped}
use Rattle.laws.proofs.WellFormed.{Shape, WellFormed, Holds}
use Rattle.laws.proofs.Chains.{InSlots, in-slots, fits}
use Rattle.laws.proofs.KindLaws.{in-none}
use Rattle.laws.proofs.EachPlace.{end, ◌&◌, passed}
use Rattle.laws.proofs.StateWords.{head_words, holds_spelled, Loose, Parts, holds_parts, Linked, holds-linked}
use Rattle.laws.proofs.ReadBack.{count-slots, count-is, set_is, server-is, links-is, by_next}

or-if : (a b : Bool) → (a ≡ false → b ≡ true) → (a || b) ≡ true
or-if true b f = refl
or-if false b f = f refl

-- ---- a slot

slot-sound : (t : List ℕ) (i : ℕ) → Shape (eqb (server_initiated t) 1) (slot_from t i) → (linked (kind_of t i) ≡ false → Loose t i) → slot_sound t i ≡ true
unfolding slot_sound
slot-sound t i h loose =
    let kind = kind_of t i in
    passed (slot_tests t i kind) (
    le-leb kind 13 h.kinds
    & or-if (not (eqb kind 0)) (eqb (name_of t i) 0) (λ e. eq-eqb (name_of t i) 0 (h.nameless (eqb-true kind 0 (not-false (eqb kind 0) e))))
    & or-if (eqb kind 0) (ltb 0 (name_of t i)) (λ e. lt-ltb 0 (name_of t i) (h.named (pos_of_ne-zero (eqb-false kind 0 e))))
    & or-if (ltb 1 kind) (unstarted t i) (λ e.
    let b = h.blank (ltb-false 1 kind e) in
    passed (eqb (interval_of t i) 0 ∷ eqb (routine_of t i) 0 ∷ eqb (data_of t i) 0 ∷ [])
    (eq-eqb (interval_of t i) 0 b.0 & eq-eqb (routine_of t i) 0 b.1 & eq-eqb (data_of t i) 0 b.2 & end))
    & or-if (ltb kind 2) (ltb 0 (routine_of t i)) (λ e. lt-ltb 0 (routine_of t i) (h.used (ltb-false kind 2 e)))
    & cases (last_by_ticks kind) (λ e. rw e (lt-ltb 0 (interval_of t i) (h.by-ticks e))) (λ e. rw e (eq-eqb (interval_of t i) 0 (h.by-date e)))
    & or-if (linked kind) (unlinked t i) (λ e.
    let z = loose e in
    passed (eqb (wait_of t i) 0 ∷ eqb (next_of t i) 0 ∷ eqb (previous_of t i) 0 ∷ [])
    (eq-eqb (wait_of t i) 0 z.wait & eq-eqb (next_of t i) 0 z.next & eq-eqb (previous_of t i) 0 z.previous & end))
    & or-if (ltb kind 8) (eqb (word t 8) 1) (λ e. h.by-server (ltb-false kind 8 e))
    & end)

-- ---- a chain

linked-previous : (k : Chain) (t : List ℕ) (p b : ℕ) (c : List Link) → Linked k t p b c → previous_sound t p (map (λ w. w.slot) c) ≡ true
linked-previous k t p b [] h = refl
linked-previous k t p b (w ∷ ws) h =
    and_both (eqb (previous_of t w.slot) p) (previous_sound t w.slot (map (λ x. x.slot) ws)) (eq-eqb (previous_of t w.slot) p h.0.previous)
    (linked-previous k t w.slot w.wait ws h.1)

first_passes : (c : List Link) → All (λ w. 1 ≤ w.wait) c → first_sound c ≡ true
first_passes [] h = refl
first_passes (w ∷ ws) h = le-leb 1 w.wait h.0

rises : (b : ℕ) (c : List Link) → All (λ w. b ≤ w.wait) c → Sorted (λ w. w.wait) c → rising b c ≡ true
rises b [] h s = refl
rises b (w ∷ ws) h s = and_both (leb b w.wait) (rising w.wait ws) (le-leb b w.wait h.0) (rises w.wait ws s.0 s.1)

module _ (t : List ℕ) (s : State) (h : Holds t s) where
  parts : Parts t s
  parts = holds_parts t s h

  heads : (m : ℕ) → m < 10 → word t m ≡ get_or (head_words s) m 0
  heads = (holds_spelled t s h).heads

  chain-sound : (k : Chain) → chain_sound k t ≡ true
  unfolding chain_sound
  chain-sound k =
      let c = chain_of k s in
      let n = slot_count t in
      let i = word t (head_word k) in
      let l = along (next_of t) n i in
      let more = along (next_of t) (suc n) i in
      let fit : length c ≤ n = omega (arith, count-is t s h, fits s h.chained k) in
      let is : l ≡ map (λ w. w.slot) c = by_next t s h k n fit in
      let is' : more ≡ map (λ w. w.slot) c = by_next t s h k (suc n) (omega arith) in
      let meets : ℕ → Bool = λ j. eqb (count (λ x. eqb x j) l) (cond (waits_in k (kind_of t j)) 1 0) in
      passed (chain_tests k t) (
      le-leb (length more) n (omega (arith, ap length is', length-map c (λ w. w.slot)))
      & (ap (every (λ j. leb j n)) is ∙ every_true (λ j. leb j n) (map (λ w. w.slot) c)
      (all-mapped (λ w. w.slot) (λ j. leb j n ≡ true) c
      (all_map (λ w p. le-leb w.slot n (omega (arith, p.1, count-is t s h))) c (in-slots s h.chained k))))
      & all_up meets 1 n (λ j a b. eq-eqb (count (λ x. eqb x j) l) (cond (waits_in k (kind_of t j)) 1 0)
      (ap (count (λ x. eqb x j)) is ∙ count-slots j c ∙ h.chained.meets k j
      ∙ ap (λ (x : Slot). cond (waits_in k x.kind) 1 0) (sym (parts.slots j a (omega (arith, count-is t s h))))))
      & (ap (previous_sound t 0) is ∙ linked-previous k t 0 0 c (holds-linked t s h k))
      & end)

  loose : (i : ℕ) → 0 < i → i ≤ length s.slots → linked (kind_of t i) ≡ false → Loose t i
  loose i a b p = parts.loose i a b (λ k. h.chained.meets k i
      ∙ ap (λ (x : Slot). cond (waits_in k x.kind) 1 0) (sym (parts.slots i a b)) ∙ rw (in-none (kind_at (kind_of t i)).chain k p))

  module _ (ok : WellFormed s) where
    header-sound : header_sound t ≡ true
    unfolding header_sound
    header-sound =
        let per : ticks_per_second t ≡ s.clock.per_second = heads 1 (omega arith) in
        let set : clock_set t ≡ cond s.clock.is_set 1 0 = heads 2 (omega arith) in
        let second : seconds t ≡ s.clock.second = heads 3 (omega arith) in
        let into : ticks_into t ≡ s.clock.ticks_into = heads 4 (omega arith) in
        let dated : first_dated t ≡ first s.dated = heads 6 (omega arith) in
        let split : party_split t ≡ s.split = heads 7 (omega arith) in
        let count = count-is t s h in
        passed (header_tests t) (
        le-leb 1 (slot_count t) (omega (arith, ok.some-slot))
        & le-leb (slot_count t) 255 (omega (arith, h.chained.few))
        & le-leb (10 + 8 * slot_count t) (length t) (omega (arith, h.long))
        & le-leb 1 (ticks_per_second t) (omega (arith, ok.per-low))
        & le-leb (ticks_per_second t) 1000 (omega (arith, ok.per-high))
        & le-leb (clock_set t) 1 (omega (arith, bit s.clock.is_set))
        & le-leb (seconds t) last_second (omega (arith, ok.second-high))
        & lt-ltb (ticks_into t) (ticks_per_second t) (omega (arith, ok.into))
        & lt-ltb (party_split t) (slot_count t) (omega (arith, ok.parted))
        & le-leb (word t 8) 1 (omega (arith, heads 8 (omega arith), bit s.server))
        & or-if (eqb (clock_set t) 1) (all_of (eqb (seconds t) 0 ∷ eqb (ticks_into t) 0 ∷ eqb (first_dated t) 0 ∷ [])) (λ e.
        let z = ok.unset (sym (set_is t s h) ∙ e) in
        passed (eqb (seconds t) 0 ∷ eqb (ticks_into t) 0 ∷ eqb (first_dated t) 0 ∷ [])
        (eq-eqb (seconds t) 0 (second ∙ z.0) & eq-eqb (ticks_into t) 0 (into ∙ z.1) & eq-eqb (first_dated t) 0 (dated ∙ ap first z.2) & end))
        & end)
      where
        bit : (b : Bool) → cond b 1 0 ≤ 1
        bit true = omega arith
        bit false = omega arith

    ticks-sound : ticks_sound t ≡ true
    unfolding ticks_sound
    ticks-sound =
        let c = s.ticking in
        let low : Link → Bool = λ w. leb w.wait (interval_of t w.slot) in
        ap (λ (l : List Link). first_sound l && every low l) (links-is t s h ByTicks)
        ∙ and_both (first_sound c) (every low c) (first_passes c ok.ticks)
        (every_true low c (all_map (λ w p.
        let is = ap (λ (x : Slot). x.interval) (parts.slots w.slot p.0.0 p.0.1) in
        le-leb w.wait (interval_of t w.slot) (omega (arith, is, p.1))) c
        (all-zip (InSlots (length s.slots)) (λ w. w.wait ≤ (slot_at s.slots w.slot).interval) c
        (in-slots s h.chained ByTicks) (h.chained.within ByTicks))))

    dates-sound : dates_sound t ≡ true
    unfolding dates_sound
    dates-sound =
        let c = s.dated in
        let low : Link → Bool = λ w. leb w.wait last_second in
        let second : seconds t ≡ s.clock.second = heads 3 (omega arith) in
        ap (λ (l : List Link). rising (suc (seconds t)) l && every low l) (links-is t s h ByDate)
        ∙ and_both (rising (suc (seconds t)) c) (every low c)
        (rises (suc (seconds t)) c (all_map (λ w p. omega (arith, p.0)) c ok.dates) (h.chained.rises ByDate))
        (every_true low c (all_map (λ w p. le-leb w.wait last_second p.1) c ok.dates))

    queue-sound : queue_sound t ≡ true
    unfolding queue_sound
    queue-sound =
        let zero-wait : Link → Bool = λ w. eqb w.wait 0 in
        ap (every zero-wait) (links-is t s h Queue)
        ∙ every_true zero-wait s.queue (all_map (λ w p. eq-eqb w.wait 0 p) s.queue (h.chained.within Queue))

    pub well-formed-sound : sound t ≡ true
    unfolding sound
    well-formed-sound = passed (sound_tests t) (
        header-sound
        & all_up (slot_sound t) 1 (slot_count t) (λ i a b.
        let n : i ≤ length s.slots = omega (arith, count-is t s h) in
        slot-sound t i (subst (λ (x : Slot). Shape (eqb (word t 8) 1) x) (sym (parts.slots i a n)) (rw (server-is t s h) (ok.shape i))) (loose i a n))
        & chain-sound ByTicks
        & chain-sound ByDate
        & chain-sound Queue
        & ticks-sound
        & dates-sound
        & queue-sound
        & end)
