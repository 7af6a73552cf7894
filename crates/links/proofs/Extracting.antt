-- A waiting timer stops: its slot extracted from the chain `xs ++ e ∷ ys` is one edit of the table, which then holds the stopped state.
-- A timer that does not wait is stopped already. Assumes nothing.
use mathlib.Core.Path.{◌≡◌, refl, sym, ap, ap₂, ◌∙◌, subst}
use mathlib.Core.Logic.{◌≢◌}
use Prim.Native.Nat.{ℕ, zero, suc, ◌+◌, ◌*◌, ◌≤◌, ◌<◌}
use native.Mathlib.Omega.{arith}
use mathlib.Core.Bool.{Bool, true, false, cond}
use mathlib.Core.List.{List, [], ◌∷◌, ◌++◌, append_assoc}
use lib.ListN.{length, set}
use lib.Seq.{set-get_or}
use Rattle.model.specs.declared.Chain.{Chain}
use Rattle.model.specs.declared.Chain.TheVariants.{ByTicks, ByDate, Queue}
use Rattle.model.specs.Lists.{All, Sorted}
use Rattle.model.specs.Kinds.{kind_at, same_chain, waits_in}
use Rattle.model.specs.State.{Slot, Link, State, chain_of, with_chain, free, slot_at, put_at, without}
use Rattle.model.specs.Directives.{stopped, idled}
use Rattle.model.specs.Words.{first, difference, written_over, word, slot_from, read, kind_of, name_of, interval_of, wait_of, routine_of, data_of, next_of}
use Rattle.laws.proofs.WellFormed.{times_in, Holds}
use Rattle.laws.proofs.Chains.{without-none}
use Rattle.laws.proofs.KindLaws.{each-chain, none_in, stopped-not-in, stays}
use Rattle.laws.proofs.StateWords.{holds_parts, Linked, holds-linked}
use Rattle.laws.proofs.ReadBack.{slots_length, slot_read}
use Rattle.laws.proofs.Steps.{same-state, with-chain-slots, with-chain-clock, with-chain-split, with-chain-server, with-chain-own, with-chain-apart, stopped-chain, chained-stopped}
use Rattle.chains.specs.EditedWords.{field_word, relinked, wait_without, extracted_words, Extractable}
use Rattle.links.specs.Places.{last_slot, last_wait, InTable}
use Rattle.links.proofs.LinkInMiddle.{times-at, Split, split, all-mid, sorted-next, linked-back, mid-stands, mid-once, mid-apart, mid-within, mid-sorted, last-low}
use Rattle.chains.proofs.EditedWords.{wait-without-none, wait-without-ticks, wait-without-date, wait-without-queue, edit-set, relinked-edit}
use Rattle.links.proofs.Relinked.{times-but, Around, own-within, own-not-last, own-not-first, last-high, first-high, behind-within, led-front, led-back, edited}

-- ---- one chain

-- a wait of the slot behind, after the slot before it left
wait-without-is : (k : Chain) (t : List ℕ) (n w a b c : ℕ) → n ≢ 0 → wait_of t n ≡ difference k b c → w ≡ difference k a b → a ≤ b → b ≤ c
    → wait_without k t n w ≡ difference k a c
wait-without-is ByTicks t n w a b c h e f p q = omega (arith, wait-without-ticks t w n h)
wait-without-is ByDate t n w a b c h e f p q = wait-without-date t w n h ∙ e
wait-without-is Queue t n w a b c h e f p q = wait-without-queue t w n h ∙ e

-- a state whose slot i is only in chain k
stopped-as : (k : Chain) (s : State) (i : ℕ) (x : Slot) (c : List Link) → without i (chain_of k s) ≡ c
    → ((m : Chain) → same_chain m k ≡ false → times_in (chain_of m s) i ≡ 0)
    → with_chain k s (put_at s.slots i x) c ≡ stopped s i x
stopped-as k s i x c e n =
    let sl = put_at s.slots i x in
    same-state (with_chain k s sl c) (stopped s i x) (with-chain-slots s sl c k) (with-chain-clock s sl c k) (with-chain-split s sl c k)
    (with-chain-server s sl c k)
    (each-chain (λ m. chain_of m (with_chain k s sl c) ≡ chain_of m (stopped s i x)) k
    (with-chain-own s sl c k ∙ sym e ∙ sym (stopped-chain s i x k))
    (λ m away. with-chain-apart s sl c k m away ∙ sym (without-none i (chain_of m s) (n m away)) ∙ sym (stopped-chain s i x m)))

module _ (k : Chain) (t : List ℕ) (s : State) (h : Holds t s) (xs : List Link) (e : Link) (ys : List Link) (whole : chain_of k s ≡ xs ++ e ∷ ys) where
  around : Around k s xs e ys
  around = record {
    once = mid-once k t s h xs e ys whole;
    apart = mid-apart k t s h xs e ys whole;
    within = mid-within k t s h xs e ys whole;
    same = λ j ji. ap (λ (c : List Link). times_in c j) whole ∙ times-but j xs e ys ji;
  }

  rest-linked : Linked k t e.slot e.wait ys
  rest-linked = linked-back k t 0 0 xs e ys (subst (Linked k t 0 0) whole (holds-linked t s h k))

  -- the wait of the slot behind
  follower-wait : (y : Link) (zs : List Link) → ys ≡ y ∷ zs → wait_without k t (first ys) (wait_of t e.slot) ≡ difference k (last_wait 0 xs) y.wait
  follower-wait y zs q =
      let rest = subst (Linked k t e.slot e.wait) q rest-linked in
      ap (λ (c : List Link). wait_without k t (first c) (wait_of t e.slot)) q
      ∙ wait-without-is k t y.slot (wait_of t e.slot) (last_wait 0 xs) e.wait y.wait (λ z. omega (arith, (behind-within around y zs q).0))
      rest.0.wait (mid-stands k t s h xs e ys whole).wait (last-low k t s h xs e ys whole)
      (sorted-next xs e y zs (subst (λ (c : List Link). Sorted (λ w. w.wait) (xs ++ e ∷ c)) q (mid-sorted k t s h xs e ys whole)))

  beside-mid : (8 * e.slot + 10 ≤ length t) × (8 * next_of t e.slot + 10 ≤ length t)
  beside-mid =
      (omega (arith, (own-within around).1, h.long), omega (arith, (mid-stands k t s h xs e ys whole).next, first-high around, h.long))

  module _ (fits : (m : ℕ) → word t m < 4294967296) where
    -- the wait of the slot behind fits a word
    follower-wait-fits : (m : Chain) → m ≡ k → (zs : List Link) → ys ≡ zs → wait_without k t (first ys) (wait_of t e.slot) < 4294967296
    follower-wait-fits m c [] q = omega (arith, wait-without-none t (wait_of t e.slot) k (first ys) (ap first q))
    follower-wait-fits ByDate c (y ∷ zs) q =
        let rest = subst (Linked k t e.slot e.wait) q rest-linked in
        let is : wait_of t y.slot ≡ y.wait = rest.0.wait ∙ ap (λ (m : Chain). difference m e.wait y.wait) (sym c) in
        omega (arith, follower-wait y zs q, is, fits (field_word y.slot 3), ap (λ (m : Chain). difference m (last_wait 0 xs) y.wait) (sym c))
    follower-wait-fits Queue c (y ∷ zs) q =
        let rest = subst (Linked k t e.slot e.wait) q rest-linked in
        let is : wait_of t y.slot ≡ y.wait = rest.0.wait ∙ ap (λ (m : Chain). difference m e.wait y.wait) (sym c) in
        omega (arith, follower-wait y zs q, is, fits (field_word y.slot 3), ap (λ (m : Chain). difference m (last_wait 0 xs) y.wait) (sym c))
    follower-wait-fits ByTicks c (y ∷ zs) q =
        let whole' : s.ticking ≡ (xs ++ e ∷ []) ++ y ∷ zs =
        subst (λ (m : Chain). chain_of m s ≡ xs ++ e ∷ ys) (sym c) whole ∙ ap (λ (l : List Link). xs ++ e ∷ l) q ∙ sym (append_assoc xs (e ∷ []) (y ∷ zs)) in
        let below : y.wait ≤ (slot_at s.slots y.slot).interval =
        all-mid (λ w. w.wait ≤ (slot_at s.slots w.slot).interval) (xs ++ e ∷ []) y zs
        (subst (All (λ w. w.wait ≤ (slot_at s.slots w.slot).interval)) whole' (h.chained.within ByTicks)) in
        let is = (holds_parts t s h).slots y.slot (behind-within around y zs q).0 (behind-within around y zs q).1 in
        omega (
          arith,
          follower-wait y zs q,
          below,
          ap (λ (x : Slot). x.interval) is,
          fits (field_word y.slot 2),
          ap (λ (m : Chain). difference m (last_wait 0 xs) y.wait) (sym c),
        )

    extractable-mid : Extractable k t e.slot
    extractable-mid =
        let stands = mid-stands k t s h xs e ys whole in
        record {
          here = omega (arith, (own-within around).1, h.long);
          behind = omega (arith, stands.next, first-high around, h.long);
          before = omega (arith, stands.previous, last-high around, h.long);
          fits = rw stands.next (follower-wait-fits k refl ys refl);
        }

  stop-mid : (v : ℕ) → v ≡ (kind_at (slot_at s.slots e.slot).kind).when_stopped → without e.slot (chain_of k s) ≡ xs ++ ys
      → set (extracted_words k t e.slot) (field_word e.slot 0) v ≡ written_over (stopped s e.slot (idled (slot_at s.slots e.slot))) t
  stop-mid v idle rest =
      let i = e.slot in
      let p = last_slot 0 xs in
      let n = first ys in
      let stands = mid-stands k t s h xs e ys whole in
      let own = own-within around in
      let x = slot_at s.slots i in
      let old : slot_from t i ≡ x = (holds_parts t s h).slots i own.0 own.1 in
      let new : record { kind = v; name = name_of t i; interval = interval_of t i; routine = routine_of t i; user_data = data_of t i } ≡ idled x =
      λ d. record { kind = idle d; name = (old d).name; interval = (old d).interval; routine = (old d).routine; user_data = (old d).user_data } in
      let edit = edit-set 0 v (omega arith) (omega arith)
      (relinked-edit k t p n n p (wait_without k t n (wait_of t i)) i own.0 (own-not-last around) (own-not-first around)
      (omega (arith, last-high around, h.long)) (omega (arith, first-high around, h.long)) (omega (arith, own.1, h.long)) 0 0 0) in
      ap₂ (λ (a b : ℕ). set (relinked k t a b b a (wait_without k t b (wait_of t i)) i 0 0 0) (field_word i 0) v) stands.previous stands.next
      ∙ edited h around edit (xs ++ ys)
      (led-front h around edit (e ∷ ys) ys whole
      (record { link = edit.link; linked = led-back h around edit e.slot e.wait (last_wait 0 xs) follower-wait rest-linked }))
      (λ j _. refl)
      (λ _. record { wait = edit.own 3 (omega arith); next = edit.own 6 (omega arith); previous = edit.own 7 (omega arith) })
      (stopped s i (idled x))
      (ap (λ (z : Slot). with_chain k s (put_at s.slots i z) (xs ++ ys)) new
      ∙ stopped-as k s i (idled x) (xs ++ ys) rest (λ m away. omega (arith, around.apart m away i, times-at xs e ys)))
      (chained-stopped s h.chained i (idled x) own.0 own.1 (λ m. stopped-not-in m x.kind))

-- ---- a table

module _ (t : List ℕ) (i : ℕ) (h : InTable t i) where
  pub in-slots : i ≤ length (read t).slots
  in-slots = omega (arith, h.high, slots_length t)

  pub in_words : 8 * i + 10 ≤ length t
  in_words = omega (arith, in-slots, h.holds.long)

  slot_is : slot_at (read t).slots i ≡ slot_from t i
  slot_is = slot_read t i h.low h.high

  pub kind-is : (slot_at (read t).slots i).kind ≡ kind_of t i
  kind-is = ap (λ (x : Slot). x.kind) slot_is

  pub times-kind : (k : Chain) (b : Bool) → waits_in k (kind_of t i) ≡ b → times_in (chain_of k (read t)) i ≡ cond b 1 0
  times-kind k b e =
      h.holds.chained.meets k i ∙ ap (λ (x : Slot). cond (waits_in k x.kind) 1 0) slot_is ∙ ap (λ (c : Bool). cond c 1 0) e

  pub in-none : ((k : Chain) → waits_in k (kind_of t i) ≡ false) → (k : Chain) → times_in (chain_of k (read t)) i ≡ 0
  in-none idle k = times-kind k false (idle k)

  -- a timer that waits in chain k
  module _ (k : Chain) (waits : waits_in k (kind_of t i) ≡ true) where
    found : Split i (chain_of k (read t))
    found = split i (chain_of k (read t)) (times-kind k true waits)

    pub extractable : ((m : ℕ) → word t m < 4294967296) → Extractable k t i
    extractable fits =
        let f = found in subst (Extractable k t) f.slot (extractable-mid k t (read t) h.holds f.front f.entry f.back f.whole fits)

    -- the words of its slot and of the next one are in the slice
    pub beside : (8 * i + 10 ≤ length t) × (8 * next_of t i + 10 ≤ length t)
    beside =
        let f = found in
        subst (λ (j : ℕ). (8 * j + 10 ≤ length t) × (8 * next_of t j + 10 ≤ length t)) f.slot
        (beside-mid k t (read t) h.holds f.front f.entry f.back f.whole)

    -- the words after the steps of a stop
    pub stop-waiting : {t₁ t₂ : List ℕ} (v : ℕ) → v ≡ (kind_at (kind_of t i)).when_stopped → t₁ ≡ extracted_words k t i → t₂ ≡ set t₁ (field_word i 0) v
        → t₂ ≡ written_over (stopped (read t) i (idled (slot_at (read t).slots i))) t
    stop-waiting v idle extract put =
        let f = found in
        put ∙ ap (λ (l : List ℕ). set l (field_word i 0) v) extract
        ∙ subst (λ (j : ℕ). v ≡ (kind_at (slot_at (read t).slots j).kind).when_stopped → without j (chain_of k (read t)) ≡ f.front ++ f.back
        → set (extracted_words k t j) (field_word j 0) v ≡ written_over (stopped (read t) j (idled (slot_at (read t).slots j))) t) f.slot
        (stop-mid k t (read t) h.holds f.front f.entry f.back f.whole v)
        (idle ∙ ap (λ (x : Slot). (kind_at x.kind).when_stopped) (sym slot_is)) f.rest

  -- a timer that does not wait
  pub stop-idle : ((k : Chain) → waits_in k (kind_of t i) ≡ false) → t ≡ written_over (stopped (read t) i (idled (slot_at (read t).slots i))) t
  stop-idle idle =
      let s = read t in
      let x = slot_at s.slots i in
      let kind : (kind_at x.kind).when_stopped ≡ x.kind =
      rw slot_is (stays (kind_of t i) (none_in (kind_at (kind_of t i)).chain idle)) in
      let same : idled x ≡ x = ap (λ (m : ℕ). record { kind = m; name = x.name; interval = x.interval; routine = x.routine; user_data = x.user_data }) kind in
      let is : s ≡ stopped s i (idled x) =
      ap (λ (sl : List Slot). with_chain ByTicks s sl s.ticking) (sym (put-own s.slots i) ∙ ap (put_at s.slots i) (sym same))
      ∙ stopped-as ByTicks s i (idled x) s.ticking (without-none i s.ticking (in-none idle ByTicks)) (λ m _. in-none idle m) in
      sym h.holds.is ∙ ap (λ (z : State). written_over z t) is
    where
      put-own : (sl : List Slot) (j : ℕ) → put_at sl j (slot_at sl j) ≡ sl
      put-own sl zero = refl
      put-own sl (suc j) = set-get_or sl j free
