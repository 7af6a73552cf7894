-- A timer that does not wait starts to: its slot inserted between xs and ys, the links of the chain up to its wait and beyond it, is one edit of
-- the table, which then holds the started state. A periodic one that waits again is started as it was. Assumes nothing.
use mathlib.Core.Path.{◌≡◌, refl, sym, ap, ap₂, ◌∙◌, subst}
use mathlib.Core.Logic.{◌≢◌}
use Prim.Native.Nat.{ℕ, ◌≤◌, ◌<◌, zero-le}
use native.Mathlib.Omega.{arith}
use mathlib.Core.Bool.{false}
use mathlib.Core.List.{List, [], ◌∷◌, ◌++◌}
use lib.ListN.{length, get_or, set}
use lib.Dec.{leb, eqb}
use borrow.Author.Tests.{eqb-true, eqb-false, leb-true, leb-false}
use Rattle.model.specs.declared.Chain.{Chain}
use Rattle.model.specs.declared.Chain.TheVariants.{ByTicks, ByDate, Queue}
use Rattle.model.specs.Lists.{place}
use Rattle.model.specs.declared.Mode.{Mode}
use Rattle.model.specs.Kinds.{chain_for, waiting_kind, interval_in, waits_in}
use Rattle.model.specs.State.{Slot, Link, State, chain_of, with_chain, slot_at, put_at}
use Rattle.model.specs.Directives.{stopped, became, inserted, waiting_as, started}
use Rattle.model.specs.Words.{first, difference, written_over, read, kind_of, name_of, wait_of}
use Rattle.laws.proofs.ListLaws.{cases, count-append}
use Rattle.laws.proofs.WellFormed.{times_in, Chained, Holds}
use Rattle.laws.proofs.Chains.{without-none, once, once-apart, met-in-range}
use Rattle.laws.proofs.StateWords.{holds_parts, Linked}
use Rattle.laws.proofs.KindLaws.{each-chain}
use Rattle.laws.proofs.Steps.{same-state, with-chain-slots, with-chain-clock, with-chain-split, with-chain-server, with-chain-own, with-chain-apart, stopped-chain, chained-started}
use Rattle.chains.specs.EditedWords.{field_word, relinked, wait_behind, inserted_words, Insertable}
use Rattle.links.specs.Places.{up_to, beyond, last_slot, last_wait, At, InTable}
use Rattle.links.specs.TimerWords.{timer_put}
use Rattle.links.proofs.LinkInMiddle.{times-at}
use Rattle.links.proofs.TimerWords.{timer-put-edit}
use Rattle.chains.proofs.EditedWords.{wait-behind-ticks, wait-behind-date, wait-behind-queue, Edit, edit-set, slot_list, slot_of, relinked-edit}
use Rattle.links.proofs.Relinked.{times-but, Around, own-not-last, own-not-first, last-high, first-high, behind-within, Led, led-tail, holds-led, led-front, led-back, edited}
use Rattle.links.proofs.Extracting.{in-slots, in-none}

-- ---- the place

placed : (x : Link) (c : List Link) → place (λ w. w.wait) x c ≡ up_to x.wait c ++ x ∷ beyond x.wait c
placed x [] = refl
placed x (y ∷ ys) = cases (leb y.wait x.wait) (λ e. rw e (ap {B = List Link} (λ l. y ∷ l) (placed x ys))) (λ e. rw e)

parted : (n : ℕ) (c : List Link) → c ≡ up_to n c ++ beyond n c
parted n [] = refl
parted n (y ∷ ys) = cases (leb y.wait n) (λ e. rw e (ap {B = List Link} (λ l. y ∷ l) (parted n ys))) (λ e. rw e)

last_up : (b n : ℕ) (c : List Link) → b ≤ n → last_wait b (up_to n c) ≤ n
last_up b n [] h = h
last_up b n (y ∷ ys) h = cases (leb y.wait n) (λ e. rw e (last_up y.wait n ys (leb-true y.wait n e))) (λ e. rw e h)

first-beyond : (n : ℕ) (c : List Link) (y : Link) (ys : List Link) → beyond n c ≡ y ∷ ys → n ≤ y.wait
first-beyond n [] y ys e = absurd (let z : ◌≡◌ {A = ℕ} 0 1 = cc in omega arith)
first-beyond n (x ∷ xs) y ys e =
    cases (leb x.wait n)
    (λ f. first-beyond n xs y ys (rw f at e))
    (λ f. let z : x ∷ xs ≡ y ∷ ys = rw f at e in let w : x.wait ≡ y.wait = cc in omega (arith, leb-false x.wait n f))

-- a wait of the slot behind, after one came in front of it
wait-behind-is : (k : Chain) (t : List ℕ) (n w a b c : ℕ) → n ≢ 0 → wait_of t n ≡ difference k a c → w ≡ difference k a b → a ≤ b → b ≤ c
    → wait_behind k t n w ≡ difference k b c
wait-behind-is ByTicks t n w a b c h e f p q = omega (arith, wait-behind-ticks t w n h)
wait-behind-is ByDate t n w a b c h e f p q = wait-behind-date t w n h ∙ e
wait-behind-is Queue t n w a b c h e f p q = wait-behind-queue t w n h ∙ e

-- a state whose slot i is in no chain
pub started-as : (k : Chain) (s : State) (i n : ℕ) (x : Slot) (c : List Link) → ((m : Chain) → times_in (chain_of m s) i ≡ 0)
    → place (λ w. w.wait) (record { slot = i; wait = n }) (chain_of k s) ≡ c → with_chain k s (put_at s.slots i x) c ≡ inserted k (stopped s i x) i n
started-as k s i n x c none e =
    let sl = put_at s.slots i x in
    let o = stopped s i x in
    let goes : List Link → List Link = place (λ w. w.wait) (record { slot = i; wait = n }) in
    let c' = goes (chain_of k o) in
    let stays : (m : Chain) → chain_of m s ≡ chain_of m o = λ m. sym (without-none i (chain_of m s) (none m)) ∙ sym (stopped-chain s i x m) in
    same-state (with_chain k s sl c) (inserted k o i n)
    (with-chain-slots s sl c k ∙ sym (with-chain-slots o sl c' k))
    (with-chain-clock s sl c k ∙ sym (with-chain-clock o sl c' k))
    (with-chain-split s sl c k ∙ sym (with-chain-split o sl c' k))
    (with-chain-server s sl c k ∙ sym (with-chain-server o sl c' k))
    (each-chain (λ m. chain_of m (with_chain k s sl c) ≡ chain_of m (inserted k o i n)) k
    (with-chain-own s sl c k ∙ sym e ∙ ap goes (stays k) ∙ sym (with-chain-own o sl c' k))
    (λ m away. with-chain-apart s sl c k m away ∙ stays m ∙ sym (with-chain-apart o sl c' k m away)))

-- ---- one chain

module _ (k : Chain) (t : List ℕ) (s : State) (h : Holds t s) (xs : List Link) (e : Link) (ys : List Link) (whole : chain_of k s ≡ xs ++ ys)
    (low : 0 < e.slot) (high : e.slot ≤ length s.slots) (none : (m : Chain) → times_in (chain_of m s) e.slot ≡ 0)
    (up : last_wait 0 xs ≤ e.wait) (past : (y : Link) (zs : List Link) → ys ≡ y ∷ zs → e.wait ≤ y.wait) where
  times-whole : (j : ℕ) → times_in (chain_of k s) j ≡ times_in (xs ++ ys) j
  times-whole j = ap (λ (c : List Link). times_in c j) whole

  around : Around k s xs e ys
  around = record {
    once = λ j. cases (eqb e.slot j)
        (λ f.
        let is = eqb-true e.slot j f in
        rw (← is) (omega (arith, times-at xs e ys, times-whole e.slot, none k)))
        (λ f. omega (arith, times-but j xs e ys (λ r. eqb-false e.slot j f (sym r)), times-whole j, once s h.chained k j));
    apart = λ m away j. cases (eqb e.slot j)
        (λ f.
        let is = eqb-true e.slot j f in
        rw (← is) (omega (arith, times-at xs e ys, times-whole e.slot, none k, none m)))
        (λ f. omega (arith, times-but j xs e ys (λ r. eqb-false e.slot j f (sym r)), times-whole j, once-apart s h.chained m k away j));
    within = λ j m. cases (eqb e.slot j)
        (λ f. let is = eqb-true e.slot j f in (omega arith, omega arith))
        (λ f. met-in-range s h.chained k j (omega (arith, times-but j xs e ys (λ r. eqb-false e.slot j f (sym r)), times-whole j)));
    same = λ j _. times-whole j;
  }

  rest : Led k t (last_slot 0 xs) (last_wait 0 xs) ys
  rest =
      led-tail k t 0 0 xs ys
      (λ j m. (met-in-range s h.chained k j (omega (arith, m, times-whole j, count-append (λ w. eqb w.slot j) xs ys))).0)
      (subst (Led k t 0 0) whole (holds-led t s h k))

  behind-wait : (y : Link) (zs : List Link) → ys ≡ y ∷ zs → wait_of t y.slot ≡ difference k (last_wait 0 xs) y.wait
  behind-wait y zs q = (subst (Linked k t (last_slot 0 xs) (last_wait 0 xs)) q rest.linked).0.wait

  module _ (w : ℕ) (w-is : w ≡ difference k (last_wait 0 xs) e.wait) where
    -- the wait of the slot behind
    follower-wait : (y : Link) (zs : List Link) → ys ≡ y ∷ zs → wait_behind k t (first ys) w ≡ difference k e.wait y.wait
    follower-wait y zs q =
        ap (λ (c : List Link). wait_behind k t (first c) w) q
        ∙ wait-behind-is k t y.slot w (last_wait 0 xs) e.wait y.wait (λ z. omega (arith, (behind-within around y zs q).0))
        (behind-wait y zs q) w-is up (past y zs q)

    insertable-mid : Insertable k t (last_slot 0 xs) e.slot w
    insertable-mid = record {
      here = omega (arith, h.long);
      before = omega (arith, last-high around, h.long);
      behind = omega (arith, rest.link, first-high around, h.long);
      fits = λ c p. rw rest.link (room c ys refl (omega (arith, p, rest.link)));
    }
      where
        room : k ≡ ByTicks → (zs : List Link) → ys ≡ zs → 0 < first ys → w ≤ wait_of t (first ys)
        room c [] q p = absurd (omega (arith, p, ap first q))
        room c (y ∷ zs) q p =
            let is : wait_of t (first ys) ≡ difference k (last_wait 0 xs) y.wait = ap (λ (c : List Link). wait_of t (first c)) q ∙ behind-wait y zs q in
            let less = past y zs q in
            omega (arith, ap (λ (m : Chain). difference m (last_wait 0 xs) y.wait) c, ap (λ (m : Chain). difference m (last_wait 0 xs) e.wait) c)

    abbrev linked_words : List ℕ
    linked_words = set (set (set (slot_list t e.slot) 3 w) 6 (first ys)) 7 (last_slot 0 xs)

    -- the words after the slot was inserted
    inserted-edit : Edit k t (inserted_words k t (last_slot 0 xs) e.slot w) (last_slot 0 xs) e.slot (first ys) e.slot (wait_behind k t (first ys) w)
        e.slot linked_words
    inserted-edit =
        let i = e.slot in
        let p = last_slot 0 xs in
        let n = first ys in
        subst (λ (j : ℕ). Edit k t (relinked k t p i j i (wait_behind k t j w) i w j p) p i n i (wait_behind k t n w) i linked_words) (sym rest.link)
        (relinked-edit k t p i n i (wait_behind k t n w) i low (own-not-last around) (own-not-first around)
        (omega (arith, last-high around, h.long)) (omega (arith, first-high around, h.long)) (omega (arith, h.long)) w n p)

    -- its other words are those of x
    join-mid : (x : Slot) (u ws : List ℕ)
        → Edit k t u (last_slot 0 xs) e.slot (first ys) e.slot (wait_behind k t (first ys) w) e.slot ws
        → get_or ws 3 0 ≡ w → get_or ws 6 0 ≡ first ys → get_or ws 7 0 ≡ last_slot 0 xs → slot_of ws ≡ x
        → place (λ z. z.wait) e (chain_of k s) ≡ xs ++ e ∷ ys → Chained (inserted k (stopped s e.slot x) e.slot e.wait)
        → u ≡ written_over (inserted k (stopped s e.slot x) e.slot e.wait) t
    join-mid x u ws edit at-wait at_next at-previous new goes ok =
        let i = e.slot in
        edited h around edit (xs ++ e ∷ ys)
        (led-front h around edit ys (e ∷ ys) whole
        (record {
          link = edit.link;
          linked = (
            record {
              next = edit.own 6 (omega arith) ∙ at_next;
              previous = edit.own 7 (omega arith) ∙ at-previous;
              wait = edit.own 3 (omega arith) ∙ at-wait ∙ w-is;
            },
            led-back h around edit (last_slot 0 xs) (last_wait 0 xs) e.wait follower-wait rest.linked,
          );
        }))
        (λ j. times-but j xs e ys)
        (λ z. absurd (omega (arith, z, times-at xs e ys)))
        (inserted k (stopped s i x) i e.wait)
        (ap (λ (z : Slot). with_chain k s (put_at s.slots i z) (xs ++ e ∷ ys)) new ∙ started-as k s i e.wait x (xs ++ e ∷ ys) none goes)
        ok

    start-mid : (m : Mode) → k ≡ chain_for m → (r u : ℕ) → place (λ z. z.wait) e (chain_of k s) ≡ xs ++ e ∷ ys
        → timer_put (inserted_words k t (last_slot 0 xs) e.slot w) e.slot (waiting_kind m) (interval_in (chain_for m) e.wait) r u
        ≡ written_over (started m s e.slot e.wait r u) t
    start-mid m in-k r u goes =
        let interval = interval_in (chain_for m) e.wait in
        let i = e.slot in
        let y = waiting_as m (slot_at s.slots i) e.wait r u in
        let new : record { kind = waiting_kind m; name = name_of t i; interval = interval; routine = r; user_data = u } ≡ y =
        ap (λ (z : Slot). waiting_as m z e.wait r u) ((holds_parts t s h).slots i low high) in
        join-mid y (timer_put (inserted_words k t (last_slot 0 xs) i w) i (waiting_kind m) interval r u)
        (set (set (set (set linked_words 0 (waiting_kind m)) 2 interval) 4 r) 5 u) (timer-put-edit (waiting_kind m) interval r u refl inserted-edit)
        refl refl refl new goes
        (subst (λ (j : Chain). Chained (inserted j (stopped s i y) i e.wait)) (sym in-k) (chained-started m s h.chained i e.wait r u low high))
        ∙ ap (λ (j : Chain). written_over (inserted j (stopped s i y) i e.wait) t) in-k

    -- only its kind is written
    kind-mid : (kind : ℕ) → place (λ z. z.wait) e (chain_of k s) ≡ xs ++ e ∷ ys
        → Chained (inserted k (stopped s e.slot (became kind (slot_at s.slots e.slot))) e.slot e.wait)
        → set (inserted_words k t (last_slot 0 xs) e.slot w) (field_word e.slot 0) kind
        ≡ written_over (inserted k (stopped s e.slot (became kind (slot_at s.slots e.slot))) e.slot e.wait) t
    kind-mid kind goes ok =
        let i = e.slot in
        let x = slot_at s.slots i in
        join-mid (became kind x) (set (inserted_words k t (last_slot 0 xs) i w) (field_word i 0) kind) (set linked_words 0 kind)
        (edit-set 0 kind (omega arith) (omega arith) inserted-edit) refl refl refl (ap (became kind) ((holds_parts t s h).slots i low high)) goes ok

-- ---- a table

module _ (k : Chain) (t : List ℕ) (i : ℕ) (h : InTable t i) (idle : (m : Chain) → waits_in m (kind_of t i) ≡ false) (n p w : ℕ) (at : At k (read t) n p w) where
  pub insertable : Insertable k t p i w
  insertable =
      let c = chain_of k (read t) in
      rw at.slot (insertable-mid k t (read t) h.holds (up_to n c) (record { slot = i; wait = n }) (beyond n c) (parted n c)
      h.low (in-slots t i h) (in-none t i h idle) (last_up 0 n c zero-le) (first-beyond n c)
      w at.word)

  -- the words after the steps of a start
  pub start-words : (m : Mode) → k ≡ chain_for m → (r u : ℕ) {kind interval : ℕ} (t₁ : List ℕ) {t₂ : List ℕ} → t₁ ≡ inserted_words k t p i w → kind ≡ waiting_kind m
      → interval ≡ interval_in k n → t₂ ≡ timer_put t₁ i kind interval r u → t₂ ≡ written_over (started m (read t) i n r u) t
  start-words m in-k r u t₁ put is for timer =
      let c = chain_of k (read t) in
      let e : Link = record { slot = i; wait = n } in
      timer ∙ ap₂ (λ (a b : ℕ). timer_put t₁ i a b r u) is (for ∙ ap (λ (j : Chain). interval_in j n) in-k)
      ∙ ap (λ (l : List ℕ). timer_put l i (waiting_kind m) (interval_in (chain_for m) n) r u) put
      ∙ rw at.slot (start-mid k t (read t) h.holds (up_to n c) e (beyond n c) (parted n c)
      h.low (in-slots t i h) (in-none t i h idle) (last_up 0 n c zero-le) (first-beyond n c)
      w at.word m in-k r u (placed e c))

  -- the words after the slot was inserted, and its kind written
  pub kind-words : (kind : ℕ) → Chained (inserted k (stopped (read t) i (became kind (slot_at (read t).slots i))) i n) → {t₁ t₂ : List ℕ}
      → t₁ ≡ inserted_words k t p i w → t₂ ≡ set t₁ (field_word i 0) kind
      → t₂ ≡ written_over (inserted k (stopped (read t) i (became kind (slot_at (read t).slots i))) i n) t
  kind-words kind ok put store =
      let c = chain_of k (read t) in
      let e : Link = record { slot = i; wait = n } in
      store ∙ ap (λ (l : List ℕ). set l (field_word i 0) kind) put
      ∙ rw at.slot (kind-mid k t (read t) h.holds (up_to n c) e (beyond n c) (parted n c)
      h.low (in-slots t i h) (in-none t i h idle) (last_up 0 n c zero-le) (first-beyond n c)
      w at.word kind (placed e c) ok)
