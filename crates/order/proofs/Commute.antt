-- Two changes of different slots commute. Every start, reset, cancel and delete is one change of a state: a slot is written, taken off every chain, and
-- put into its place where the call starts the timer. Chain by chain, taking off goes through putting in, and two links with different numbers go in
-- either order; with the same number the later one is behind. Assumes nothing.
use mathlib.Core.Path.{◌≡◌, refl, sym, ap, ◌∙◌}
use Prim.Native.Nat.{ℕ, zero, suc, ◌≤◌, ◌<◌}
use native.Mathlib.Omega.{arith}
use mathlib.Core.Bool.{Bool, true, false, cond, not}
use mathlib.Core.Option.{Option, none, some}
use mathlib.Core.List.{List, [], ◌∷◌, head-eq_of_cons-eq, tail-eq_of_cons-eq}
use lib.ListN.{length}
use lib.Seq.{set_comm}
use lib.Dec.{leb, eqb, ltb}
use borrow.Author.Tests.{leb-true, le-leb, lt-leb, ltb-true, ltb-false, eqb-true, eq-eqb, ne_eqb}
use Rattle.model.specs.Lists.{place, Sorted}
use Rattle.model.specs.declared.Chain.{Chain}
use Rattle.model.specs.Kinds.{same_chain}
use Rattle.model.specs.State.{Slot, Link, State, chain_of, with_chain, slot_at, put_at, without, wait_at}
use Rattle.model.specs.Directives.{stopped, inserted}
use Rattle.laws.proofs.ListLaws.{cases, keep-keep, keep-place, sorted-keep}
use Rattle.laws.proofs.KindLaws.{same-chain, own-chain}
use Rattle.laws.proofs.Slots.{at_same, at_other, length-put}
use Rattle.laws.proofs.Steps.{same-state, with-chain-slots, with-chain-clock, with-chain-split, with-chain-server, with-chain-each, stopped-chain}
use Rattle.order.specs.Deadlines.{Deadline}

-- ---- lists

module _ {A : Type 0} (key : A → ℕ) where
  place-smaller : (x y : A) → key x < key y → (l : List A) → place key x (place key y l) ≡ place key y (place key x l)
  place-smaller x y lt [] = rw (lt-leb (key y) (key x) lt, le-leb (key x) (key y) (omega arith))
  place-smaller x y lt (z ∷ zs) =
      let after : leb (key y) (key x) ≡ false = lt-leb (key y) (key x) lt in
      let before : leb (key x) (key y) ≡ true = le-leb (key x) (key y) (omega arith) in
      cases (leb (key z) (key x))
      (λ e.
      let f : leb (key z) (key y) ≡ true = le-leb (key z) (key y) (omega (arith, leb-true (key z) (key x) e)) in
      rw (e, f) (rw e (ap {B = List A} (λ r. z ∷ r) (place-smaller x y lt zs))))
      (λ e. rw (e, before) (cases (leb (key z) (key y)) (λ f. rw f (rw e)) (λ f. rw f (rw after))))

  -- two elements with different numbers go in either order
  place-place : (x y : A) → (key x ≡ key y → ⊥) → (l : List A) → place key x (place key y l) ≡ place key y (place key x l)
  place-place x y n l =
      cases (ltb (key x) (key y))
      (λ e. place-smaller x y (ltb-true (key x) (key y) e) l)
      (λ e. sym (place-smaller y x (less (key x) (key y) n (ltb-false (key x) (key y) e)) l))
    where
      less : (a b : ℕ) → (a ≡ b → ⊥) → b ≤ a → b < a
      less a b p q = omega arith

  -- two with the same number do not, unless they are the same
  place-shows : (x y : A) → key x ≡ key y → (l : List A) → place key x (place key y l) ≡ place key y (place key x l) → x ≡ y
  place-shows x y same [] e = sym (head-eq_of_cons-eq (rw (le-leb (key y) (key x) (omega arith), le-leb (key x) (key y) (omega arith)) at e))
  place-shows x y same (z ∷ zs) e =
      let f : leb (key y) (key x) ≡ true = le-leb (key y) (key x) (omega arith) in
      let g : leb (key x) (key y) ≡ true = le-leb (key x) (key y) (omega arith) in
      let o : leb (key z) (key y) ≡ leb (key z) (key x) = ap (leb (key z)) (sym same) in
      cases (leb (key z) (key x))
      (λ q. let e₂ = rw (o, q) at e in place-shows x y same zs (tail-eq_of_cons-eq (rw (o, q) at e₂)))
      (λ q. let e₂ = rw (o, q) at e in sym (head-eq_of_cons-eq (rw (f, g) at e₂)))

put_other : (sl : List Slot) (i j : ℕ) (x y : Slot) → (i ≡ j → ⊥) → put_at (put_at sl i x) j y ≡ put_at (put_at sl j y) i x
put_other sl zero j x y n = refl
put_other sl (suc i) zero x y n = refl
put_other sl (suc i) (suc j) x y n = set_comm sl i j x y (λ e. n (ap suc e))

-- ---- one chain

-- the link of slot i at a deadline
abbrev link_at : ℕ → Deadline → Link
link_at i w = record { slot = i; wait = w.number }

-- slot i goes into chain k where its deadline is of that chain
abbrev entered : Chain → ℕ → Option Deadline → List Link → List Link
entered k i none l = l
entered k i (some w) l = cond (same_chain k w.chain) (place (λ v. v.wait) (link_at i w) l) l

-- the two deadlines are not the same
abbrev pub Apart : Option Deadline → Option Deadline → Type 0
Apart a b = (w : Deadline) → a ≡ some w → b ≡ some w → ⊥

module _ (k : Chain) (i j : ℕ) where
  entered-entered : (a b : Option Deadline) → Apart a b → (l : List Link) → entered k j b (entered k i a l) ≡ entered k i a (entered k j b l)
  entered-entered none none n l = refl
  entered-entered none (some w) n l = refl
  entered-entered (some v) none n l = refl
  entered-entered (some v) (some w) n l =
      cases (same_chain k v.chain)
      (λ e. cases (same_chain k w.chain)
      (λ f.
      let chains : w.chain ≡ v.chain = sym (same-chain k w.chain f) ∙ same-chain k v.chain e in
      rw (e, f) (place-place (λ x. x.wait) (link_at j w) (link_at i v)
      (λ q. n v refl (ap {B = Option Deadline} some (λ d. record { chain = chains d; number = q d }))) l))
      (λ f. rw f))
      (λ e. rw e)

  -- taking another slot off goes through
  entered-without : (i ≡ j → ⊥) → (a : Option Deadline) (l : List Link) → Sorted (λ w. w.wait) l
      → without j (entered k i a l) ≡ entered k i a (without j l)
  entered-without n none l h = refl
  entered-without n (some w) l h =
      let other : Link → Bool = λ v. not (eqb v.slot j) in
      cases (same_chain k w.chain)
      (λ e. rw e (keep-place (λ v. v.wait) other (link_at i w) l h ∙ rw (ne_eqb i j n)))
      (λ e. rw e)

-- ---- the wait of a slot in a chain

wait-without : (i j : ℕ) → (i ≡ j → ⊥) → (l : List Link) → wait_at i (without j l) ≡ wait_at i l
wait-without i j n [] = refl
wait-without i j n (w ∷ ws) =
    cases (eqb w.slot j)
    (λ e. rw (e, ne_eqb w.slot i (λ q. n (sym q ∙ eqb-true w.slot j e))) (wait-without i j n ws))
    (λ e. rw e (ap (cond (eqb w.slot i) w.wait) (wait-without i j n ws)))

module _ (i : ℕ) (w : Deadline) where
  abbrev placed : List Link → List Link
  placed l = place (λ v. v.wait) (link_at i w) l

  wait-placed : (l : List Link) → wait_at i (placed (without i l)) ≡ w.number
  wait-placed [] = rw (eq-eqb i i refl)
  wait-placed (v ∷ vs) =
      cases (eqb v.slot i)
      (λ e. rw e (wait-placed vs))
      (λ e. rw e (cases (leb v.wait w.number) (λ f. rw f (rw e (wait-placed vs))) (λ f. rw f (rw (eq-eqb i i refl)))))

  wait-other : (j : ℕ) → (j ≡ i → ⊥) → (l : List Link) → wait_at j (placed l) ≡ wait_at j l
  wait-other j n [] = rw (ne_eqb i j (λ q. n (sym q)))
  wait-other j n (v ∷ vs) =
      cases (leb v.wait w.number)
      (λ f. rw f (ap (cond (eqb v.slot j) v.wait) (wait-other j n vs)))
      (λ f. rw f (rw (ne_eqb i j (λ q. n (sym q)))))

wait-entered : (k : Chain) (i j : ℕ) → (i ≡ j → ⊥) → (b : Option Deadline) (l : List Link) → wait_at i (entered k j b l) ≡ wait_at i l
wait-entered k i j n none l = refl
wait-entered k i j n (some w) l = cases (same_chain k w.chain) (λ e. rw e (wait-other j w i n l)) (λ e. rw e)

-- ---- a state

-- slot i becomes x, waits no more, and then stands at the deadline where there is one
abbrev pub changed : State → ℕ → Slot → Option Deadline → State
changed s i x none = stopped s i x
changed s i x (some w) = inserted w.chain (stopped s i x) i w.number

chain-with : (m k : Chain) (s : State) (slots : List Slot) (l : List Link)
    → chain_of k (with_chain m s slots l) ≡ cond (same_chain k m) l (chain_of k s)
chain-with m k s slots l =
    with-chain-each s slots l (λ j links. links ≡ cond (same_chain j m) l (chain_of j s)) m (rw (own-chain m)) (λ j e. rw e) k

module _ (s : State) (i : ℕ) (x : Slot) where
  changed-slots : (a : Option Deadline) → (changed s i x a).slots ≡ put_at s.slots i x
  changed-slots none = refl
  changed-slots (some w) = simp with-chain-slots

  pub changed-clock : (a : Option Deadline) → (changed s i x a).clock ≡ s.clock
  changed-clock none = refl
  changed-clock (some w) = simp with-chain-clock

  pub changed-split : (a : Option Deadline) → (changed s i x a).split ≡ s.split
  changed-split none = refl
  changed-split (some w) = simp with-chain-split

  pub changed-server : (a : Option Deadline) → (changed s i x a).server ≡ s.server
  changed-server none = refl
  changed-server (some w) = simp with-chain-server

  changed-chain : (k : Chain) (a : Option Deadline) → chain_of k (changed s i x a) ≡ entered k i a (without i (chain_of k s))
  changed-chain k none = stopped-chain s i x k
  changed-chain k (some w) =
      let st = stopped s i x in
      chain-with w.chain k st st.slots (place (λ v. v.wait) (link_at i w) (chain_of w.chain st))
      ∙ cases (same_chain k w.chain)
      (λ e. rw (e, stopped-chain s i x w.chain, same-chain k w.chain e))
      (λ e. rw (e, stopped-chain s i x k))

  -- ---- what it leaves: the slot, and those of others

  pub changed-count : (a : Option Deadline) → length (changed s i x a).slots ≡ length s.slots
  changed-count a = ap length (changed-slots a) ∙ length-put s.slots i x

  pub changed-slot : (a : Option Deadline) → 0 < i → i ≤ length s.slots → slot_at (changed s i x a).slots i ≡ x
  changed-slot a low high = ap (λ (sl : List Slot). slot_at sl i) (changed-slots a) ∙ at_same s.slots i x low high

  pub other-slot : (a : Option Deadline) (j : ℕ) → (j ≡ i → ⊥) → slot_at (changed s i x a).slots j ≡ slot_at s.slots j
  other-slot a j n = ap (λ (sl : List Slot). slot_at sl j) (changed-slots a) ∙ at_other s.slots i j x n

  -- the slot stands at its deadline, and another where it stood
  pub changed-wait : (w : Deadline) → wait_at i (chain_of w.chain (changed s i x (some w))) ≡ w.number
  changed-wait w =
      ap (wait_at i) (changed-chain w.chain (some w)) ∙ rw (own-chain w.chain) (wait-placed i w (chain_of w.chain s))

  pub other-wait : (a : Option Deadline) (k : Chain) (j : ℕ) → (j ≡ i → ⊥) → wait_at j (chain_of k (changed s i x a)) ≡ wait_at j (chain_of k s)
  other-wait a k j n =
      ap (wait_at j) (changed-chain k a) ∙ wait-entered k j i n a (without i (chain_of k s)) ∙ wait-without j i n (chain_of k s)

-- every chain of the state is sorted
abbrev pub Rising : State → Type 0
Rising s = (k : Chain) → Sorted (λ w. w.wait) (chain_of k s)

module _ (s : State) (h : Rising s) (i j : ℕ) (n : i ≡ j → ⊥) (x y : Slot) where
  chain-twice : (k : Chain) (a b : Option Deadline)
      → chain_of k (changed (changed s i x a) j y b) ≡ entered k j b (entered k i a (without j (without i (chain_of k s))))
  chain-twice k a b =
      changed-chain (changed s i x a) j y k b
      ∙ ap (λ (l : List Link). entered k j b (without j l)) (changed-chain s i x k a)
      ∙ ap (entered k j b) (entered-without k i j n a (without i (chain_of k s))
      (sorted-keep (λ w. w.wait) (λ w. not (eqb w.slot i)) (chain_of k s) (h k)))

  slots_twice : (a b : Option Deadline) → (changed (changed s i x a) j y b).slots ≡ put_at (put_at s.slots i x) j y
  slots_twice a b = changed-slots (changed s i x a) j y b ∙ ap (λ (sl : List Slot). put_at sl j y) (changed-slots s i x a)

pub commute : (s : State) → Rising s → (i j : ℕ) → (i ≡ j → ⊥) → (x y : Slot) (a b : Option Deadline)
    → Apart a b → changed (changed s i x a) j y b ≡ changed (changed s j y b) i x a
commute s h i j n x y a b apart =
    let m : j ≡ i → ⊥ = λ e. n (sym e) in
    let one = changed s i x a in
    let other = changed s j y b in
    same-state (changed one j y b) (changed other i x a)
    (slots_twice s h i j n x y a b ∙ put_other s.slots i j x y n ∙ sym (slots_twice s h j i m y x b a))
    (changed-clock one j y b ∙ changed-clock s i x a ∙ sym (changed-clock other i x a ∙ changed-clock s j y b))
    (changed-split one j y b ∙ changed-split s i x a ∙ sym (changed-split other i x a ∙ changed-split s j y b))
    (changed-server one j y b ∙ changed-server s i x a ∙ sym (changed-server other i x a ∙ changed-server s j y b))
    (λ k.
    chain-twice s h i j n x y k a b
    ∙ entered-entered k i j a b apart (without j (without i (chain_of k s)))
    ∙ ap (λ (l : List Link). entered k i a (entered k j b l)) (keep-keep (λ w. not (eqb w.slot j)) (λ w. not (eqb w.slot i)) (chain_of k s))
    ∙ sym (chain-twice s h j i m y x k b a))

-- with the same deadline the order shows
pub commute-shows : (s : State) → Rising s → (i j : ℕ) → (i ≡ j → ⊥) → (x y : Slot) (w : Deadline)
    → changed (changed s i x (some w)) j y (some w) ≡ changed (changed s j y (some w)) i x (some w) → ⊥
commute-shows s h i j n x y w e =
    let k = w.chain in
    let l = without j (without i (chain_of k s)) in
    let both : entered k j (some w) (entered k i (some w) l) ≡ entered k i (some w) (entered k j (some w) l) =
    sym (chain-twice s h i j n x y k (some w) (some w)) ∙ ap (chain_of k) e ∙ chain-twice s h j i (λ q. n (sym q)) y x k (some w) (some w)
    ∙ ap (λ (m : List Link). entered k i (some w) (entered k j (some w) m))
    (keep-keep (λ v. not (eqb v.slot i)) (λ v. not (eqb v.slot j)) (chain_of k s)) in
    n (sym (ap (λ (v : Link). v.slot)
    (place-shows (λ v. v.wait) (link_at j w) (link_at i w) refl l (rw (own-chain k) at both))))
