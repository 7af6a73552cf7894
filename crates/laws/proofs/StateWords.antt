-- The words of a table that holds a state, word by word and then by parts: header, slots, chains, slots in no chain. A slot is in one of the
-- chains at most, so that of the numbers which its words add up all but one are 0. Assumes nothing.
use mathlib.Core.Path.{◌≡◌, refl, sym, ap, ◌∙◌, subst}
use mathlib.Core.Logic.{◌≢◌}
use Prim.Native.Nat.{ℕ, zero, suc, ◌+◌, ◌-◌, ◌*◌, ◌/◌, ◌%◌, ◌≤◌, ◌<◌}
use native.Mathlib.Omega.{arith}
use mathlib.Core.Bool.{false, cond}
use mathlib.Core.List.{List, [], ◌∷◌}
use lib.ListN.{length, get_or, drop, length-drop, get_or-append}
use lib.Seq.{ext_get_or, get_or-drop, get_or-append-add, drop-append-add}
use lib.Dec.{ltb, eqb}
use borrow.Author.Tests.{ltb-true, ltb-false, eqb-true, eqb-false, eq-eqb}
use Rattle.model.specs.declared.Chain.{Chain}
use Rattle.model.specs.declared.Chain.TheVariants.{ByTicks, ByDate, Queue}
use Rattle.model.specs.State.{Slot, Link, State, chain_of, free, slot_at}
use Rattle.model.specs.Words.{first, difference, next_in, previous_in, wait_in, sum_of, slot_words, all_slots, write, written_over, word, field, head_word, accumulated, slot_from, wait_of, next_of, previous_of}
use Rattle.laws.proofs.ListLaws.{cases}
use Rattle.laws.proofs.EachPlace.{end, ◌&◌, each_at}
use Rattle.laws.proofs.WellFormed.{times_in, Chained, Holds}
use Rattle.laws.proofs.Chains.{times-own, once-all, once, met-in-range}

-- ---- what a state writes

abbrev pub head_words : State → List ℕ
head_words s =
    length s.slots ∷ s.clock.per_second ∷ cond s.clock.is_set 1 0 ∷ s.clock.second ∷ s.clock.ticks_into
    ∷ first s.ticking ∷ first s.dated ∷ s.split ∷ cond s.server 1 0 ∷ first s.queue ∷ []

length-slots : (s : State) (i : ℕ) (xs : List Slot) (rest : List ℕ) → length (all_slots s i xs rest) ≡ 8 * length xs + length rest
length-slots s i [] rest = omega arith
length-slots s i (x ∷ xs) rest = let ih = length-slots s (suc i) xs rest in omega arith

length-write : (s : State) (rest : List ℕ) → length (write s rest) ≡ 10 + 8 * length s.slots + length rest
length-write s rest = let e = length-slots s 1 s.slots rest in omega arith

drop-slots : (s : State) (i : ℕ) (xs : List Slot) (rest : List ℕ) → drop (8 * length xs) (all_slots s i xs rest) ≡ rest
drop-slots s i [] rest = refl
drop-slots s i (x ∷ xs) rest =
    let e : 8 * suc (length xs) ≡ 8 + 8 * length xs = omega arith in
    ap (λ (n : ℕ). drop n (all_slots s i (x ∷ xs) rest)) e
    ∙ drop-append-add (slot_words s i x []) (all_slots s (suc i) xs rest) (8 * length xs) ∙ drop-slots s (suc i) xs rest

pub drop-write : (s : State) (rest : List ℕ) → drop (10 + 8 * length s.slots) (write s rest) ≡ rest
drop-write s rest =
    drop-append-add (head_words s) (all_slots s 1 s.slots rest) (8 * length s.slots) ∙ drop-slots s 1 s.slots rest

pub length_over : (s : State) (t : List ℕ) → 10 + 8 * length s.slots ≤ length t → length (written_over s t) ≡ length t
length_over s t long =
    let n = 10 + 8 * length s.slots in omega (arith, length-write s (drop n t), length-drop n t)

-- the slot i of the table is the one at j of those from b on
word_of : (s : State) (b j i f : ℕ) (xs : List Slot) (rest : List ℕ) → b + j ≡ i → f < 8 → j < length xs
    → get_or (all_slots s b xs rest) (8 * j + f) 0 ≡ get_or (slot_words s i (get_or xs j free) []) f 0
word_of s b j i f [] rest is p q = absurd (omega arith)
word_of s b zero i f (x ∷ xs) rest is p q =
    let e : 8 * 0 + f ≡ f = omega arith in
    let g : b ≡ i = omega arith in
    rw e (get_or-append (slot_words s b x []) (all_slots s (suc b) xs rest) 0 f p) ∙ ap (λ (n : ℕ). get_or (slot_words s n x []) f 0) g
word_of s b (suc j) i f (x ∷ xs) rest is p q =
    let e : 8 * suc j + f ≡ 8 + (8 * j + f) = omega arith in
    rw e (get_or-append-add (slot_words s b x []) (all_slots s (suc b) xs rest) (8 * j + f) 0
    ∙ word_of s (suc b) j i f xs rest (omega arith) p (omega arith))

-- ---- word by word

pub record Spelled (t : List ℕ) (s : State) : Type 0 where
  pub heads : (m : ℕ) → m < 10 → word t m ≡ get_or (head_words s) m 0
  pub body : (i f : ℕ) → f < 8 → 0 < i → i ≤ length s.slots → field t i f ≡ get_or (slot_words s i (slot_at s.slots i) []) f 0

write-spelled : (s : State) (rest : List ℕ) → Spelled (write s rest) s
write-spelled s rest = record {
  heads = λ m p. get_or-append (head_words s) (all_slots s 1 s.slots rest) 0 m p;
  body = λ i f p a b. inside i f p a b;
}
  where
    inside : (i f : ℕ) → f < 8 → 0 < i → i ≤ length s.slots
        → field (write s rest) i f ≡ get_or (slot_words s i (slot_at s.slots i) []) f 0
    inside zero f p a b = absurd (omega arith)
    inside (suc i) f p a b =
        let e : 2 + 8 * suc i + f ≡ 10 + (8 * i + f) = omega arith in
        ap (λ (m : ℕ). get_or (write s rest) m 0) e ∙ get_or-append-add (head_words s) (all_slots s 1 s.slots rest) (8 * i + f) 0
        ∙ word_of s 1 i (suc i) f s.slots rest (omega arith) p b

pub holds_spelled : (t : List ℕ) (s : State) → Holds t s → Spelled t s
holds_spelled t s h = subst (λ (u : List ℕ). Spelled u s) h.is (write-spelled s (drop (10 + 8 * length s.slots) t))

-- two tables that spell one state differ only behind it
same-words : (t u : List ℕ) (s : State) → Spelled t s → Spelled u s → (m : ℕ) → m < 10 + 8 * length s.slots → word t m ≡ word u m
same-words t u s h g m p =
    cases (ltb m 10)
    (λ e. let q = ltb-true m 10 e in h.heads m q ∙ sym (g.heads m q))
    (λ e.
    let q = ltb-false m 10 e in
    let i = (m - 2) / 8 in
    let f = (m - 2) % 8 in
    let is : m ≡ 2 + 8 * i + f = omega arith in
    rw is (h.body i f (omega arith) (omega arith) (omega arith) ∙ sym (g.body i f (omega arith) (omega arith) (omega arith))))

-- the words behind it are as they were
pub past-over : (s : State) (t : List ℕ) (m : ℕ) → 10 + 8 * length s.slots ≤ m → word (written_over s t) m ≡ word t m
past-over s t m q =
    let n = 10 + 8 * length s.slots in
    let is : m ≡ n + (m - n) = omega arith in
    ap (word (written_over s t)) is ∙ sym (get_or-drop n (written_over s t) (m - n) 0)
    ∙ ap (λ (u : List ℕ). word u (m - n)) (drop-write s (drop n t)) ∙ get_or-drop n t (m - n) 0 ∙ ap (word t) (sym is)

pub spelled-over : (t : List ℕ) (s : State) → Spelled t s → 10 + 8 * length s.slots ≤ length t → written_over s t ≡ t
spelled-over t s h long =
    let n = 10 + 8 * length s.slots in
    ext_get_or 0 (written_over s t) t (length_over s t long) (λ m _. cases (ltb m n)
    (λ e. same-words (written_over s t) t s (write-spelled s (drop n t)) h m (ltb-true m n e))
    (λ e. past-over s t m (ltb-false m n e)))

-- ---- by parts

-- the word that links to what follows slot p: its next, or the first of the chain where p is 0
abbrev pub link_word : Chain → ℕ → ℕ
link_word k zero = head_word k
link_word k (suc p) = 2 + 8 * suc p + 6

abbrev pub link_in : List Link → ℕ → ℕ
link_in c zero = first c
link_in c (suc p) = next_in c (suc p)

pub link-field : (k : Chain) (t : List ℕ) (p : ℕ) → 0 < p → word t (link_word k p) ≡ next_of t p
link-field k t zero q = absurd (omega arith)
link-field k t (suc p) q = refl

link-next : (c : List Link) (p : ℕ) → 0 < p → link_in c p ≡ next_in c p
link-next c zero q = absurd (omega arith)
link-next c (suc p) q = refl

-- chain k of the table t is c
pub record Lay (k : Chain) (t : List ℕ) (c : List Link) : Type 0 where
  pub links : (p : ℕ) → (0 < p → 0 < times_in c p) → word t (link_word k p) ≡ link_in c p
  pub previous : (i : ℕ) → 0 < times_in c i → previous_of t i ≡ previous_in 0 c i
  pub waits : (i : ℕ) → 0 < times_in c i → wait_of t i ≡ wait_in k 0 c i

-- slot i is in no chain
pub record Loose (t : List ℕ) (i : ℕ) : Type 0 where
  pub wait : wait_of t i ≡ 0
  pub next : next_of t i ≡ 0
  pub previous : previous_of t i ≡ 0

pub record Parts (t : List ℕ) (s : State) : Type 0 where
  pub heads : (m : ℕ) → m < 10 → m ≢ 5 → m ≢ 6 → m ≢ 9 → word t m ≡ get_or (head_words s) m 0
  pub lay : (k : Chain) → Lay k t (chain_of k s)
  pub loose : (i : ℕ) → 0 < i → i ≤ length s.slots → ((k : Chain) → times_in (chain_of k s) i ≡ 0) → Loose t i
  pub slots : (i : ℕ) → 0 < i → i ≤ length s.slots → slot_from t i ≡ slot_at s.slots i

-- a slot in none of these links is not that of the first
pub absent : (w : Link) (ws : List Link) (i : ℕ) → times_in (w ∷ ws) i ≡ 0 → (eqb w.slot i ≡ false) × (times_in ws i ≡ 0)
absent w ws i e = cases (eqb w.slot i) (λ f. absurd (let z : suc (times_in ws i) ≡ 0 = rw f at e in omega arith)) (λ f. (f, rw f at e))

none-next : (c : List Link) (i : ℕ) → times_in c i ≡ 0 → next_in c i ≡ 0
none-next [] i e = refl
none-next (w ∷ ws) i e = let a = absent w ws i e in rw a.0 (none-next ws i a.1)

none-previous : (p : ℕ) (c : List Link) (i : ℕ) → times_in c i ≡ 0 → previous_in p c i ≡ 0
none-previous p [] i e = refl
none-previous p (w ∷ ws) i e = let a = absent w ws i e in rw a.0 (none-previous w.slot ws i a.1)

none-wait : (k : Chain) (b : ℕ) (c : List Link) (i : ℕ) → times_in c i ≡ 0 → wait_in k b c i ≡ 0
none-wait k b [] i e = refl
none-wait k b (w ∷ ws) i e = let a = absent w ws i e in rw a.0 (none-wait k w.wait ws i a.1)

-- a slot is in a chain or in none
by_chain : {C : Type 0} (s : State) (i : ℕ) → ((k : Chain) → 0 < times_in (chain_of k s) i → C)
    → (((k : Chain) → times_in (chain_of k s) i ≡ 0) → C) → C
by_chain s i one none =
    cases (ltb 0 (times_in s.ticking i))
    (λ e. one ByTicks (ltb-true 0 (times_in s.ticking i) e))
    (λ e. cases (ltb 0 (times_in s.dated i))
    (λ f. one ByDate (ltb-true 0 (times_in s.dated i) f))
    (λ f. cases (ltb 0 (times_in s.queue i))
    (λ g. one Queue (ltb-true 0 (times_in s.queue i) g))
    (λ g. none (neither (ltb-false 0 (times_in s.ticking i) e) (ltb-false 0 (times_in s.dated i) f) (ltb-false 0 (times_in s.queue i) g)))))
  where
    neither : times_in s.ticking i ≤ 0 → times_in s.dated i ≤ 0 → times_in s.queue i ≤ 0 → (k : Chain) → times_in (chain_of k s) i ≡ 0
    neither a b c ByTicks = omega arith
    neither a b c ByDate = omega arith
    neither a b c Queue = omega arith

-- a number that a chain gives to a slot, 0 where the slot is not in it: wait, next or previous
record Reading : Type 0 where
  of : Chain → List Link → ℕ → ℕ
  none : (k : Chain) (c : List Link) (i : ℕ) → times_in c i ≡ 0 → of k c i ≡ 0

abbrev the_wait : Reading
the_wait = record { of = λ k. wait_in k 0; none = λ k. none-wait k 0 }

abbrev the_next : Reading
the_next = record { of = λ _. next_in; none = λ _. none-next }

abbrev the_previous : Reading
the_previous = record { of = λ _. previous_in 0; none = λ _. none-previous 0 }

-- the numbers of the slot i in the chains, added
module _ (s : State) (h : Chained s) (r : Reading) (i : ℕ) where
  abbrev sum : ℕ
  sum = sum_of (λ k c. r.of k c i) s

  sum-in : (k : Chain) → 0 < times_in (chain_of k s) i → sum ≡ r.of k (chain_of k s) i
  sum-in ByTicks m =
      let o = once-all s h i in
      omega (arith, r.none ByDate s.dated i (omega arith), r.none Queue s.queue i (omega arith))
  sum-in ByDate m =
      let o = once-all s h i in
      omega (arith, r.none ByTicks s.ticking i (omega arith), r.none Queue s.queue i (omega arith))
  sum-in Queue m =
      let o = once-all s h i in
      omega (arith, r.none ByTicks s.ticking i (omega arith), r.none ByDate s.dated i (omega arith))

  sum-none : ((k : Chain) → times_in (chain_of k s) i ≡ 0) → sum ≡ 0
  sum-none z =
      omega (arith, r.none ByTicks s.ticking i (z ByTicks), r.none ByDate s.dated i (z ByDate), r.none Queue s.queue i (z Queue))

  sum_is : (n : ℕ) → ((k : Chain) → 0 < times_in (chain_of k s) i → n ≡ r.of k (chain_of k s) i)
      → (((k : Chain) → times_in (chain_of k s) i ≡ 0) → n ≡ 0) → n ≡ sum_of (λ k c. r.of k c i) s
  sum_is n f g = by_chain s i (λ k m. f k m ∙ sym (sum-in k m)) (λ z. g z ∙ sym (sum-none z))

module _ (t : List ℕ) (s : State) (h : Chained s) where
  spelled-parts : Spelled t s → Parts t s
  spelled-parts e = record {
    heads = λ m p _ _ _. e.heads m p;
    lay = λ k. record {
      links = λ p m. link k p m;
      previous = λ i m. let a = met-in-range s h k i m in e.body i 7 (omega arith) a.0 a.1 ∙ sum-in s h the_previous i k m;
      waits = λ i m. let a = met-in-range s h k i m in e.body i 3 (omega arith) a.0 a.1 ∙ sum-in s h the_wait i k m;
    };
    loose = λ i a b z. record {
      wait = e.body i 3 (omega arith) a b ∙ sum-none s h the_wait i z;
      next = e.body i 6 (omega arith) a b ∙ sum-none s h the_next i z;
      previous = e.body i 7 (omega arith) a b ∙ sum-none s h the_previous i z;
    };
    slots = λ i a b d. record {
      kind = e.body i 0 (omega arith) a b d;
      name = e.body i 1 (omega arith) a b d;
      interval = e.body i 2 (omega arith) a b d;
      routine = e.body i 4 (omega arith) a b d;
      user_data = e.body i 5 (omega arith) a b d;
    };
  }
    where
      head : (k : Chain) → word t (head_word k) ≡ first (chain_of k s)
      head ByTicks = e.heads 5 (omega arith)
      head ByDate = e.heads 6 (omega arith)
      head Queue = e.heads 9 (omega arith)

      link : (k : Chain) (p : ℕ) → (0 < p → 0 < times_in (chain_of k s) p) → word t (link_word k p) ≡ link_in (chain_of k s) p
      link k zero m = head k
      link k (suc p) m =
          let a = met-in-range s h k (suc p) (m (omega arith)) in
          e.body (suc p) 6 (omega arith) a.0 a.1 ∙ sum-in s h the_next (suc p) k (m (omega arith))

  parts-spelled : Parts t s → Spelled t s
  parts-spelled e = record { heads = λ m p. head m p; body = λ i f p a b. body i a b f p }
    where
      head : (m : ℕ) → m < 10 → word t m ≡ get_or (head_words s) m 0
      head m p =
          cases (eqb m 5)
          (λ f. let z : m ≡ 5 = eqb-true m 5 f in rw z ((e.lay ByTicks).links 0 (λ q. absurd (omega arith))))
          (λ f. cases (eqb m 6)
          (λ g. let z : m ≡ 6 = eqb-true m 6 g in rw z ((e.lay ByDate).links 0 (λ q. absurd (omega arith))))
          (λ g. cases (eqb m 9)
          (λ i. let z : m ≡ 9 = eqb-true m 9 i in rw z ((e.lay Queue).links 0 (λ q. absurd (omega arith))))
          (λ i. e.heads m p (eqb-false m 5 f) (eqb-false m 6 g) (eqb-false m 9 i))))

      body : (i : ℕ) → 0 < i → i ≤ length s.slots → (f : ℕ) → f < 8 → field t i f ≡ get_or (slot_words s i (slot_at s.slots i) []) f 0
      body i a b = each_at (λ f n. field t i f ≡ n) 0 (slot_words s i (slot_at s.slots i) []) (
          ap (λ (x : Slot). x.kind) (e.slots i a b)
          & ap (λ (x : Slot). x.name) (e.slots i a b)
          & ap (λ (x : Slot). x.interval) (e.slots i a b)
          & sum_is s h the_wait i (wait_of t i) (λ k. (e.lay k).waits i) (λ z. (e.loose i a b z).wait)
          & ap (λ (x : Slot). x.routine) (e.slots i a b)
          & ap (λ (x : Slot). x.user_data) (e.slots i a b)
          & sum_is s h the_next i (next_of t i)
          (λ k m. sym (link-field k t i a) ∙ (e.lay k).links i (λ _. m) ∙ link-next (chain_of k s) i a) (λ z. (e.loose i a b z).next)
          & sum_is s h the_previous i (previous_of t i) (λ k. (e.lay k).previous i) (λ z. (e.loose i a b z).previous)
          & end)

pub holds_parts : (t : List ℕ) (s : State) → Holds t s → Parts t s
holds_parts t s h = spelled-parts t s h.chained (holds_spelled t s h)

pub parts-holds : (t : List ℕ) (s : State) → Chained s → Parts t s → 10 + 8 * length s.slots ≤ length t → Holds t s
parts-holds t s h p long = record { is = spelled-over t s (parts-spelled t s h p) long; long = long; chained = h }

-- ---- a chain, link by link

pub difference-total : (k : Chain) (b n : ℕ) → difference k b (accumulated k b n) ≡ n
difference-total ByTicks b n = omega arith
difference-total ByDate b n = refl
difference-total Queue b n = refl

pub total-difference : (k : Chain) (b n : ℕ) → b ≤ n → accumulated k b (difference k b n) ≡ n
total-difference ByTicks b n p = omega arith
total-difference ByDate b n p = refl
total-difference Queue b n p = refl

-- the link w stands in the table t between the slot p, of wait b, and the slot n
pub record Stands (k : Chain) (t : List ℕ) (p b : ℕ) (w : Link) (n : ℕ) : Type 0 where
  pub next : next_of t w.slot ≡ n
  pub previous : previous_of t w.slot ≡ p
  pub wait : wait_of t w.slot ≡ difference k b w.wait

-- the links c of chain k stand in the table t, behind the slot p of wait b
abbrev pub Linked : Chain → List ℕ → ℕ → ℕ → List Link → Type 0
Linked k t p b [] = Unit {0}
Linked k t p b (w ∷ ws) = Stands k t p b w (first ws) × Linked k t w.slot w.wait ws

-- the words of the slot i are those that the links c give it
record SlotAgrees (k : Chain) (t : List ℕ) (p b : ℕ) (c : List Link) (i : ℕ) : Type 0 where
  next : next_of t i ≡ next_in c i
  previous : previous_of t i ≡ previous_in p c i
  wait : wait_of t i ≡ wait_in k b c i

agree-linked : (k : Chain) (t : List ℕ) (p b : ℕ) (c : List Link) → ((i : ℕ) → times_in c i ≤ 1) → ((i : ℕ) → 0 < times_in c i → SlotAgrees k t p b c i)
    → Linked k t p b c
agree-linked k t p b [] o h = tt
agree-linked k t p b (w ∷ ws) o h =
    let e = eq-eqb w.slot w.slot refl in
    let a = h w.slot (omega (arith, times-own w ws)) in (
      record { next = a.next ∙ rw e; previous = a.previous ∙ rw e; wait = a.wait ∙ rw e },
      agree-linked k t w.slot w.wait ws (λ i. omega (arith, o i, more i)) (λ i m. later i m),
    )
  where
    more : (i : ℕ) → times_in ws i ≤ times_in (w ∷ ws) i
    more i = cases (eqb w.slot i) (λ e. rw e (omega arith)) (λ e. rw e (omega arith))

    later : (i : ℕ) → 0 < times_in ws i → SlotAgrees k t w.slot w.wait ws i
    later i m =
        cases (eqb w.slot i)
        (λ e. absurd (let z : suc (times_in ws i) ≤ 1 = rw e at (o i) in omega arith))
        (λ e. let a = h i (rw e m) in record { next = a.next ∙ rw e; previous = a.previous ∙ rw e; wait = a.wait ∙ rw e })

linked-agree : (k : Chain) (t : List ℕ) (p b : ℕ) (c : List Link) → Linked k t p b c → (i : ℕ) → 0 < times_in c i → SlotAgrees k t p b c i
linked-agree k t p b [] h i m = absurd (omega arith)
linked-agree k t p b (w ∷ ws) h i m =
    cases (eqb w.slot i)
    (λ e.
    let z = eqb-true w.slot i e in
    record { next = rw (e, ← z) h.0.next; previous = rw (e, ← z) h.0.previous; wait = rw (e, ← z) h.0.wait })
    (λ e.
    let a = linked-agree k t w.slot w.wait ws h.1 i (rw e at m) in
    record { next = a.next ∙ rw e; previous = a.previous ∙ rw e; wait = a.wait ∙ rw e })

pub linked-lay : (k : Chain) (t : List ℕ) (c : List Link) → word t (head_word k) ≡ first c → Linked k t 0 0 c → Lay k t c
linked-lay k t c e h = record {
  links = λ p m. link p m;
  previous = λ i m. (linked-agree k t 0 0 c h i m).previous;
  waits = λ i m. (linked-agree k t 0 0 c h i m).wait;
}
  where
    link : (p : ℕ) → (0 < p → 0 < times_in c p) → word t (link_word k p) ≡ link_in c p
    link zero m = e
    link (suc p) m = (linked-agree k t 0 0 c h (suc p) (m (omega arith))).next

pub holds-linked : (t : List ℕ) (s : State) → Holds t s → (k : Chain) → Linked k t 0 0 (chain_of k s)
holds-linked t s h k =
    let lay = (holds_parts t s h).lay k in
    agree-linked k t 0 0 (chain_of k s) (once s h.chained k) (λ i m.
    let low = (met-in-range s h.chained k i m).0 in
    record {
      next = sym (link-field k t i low) ∙ lay.links i (λ _. m) ∙ link-next (chain_of k s) i low;
      previous = lay.previous i m;
      wait = lay.waits i m;
    })
