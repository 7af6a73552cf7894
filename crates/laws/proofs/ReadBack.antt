-- A table that holds a state is read as that state, along next and along previous, and a state written over a slice is held by it. A chain
-- is followed link by link. Assumes nothing.
use mathlib.Core.Path.{◌≡◌, refl, sym, ap, ◌∙◌}
use Prim.Native.Nat.{ℕ, zero, suc, ◌+◌, ◌*◌, ◌≤◌, ◌<◌, zero-le}
use native.Mathlib.Omega.{arith}
use mathlib.Core.Bool.{Bool, true, false, cond}
use mathlib.Core.List.{List, [], ◌∷◌, map, reverse, reverse_aux}
use lib.ListN.{length, get_or, drop, length-reverse}
use lib.Seq.{ext_get_or}
use lib.Dec.{eqb}
use Rattle.model.specs.Lists.{count, All, Sorted}
use Rattle.model.specs.declared.Chain.{Chain}
use Rattle.model.specs.declared.Chain.TheVariants.{ByTicks, ByDate, Queue}
use Rattle.model.specs.State.{Link, State, chain_of, free, slot_at}
use Rattle.model.specs.Words.{first, write, written_over, word, head_word, along, accumulated, links_from, links, slot_from, slots_from, read, slot_count, clock_set, wait_of, next_of, previous_of}
use Rattle.laws.proofs.ListLaws.{all_map, all}
use Rattle.laws.proofs.WellFormed.{times_in, Chained, Holds}
use Rattle.laws.proofs.Chains.{in-slots, fits}
use Rattle.laws.proofs.StateWords.{drop-write, length_over, head_words, holds_spelled, Parts, holds_parts, total-difference, Linked, holds-linked}

-- ---- the slots

from-length : (t : List ℕ) (i n : ℕ) → length (slots_from t i n) ≡ n
from-length t i zero = refl
from-length t i (suc n) = ap suc (from-length t (suc i) n)

from_at : (t : List ℕ) (b n j i : ℕ) → b + j ≡ i → j < n → get_or (slots_from t b n) j free ≡ slot_from t i
from_at t b zero j i is p = absurd (omega arith)
from_at t b (suc n) zero i is p = let e : b ≡ i = omega arith in ap (slot_from t) e
from_at t b (suc n) (suc j) i is p = from_at t (suc b) n j i (omega arith) (omega arith)

pub slots_length : (t : List ℕ) → length (read t).slots ≡ slot_count t
slots_length t = from-length t 1 (slot_count t)

pub slot_read : (t : List ℕ) (i : ℕ) → 0 < i → i ≤ slot_count t → slot_at (read t).slots i ≡ slot_from t i
slot_read t zero p q = absurd (omega arith)
slot_read t (suc i) p q = from_at t 1 (slot_count t) i (suc i) (omega arith) q

-- ---- along a chain

first-along : (next : ℕ → ℕ) (f i : ℕ) → 0 < i → along next (suc f) i ≡ i ∷ along next f (next i)
first-along next f zero p = absurd (omega arith)
first-along next f (suc i) p = refl

first-from : (k : Chain) (t : List ℕ) (f b i : ℕ) → 0 < i
    → links_from k t (suc f) b i ≡ record { slot = i; wait = accumulated k b (wait_of t i) } ∷ links_from k t f (accumulated k b (wait_of t i)) (next_of t i)
first-from k t f b zero p = absurd (omega arith)
first-from k t f b (suc i) p = refl

pub links-slots : (k : Chain) (t : List ℕ) (f b i : ℕ) → map (λ w. w.slot) (links_from k t f b i) ≡ along (next_of t) f i
links-slots k t zero b i = refl
links-slots k t (suc f) b zero = refl
links-slots k t (suc f) b (suc i) =
    ap {B = List ℕ} (λ l. suc i ∷ l) (links-slots k t f (accumulated k b (wait_of t (suc i))) (next_of t (suc i)))

pub count-slots : (i : ℕ) (c : List Link) → count (λ j. eqb j i) (map (λ w. w.slot) c) ≡ times_in c i
count-slots i [] = refl
count-slots i (w ∷ ws) = rw (count-slots i ws)

module _ (k : Chain) (t : List ℕ) where
  linked-read : (p b : ℕ) (c : List Link) (f : ℕ) → Linked k t p b c → length c ≤ f → All (λ w. 0 < w.slot) c → All (λ w. b ≤ w.wait) c
      → Sorted (λ w. w.wait) c → links_from k t f b (first c) ≡ c
  linked-read p b [] zero h n a l s = refl
  linked-read p b [] (suc f) h n a l s = refl
  linked-read p b (w ∷ ws) zero h n a l s = absurd (omega arith)
  linked-read p b (w ∷ ws) (suc f) h n a l s =
      let is : accumulated k b (wait_of t w.slot) ≡ w.wait = ap (accumulated k b) h.0.wait ∙ total-difference k b w.wait l.0 in
      let rest = linked-read w.slot w.wait ws f h.1 (omega arith) a.1 s.0 s.1 in
      first-from k t f b w.slot a.0 ∙ rw (is, h.0.next, rest)

  -- from the last link back: q are the links before, the last first
  linked-back : (c q : List Link) (b : ℕ) → Linked k t (first q) b c → All (λ w. 0 < w.slot) c
      → ((f : ℕ) → length q ≤ f → along (previous_of t) f (first q) ≡ map (λ w. w.slot) q)
      → (f : ℕ) → length (reverse_aux c q) ≤ f → along (previous_of t) f (first (reverse_aux c q)) ≡ map (λ w. w.slot) (reverse_aux c q)
  linked-back [] q b h a back f n = back f n
  linked-back (w ∷ ws) q b h a back f n = linked-back ws (w ∷ q) w.wait h.1 a.1 (λ g m. one g m) f n
    where
      one : (g : ℕ) → suc (length q) ≤ g → along (previous_of t) g w.slot ≡ w.slot ∷ map (λ x. x.slot) q
      one zero m = absurd (omega arith)
      one (suc g) m = first-along (previous_of t) g w.slot a.0 ∙ rw (h.0.previous, back g (omega arith))

module _ (t : List ℕ) (s : State) (h : Holds t s) where
  parts : Parts t s
  parts = holds_parts t s h

  heads : (m : ℕ) → m < 10 → word t m ≡ get_or (head_words s) m 0
  heads = (holds_spelled t s h).heads

  pub count-is : slot_count t ≡ length s.slots
  count-is = heads 0 (omega arith)

  low : (k : Chain) → All (λ w. 0 < w.slot) (chain_of k s)
  low k = all_map (λ w p. p.0) (chain_of k s) (in-slots s h.chained k)

  -- with enough fuel
  links-from : (k : Chain) (f : ℕ) → length (chain_of k s) ≤ f → links_from k t f 0 (word t (head_word k)) ≡ chain_of k s
  links-from k f n =
      ap (links_from k t f 0) ((parts.lay k).links 0 (λ p. absurd (omega arith)))
      ∙ linked-read k t 0 0 (chain_of k s) f (holds-linked t s h k) n (low k) (all (λ w. zero-le) (chain_of k s)) (h.chained.rises k)

  pub links-is : (k : Chain) → links k t ≡ chain_of k s
  links-is k = links-from k (slot_count t) (omega (arith, count-is, fits s h.chained k))

  pub by_next : (k : Chain) (f : ℕ) → length (chain_of k s) ≤ f → along (next_of t) f (word t (head_word k)) ≡ map (λ w. w.slot) (chain_of k s)
  by_next k f n = sym (links-slots k t f 0 (word t (head_word k))) ∙ ap (map (λ w. w.slot)) (links-from k f n)

  pub by-previous : (k : Chain) → along (previous_of t) (slot_count t) (first (reverse (chain_of k s))) ≡ map (λ w. w.slot) (reverse (chain_of k s))
  by-previous k =
      linked-back k t (chain_of k s) [] 0 (holds-linked t s h k) (low k) none (slot_count t)
      (omega (arith, length-reverse (chain_of k s), count-is, fits s h.chained k))
    where
      none : (f : ℕ) → 0 ≤ f → along (previous_of t) f 0 ≡ []
      none zero n = refl
      none (suc f) n = refl

  -- ---- the whole state

  slots-is : (read t).slots ≡ s.slots
  slots-is = ext_get_or free (read t).slots s.slots (slots_length t ∙ count-is) (λ j p.
      slot_read t (suc j) (omega arith) (omega (arith, slots_length t)) ∙ parts.slots (suc j) (omega arith) (omega (arith, slots_length t, count-is)))

  bit : (b : Bool) → eqb (cond b 1 0) 1 ≡ b
  bit true = refl
  bit false = refl

  pub set_is : eqb (clock_set t) 1 ≡ s.clock.is_set
  set_is = ap (λ (n : ℕ). eqb n 1) (heads 2 (omega arith)) ∙ bit s.clock.is_set

  pub server-is : eqb (word t 8) 1 ≡ s.server
  server-is = ap (λ (n : ℕ). eqb n 1) (heads 8 (omega arith)) ∙ bit s.server

  pub read_back : read t ≡ s
  read_back = λ d. record {
    slots = slots-is d;
    clock = record {
      per_second = heads 1 (omega arith) d;
      is_set = set_is d;
      second = heads 3 (omega arith) d;
      ticks_into = heads 4 (omega arith) d;
    };
    ticking = links-is ByTicks d;
    dated = links-is ByDate d;
    split = heads 7 (omega arith) d;
    server = server-is d;
    queue = links-is Queue d;
  }

-- ---- a state written over a slice

pub over-over : (s s' : State) (t : List ℕ) → length s'.slots ≡ length s.slots → written_over s' (written_over s t) ≡ written_over s' t
over-over s s' t e =
    ap (write s') (ap (λ (m : ℕ). drop (10 + 8 * m) (written_over s t)) e ∙ drop-write s (drop (10 + 8 * length s.slots) t)
    ∙ ap (λ (m : ℕ). drop (10 + 8 * m) t) (sym e))

pub written-holds : (t : List ℕ) (s : State) → Chained s → 10 + 8 * length s.slots ≤ length t → Holds (written_over s t) s
written-holds t s h long =
    let same = length_over s t long in
    record { is = over-over s s t refl; long = omega arith; chained = h }

pub over-holds : (t : List ℕ) (s s' : State) → Holds t s → Chained s' → length s'.slots ≡ length s.slots
    → Holds (written_over s' t) s'
over-holds t s s' h c e = written-holds t s' c (omega (arith, h.long, e))
