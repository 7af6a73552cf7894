-- Some ticks nearer: the wait of the first interval timer falls by so many, and since those behind it count from it, so do all ticks left. The
-- words of the new table are compared with those of the state so many ticks nearer, one by one. Assumes nothing.
use mathlib.Core.Path.{◌≡◌, refl, sym, ap, ap₂, ◌∙◌, subst}
use mathlib.Core.Logic.{◌≢◌}
use Prim.Native.Nat.{ℕ, zero, suc, ◌+◌, ◌-◌, ◌*◌, ◌≤◌, ◌<◌}
use native.Mathlib.Omega.{arith}
use mathlib.Core.Bool.{cond}
use mathlib.Core.List.{List, [], ◌∷◌, map}
use lib.ListN.{length, get_or, set, length-set}
use lib.Seq.{get_or-set_same, get_or-set_other, drop-set-lt}
use lib.Dec.{eqb}
use borrow.Author.Tests.{eqb-true, eqb-false}
use Rattle.model.specs.declared.Chain.TheVariants.{ByTicks, ByDate, Queue}
use Rattle.model.specs.Lists.{All}
use Rattle.model.specs.State.{Link, State, slot_at, with_chain}
use Rattle.model.specs.Directives.{nearer, closer}
use Rattle.model.specs.Words.{first, next_in, previous_in, wait_in, slot_words, write, written_over, word, field, read, first_ticking, wait_of}
use Rattle.laws.proofs.ListLaws.{cases}
use Rattle.laws.proofs.EachPlace.{end, ◌&◌, each_at}
use Rattle.laws.proofs.WellFormed.{Chained, Holds}
use Rattle.laws.proofs.StateWords.{head_words, Spelled, holds_spelled, spelled-over}
use Rattle.laws.proofs.Steps.{chained-nearer}
use Rattle.links.proofs.NextState.{next_start, next-holds, next-then}
use Rattle.firing.specs.Nearer.{closer_by, nearer_by, Nearable}
use Rattle.firing.proofs.Heads.{Front, no_front}

-- ---- the words of a chain whose waits all fell

first-closer : (n : ℕ) (c : List Link) → first (map (closer_by n) c) ≡ first c
first-closer n [] = refl
first-closer n (w ∷ ws) = refl

next-closer : (n : ℕ) (c : List Link) (i : ℕ) → next_in (map (closer_by n) c) i ≡ next_in c i
next-closer n [] i = refl
next-closer n (w ∷ ws) i = cases (eqb w.slot i) (λ e. rw e (first-closer n ws)) (λ e. rw e (next-closer n ws i))

previous-closer : (n p : ℕ) (c : List Link) (i : ℕ) → previous_in p (map (closer_by n) c) i ≡ previous_in p c i
previous-closer n p [] i = refl
previous-closer n p (w ∷ ws) i = cases (eqb w.slot i) (λ e. rw e) (λ e. rw e (previous-closer n w.slot ws i))

wait-closer : (n b : ℕ) (c : List Link) (i : ℕ) → n ≤ b → All (λ w. n ≤ w.wait) c → wait_in ByTicks (b - n) (map (closer_by n) c) i ≡ wait_in ByTicks b c i
wait-closer n b [] i p h = refl
wait-closer n b (w ∷ ws) i p h =
    let q = h.0 in cases (eqb w.slot i) (λ e. rw e (omega arith)) (λ e. rw e (wait-closer n w.wait ws i h.0 h.1))

-- only the first link's word falls
first-falls : (n : ℕ) (w : Link) (ws : List Link) (i : ℕ) → All (λ v. n ≤ v.wait) (w ∷ ws)
    → wait_in ByTicks 0 (map (closer_by n) (w ∷ ws)) i + cond (eqb w.slot i) n 0 ≡ wait_in ByTicks 0 (w ∷ ws) i
first-falls n w ws i h =
    let q = h.0 in
    cases (eqb w.slot i) (λ e. rw e (omega arith)) (λ e. rw e (omega (arith, wait-closer n w.wait ws i h.0 h.1)))

-- ---- the table with that word

module _ (n : ℕ) (t : List ℕ) (s : State) (h : Holds t s) (w : Link) (ws : List Link) (whole : s.ticking ≡ w ∷ ws) (far : All (λ v. n ≤ v.wait) s.ticking)
    (low : 1 ≤ w.slot) (high : w.slot ≤ length s.slots) (u : List ℕ) (is : u ≡ set t (2 + 8 * w.slot + 3) (wait_of t w.slot - n)) where
  old : Spelled t s
  old = holds_spelled t s h

  other_word : (m : ℕ) → m ≢ 2 + 8 * w.slot + 3 → word u m ≡ word t m
  other_word m d = ap (λ (v : List ℕ). word v m) is ∙ get_or-set_other t (2 + 8 * w.slot + 3) m (wait_of t w.slot - n) 0 d

  own-word : wait_of u w.slot ≡ wait_of t w.slot - n
  own-word =
      ap (λ (v : List ℕ). wait_of v w.slot) is
      ∙ get_or-set_same t (2 + 8 * w.slot + 3) (wait_of t w.slot - n) 0 (omega (arith, h.long))

  falls : (i : ℕ) → wait_in ByTicks 0 (map (closer_by n) s.ticking) i + cond (eqb w.slot i) n 0 ≡ wait_in ByTicks 0 s.ticking i
  falls i =
      ap (λ (c : List Link). wait_in ByTicks 0 (map (closer_by n) c) i + cond (eqb w.slot i) n 0) whole
      ∙ first-falls n w ws i (subst (All (λ v. n ≤ v.wait)) whole far) ∙ ap (λ (c : List Link). wait_in ByTicks 0 c i) (sym whole)

  spelled : Spelled u (nearer_by n s)
  spelled = record {
    heads = λ m p. other_word m (omega arith) ∙ old.heads m p ∙ ap (λ (l : List ℕ). get_or l m 0) (sym same-heads);
    body = λ i f p a b. body i a b f p;
  }
    where
      same-heads : head_words (nearer_by n s) ≡ head_words s
      same-heads = rw (first-closer n s.ticking)

      waits : (i : ℕ) → 0 < i → i ≤ length s.slots
          → wait_of u i ≡ wait_in ByTicks 0 (map (closer_by n) s.ticking) i + wait_in ByDate 0 s.dated i + wait_in Queue 0 s.queue i
      waits i a b =
          cases (eqb w.slot i)
          (λ e.
          let q = eqb-true w.slot i e in
          let now : wait_of u i ≡ wait_of t i - n = subst (λ (j : ℕ). wait_of u j ≡ wait_of t j - n) q own-word in
          let less : wait_in ByTicks 0 (map (closer_by n) s.ticking) i + n ≡ wait_in ByTicks 0 s.ticking i = rw e at (falls i) in
          omega (arith, old.body i 3 (omega arith) a b))
          (λ e.
          let q = eqb-false w.slot i e in
          let same : wait_in ByTicks 0 (map (closer_by n) s.ticking) i + 0 ≡ wait_in ByTicks 0 s.ticking i = rw e at (falls i) in
          omega (arith, other_word (2 + 8 * i + 3) (omega arith), old.body i 3 (omega arith) a b))

      body : (i : ℕ) → 0 < i → i ≤ length s.slots → (f : ℕ) → f < 8
          → field u i f ≡ get_or (slot_words (nearer_by n s) i (slot_at s.slots i) []) f 0
      body i a b =
          let stays : (f : ℕ) → f < 8 → f ≢ 3 → field u i f ≡ get_or (slot_words s i (slot_at s.slots i) []) f 0 =
          λ f p d. other_word (2 + 8 * i + f) (omega arith) ∙ old.body i f p a b in
          each_at (λ f x. field u i f ≡ x) 0 (slot_words (nearer_by n s) i (slot_at s.slots i) []) (
          stays 0 (omega arith) (omega arith)
          & stays 1 (omega arith) (omega arith)
          & stays 2 (omega arith) (omega arith)
          & waits i a b
          & stays 4 (omega arith) (omega arith)
          & stays 5 (omega arith) (omega arith)
          & (stays 6 (omega arith) (omega arith) ∙ ap (λ (x : ℕ). x + next_in s.dated i + next_in s.queue i) (sym (next-closer n s.ticking i)))
          & (stays 7 (omega arith) (omega arith)
          ∙ ap (λ (x : ℕ). x + previous_in 0 s.dated i + previous_in 0 s.queue i) (sym (previous-closer n 0 s.ticking i)))
          & end)

  lowered : u ≡ written_over (nearer_by n s) t
  lowered =
      let m = 10 + 8 * length s.slots in
      let same : length u ≡ length t = ap length is ∙ length-set t (2 + 8 * w.slot + 3) (wait_of t w.slot - n) in
      sym (spelled-over u (nearer_by n s) spelled (omega (arith, h.long)))
      ∙ ap (λ (v : List ℕ). written_over (nearer_by n s) v) is
      ∙ ap (write (nearer_by n s)) (drop-set-lt m t (2 + 8 * w.slot + 3) (wait_of t w.slot - n) (omega arith))

-- ---- the chains stay in order

pub closer-none : (l : List Link) → map (closer_by 0) l ≡ l
closer-none [] = refl
closer-none (w ∷ ws) =
    let same : w.wait - 0 ≡ w.wait = omega arith in
    ap₂ {C = List Link} (λ (n : ℕ) r. record { slot = w.slot; wait = n } ∷ r) same (closer-none ws)

pub closer-more : (m : ℕ) (l : List Link) → map (closer_by m) (map closer l) ≡ map (closer_by (suc m)) l
closer-more m [] = refl
closer-more m (w ∷ ws) =
    let same : w.wait - 1 - m ≡ w.wait - suc m = omega arith in
    ap₂ {C = List Link} (λ (n : ℕ) r. record { slot = w.slot; wait = n } ∷ r) same (closer-more m ws)

pub chained-by : (m : ℕ) (s : State) → Chained s → Chained (nearer_by m s)
chained-by zero s h = subst Chained (sym (ap (λ (l : List Link). with_chain ByTicks s s.slots l) (closer-none s.ticking))) h
chained-by (suc m) s h =
    subst Chained (ap (with_chain ByTicks s s.slots) (closer-more m s.ticking)) (chained-by m (nearer s) (chained-nearer s h))

-- ---- a table whose chains are in order

module _ (t : List ℕ) (n : ℕ) (o : Holds t (read t)) (h : Nearable t n) where
  pub nearer-none : first_ticking t ≡ 0 → t ≡ written_over (nearer_by n (read t)) t
  nearer-none e =
      sym (ap (λ (c : List Link). written_over (with_chain ByTicks (read t) (read t).slots c) t)
      (ap (map (closer_by n)) none ∙ sym none) ∙ o.is)
    where
      none : (read t).ticking ≡ []
      none = no_front ByTicks o refl e

  module _ {i : ℕ} (a : Front ByTicks t i) where
    pub first-waits : n ≤ wait_of t i
    first-waits = omega (arith, a.wait, (subst (All (λ v. n ≤ v.wait)) a.whole h).0)

    pub nearer-some : {u : List ℕ} → u ≡ set t (2 + 8 * i + 3) (wait_of t i - n) → u ≡ written_over (nearer_by n (read t)) t
    nearer-some {u} e =
        lowered n t (read t) o a.entry a.back a.whole h
        (omega (arith, a.low, a.slot)) (omega (arith, a.high, a.slot)) u
        (e ∙ ap (λ (j : ℕ). set t (2 + 8 * j + 3) (wait_of t j - n)) a.slot)

  pub nearer_keeps : {u : List ℕ} → u ≡ written_over (nearer_by n (read t)) t → Holds u (read u)
  nearer_keeps e = next-holds (next-then (next_start o) (nearer_by n) (chained-by n (read t) o.chained) refl e)
