-- A walk that tests everything, of as many steps as there are slots of the chain's kinds, decides the chain and its waits. A walk is its links and
-- its waits. The links end at 0, so they meet no slot twice; they meet slots of those kinds only; and the sum over all slots of how often each is met
-- is the number of steps, which is the number of such slots: so each of them is met once. Assumes nothing.
use Prim.Native.Nat.{ℕ, zero, suc, ◌+◌, ◌≤◌, ◌<◌}
use mathlib.Core.Path.{◌≡◌, refl, sym, ap, ◌∙◌, subst}
use mathlib.Core.Bool.{Bool, true, false, cond, ◌&&◌, and-true}
use mathlib.Core.List.{List, [], ◌∷◌}
use native.Mathlib.Omega.{arith}
use lib.ListN.{length}
use lib.Dec.{leb, eqb}
use borrow.Author.Tests.{eqb-true, eq-eqb, le-leb, leb-true}
use Rattle.calendar.specs.Calendar.{last_second}
use Rattle.model.specs.Lists.{every, All}
use Rattle.model.specs.declared.Chain.{Chain}
use Rattle.model.specs.declared.Chain.TheVariants.{ByTicks, ByDate, Queue}
use Rattle.model.specs.Kinds.{waits_in}
use Rattle.model.specs.State.{Link}
use Rattle.model.specs.Words.{word, head_word, along, accumulated, links_from, slot_count, seconds, first_ticking, first_dated, first_queued, kind_of, interval_of, wait_of, next_of, previous_of}
use Rattle.model.specs.Sound.{previous_sound, chain_tests, chain_sound, first_sound, ticks_sound, rising, dates_sound, queue_sound}
use Rattle.laws.proofs.ListLaws.{cases, clash, both, and_both, all-at, all_true, all_up, up_at, every_true, every-all, all_map, all-zip}
use Rattle.word_checks.proofs.BooleanTests.{same, exchange}
use Rattle.walks.specs.Walks.{Stand, standing, origin, start, link_tested, wait_tested, step, waiting}
use Rattle.walks.proofs.StepTests.{InLink, in-link, link-in}
use Rattle.walks.proofs.CountsAddUp.{times, sum_up, sum_same, sum-few, sum-times, sum-tight, none-times}
use Rattle.walks.proofs.NoSlotTwice.{Ends, along-first, along-more, ends-length, ends_of, once, along-low, links-first, links-more}

-- ---- what document 01 says of a chain's waits
abbrev pub waits_sound : Chain → List ℕ → Bool
waits_sound ByTicks t = ticks_sound t
waits_sound ByDate t = dates_sound t
waits_sound Queue t = queue_sound t

-- ---- the walk that tests everything

-- slot i of n stands behind slot p, and is of the chain's kinds
unfoldable pub link_sound : Chain → List ℕ → ℕ → ℕ → ℕ → Bool
link_sound k t n i p = link_tested t n i p && waits_in k (kind_of t i)

-- what is tested of a wait; and a date is not past the last second, a wait in the queue 0
abbrev pub wait_sound : Chain → List ℕ → ℕ → ℕ → Bool
wait_sound ByTicks t i b = wait_tested ByTicks t i b
wait_sound ByDate t i b = wait_tested ByDate t i b && leb (wait_of t i) last_second
wait_sound Queue t i b = eqb (wait_of t i) 0

abbrev pub step_sound : Chain → List ℕ → ℕ → Stand → Bool
step_sound k t n x = link_sound k t n x.slot x.before && wait_sound k t x.slot x.reached

-- c steps, and then the end of the chain
unfoldable pub walk : Chain → List ℕ → ℕ → ℕ → Stand → Bool
walk k t n zero x = eqb x.slot 0
walk k t n (suc c) x = step_sound k t n x && walk k t n c (step k t x)

pub record InChain (k : Chain) (t : List ℕ) (n i p : ℕ) : Type 0 where
  pub link : InLink t n i p
  pub kind : waits_in k (kind_of t i) ≡ true

module _ (k : Chain) (t : List ℕ) (n i p : ℕ) where
  pub in-chain : link_sound k t n i p ≡ true → InChain k t n i p
  unfolding link_sound
  in-chain e =
      let a = both (link_tested t n i p) (waits_in k (kind_of t i)) e in
      record { link = in-link t n i p a.0; kind = a.1 }

  pub chain-in : InChain k t n i p → link_sound k t n i p ≡ true
  unfolding link_sound
  chain-in h = and_both (link_tested t n i p) (waits_in k (kind_of t i)) (link-in t n i p h.link) h.kind

module _ (k : Chain) (t : List ℕ) where
  -- 1 where slot j waits in the chain
  abbrev waits : ℕ → ℕ
  waits j = cond (waits_in k (kind_of t j)) 1 0

  waiting-sum : (i m : ℕ) → waiting k t i m ≡ sum_up waits i m
  unfolding waiting
  waiting-sum i zero = refl
  waiting-sum i (suc m) =
      let h = waiting-sum (suc i) m in
      cases (waits_in k (kind_of t i)) (λ e. rw e (omega arith)) (λ e. rw e (omega arith))

  waiting_few : (i m : ℕ) → waiting k t i m ≤ m
  waiting_few i m =
      rw (waiting-sum i m) (sum-few waits i m (λ j. cases (waits_in k (kind_of t j)) (λ e. rw e (omega arith)) (λ e. rw e (omega arith))))

  -- ---- a walk is its links and its waits

  abbrev linked : ℕ → ℕ → ℕ → ℕ → Bool
  linked n zero i p = eqb i 0
  linked n (suc c) i p = link_sound k t n i p && linked n c (next_of t i) i

  abbrev waited : ℕ → ℕ → ℕ → Bool
  waited zero i b = true
  waited (suc c) i b = wait_sound k t i b && waited c (next_of t i) (accumulated k b (wait_of t i))

  walk_split : (n c i p b : ℕ) → walk k t n c (standing i p b) ≡ (linked n c i p && waited c i b)
  unfolding walk
  walk_split n zero i p b = sym (and-true (eqb i 0))
  walk_split n (suc c) i p b =
      let b' = accumulated k b (wait_of t i) in
      ap (λ (x : Bool). (link_sound k t n i p && wait_sound k t i b) && x) (walk_split n c (next_of t i) i b')
      ∙ exchange (link_sound k t n i p) (wait_sound k t i b) (linked n c (next_of t i) i) (waited c (next_of t i) b')

  -- ---- the links

  -- a slot of n that waits in the chain
  abbrev OfKind : ℕ → ℕ → Type 0
  OfKind n x = (x ≤ n) × (waits_in k (kind_of t x) ≡ true)

  record Linked (n c i p : ℕ) : Type 0 where
    ends : Ends (next_of t) c i
    kind : All (OfKind n) (along (next_of t) c i)
    previous : previous_sound t p (along (next_of t) c i) ≡ true

  from-linked : (n c i p : ℕ) → linked n c i p ≡ true → Linked n c i p
  from-linked n zero i p e = record { ends = eqb-true i 0 e; kind = tt; previous = refl }
  from-linked n (suc c) i p e =
      let a = both (link_sound k t n i p) (linked n c (next_of t i) i) e in
      let h = in-chain k t n i p a.0 in
      let r = from-linked n c (next_of t i) i a.1 in
      let is : along (next_of t) (suc c) i ≡ i ∷ along (next_of t) c (next_of t i) = along-first (next_of t) c i h.link.low in
      record {
        ends = (h.link.low, r.ends);
        kind = rw is ((h.link.high, h.kind), r.kind);
        previous = rw is (
            and_both (eqb (previous_of t i) p) (previous_sound t i (along (next_of t) c (next_of t i))) (eq-eqb (previous_of t i) p h.link.previous) r.previous);
      }

  to-linked : (n c i p : ℕ) → Linked n c i p → linked n c i p ≡ true
  to-linked n zero i p h = eq-eqb i 0 h.ends
  to-linked n (suc c) i p h =
      let rest = along (next_of t) c (next_of t i) in
      let is : along (next_of t) (suc c) i ≡ i ∷ rest = along-first (next_of t) c i h.ends.0 in
      let kinds : All (OfKind n) (i ∷ rest) = rw is at h.kind in
      let previous : previous_sound t p (i ∷ rest) ≡ true = rw is at h.previous in
      let q = both (eqb (previous_of t i) p) (previous_sound t i rest) previous in
      and_both (link_sound k t n i p) (linked n c (next_of t i) i)
      (chain-in k t n i p
      (record { link = record { low = h.ends.0; high = kinds.0.0; previous = eqb-true (previous_of t i) p q.0 }; kind = kinds.0.1 }))
      (to-linked n c (next_of t i) i (record { ends = h.ends.1; kind = kinds.1; previous = q.1 }))

  -- ---- the chain

  abbrev N : ℕ
  N = slot_count t

  abbrev head : ℕ
  head = word t (head_word k)

  abbrev C : ℕ
  C = waiting k t 1 N

  chain-from : linked N C head 0 ≡ true → chain_sound k t ≡ true
  unfolding chain_sound
  chain-from e =
      let p : Linked N C head 0 = from-linked N C head 0 e in
      let l = along (next_of t) C head in
      let few : C ≤ N = waiting_few 1 N in
      let is : along (next_of t) N head ≡ l = along-more (next_of t) C N head p.ends few in
      let is' : along (next_of t) (suc N) head ≡ l = along-more (next_of t) C (suc N) head p.ends (omega arith) in
      let len : length l ≡ C = ends-length (next_of t) C head p.ends in
      let range : All (λ x. (1 ≤ x) × (x < 1 + N)) l =
      all_map (λ x q. (q.0, omega (arith, q.1.0))) l (all-zip (λ x. 1 ≤ x) (OfKind N) l (along-low (next_of t) C head) p.kind) in
      let met : (j : ℕ) → 1 ≤ j → j < 1 + N → times j l ≡ waits j =
      sum-tight (λ j. times j l) waits 1 N
      (λ j a b.
      cases (waits_in k (kind_of t j))
      (λ q. rw q (once (next_of t) C head j p.ends))
      (λ q. rw q (omega (arith, none-times (OfKind N) l j p.kind (λ z. clash (sym z.1 ∙ q))))))
      (sum-times l 1 N range ∙ len ∙ waiting-sum 1 N) in
      all_true (chain_tests k t) (
        le-leb (length (along (next_of t) (suc N) head)) N (rw is' (omega arith)),
        (
          rw is (every_true (λ i. leb i N) l (all_map (λ x q. le-leb x N q.0) l p.kind)),
          (
            rw is (all_up (λ i. eqb (times i l) (waits i)) 1 N (λ j a b. eq-eqb (times j l) (waits j) (met j a b))),
            (rw is p.previous, tt),
          ),
        ),
      )

  chain-to : chain_sound k t ≡ true → linked N C head 0 ≡ true
  unfolding chain_sound
  chain-to e =
      let l = along (next_of t) N head in
      let at = all-at (chain_tests k t) e in
      let ends : Ends (next_of t) (length l) head = ends_of (next_of t) N head (leb-true (length (along (next_of t) (suc N) head)) N (at 0)) in
      let range : All (λ x. (1 ≤ x) × (x < 1 + N)) l =
      all_map (λ x q. (q.0, omega (arith, leb-true x N q.1))) l
      (all-zip (λ x. 1 ≤ x) (λ x. leb x N ≡ true) l (along-low (next_of t) N head) (every-all (λ i. leb i N) l (at 1))) in
      let met : (j : ℕ) → 1 ≤ j → j < 1 + N → times j l ≡ waits j =
      λ j p q. eqb-true (times j l) (waits j) (up_at (λ i. eqb (times i l) (waits i)) 1 N (at 2) j p q) in
      let len : length l ≡ C = sym (sum-times l 1 N range) ∙ sum_same (λ j. times j l) waits 1 N met ∙ sym (waiting-sum 1 N) in
      let ends' : Ends (next_of t) C head = subst (λ (m : ℕ). Ends (next_of t) m head) len ends in
      let is : l ≡ along (next_of t) C head = along-more (next_of t) C N head ends' (waiting_few 1 N) in
      let kind : All (OfKind N) l = sort l range (λ x p q r. of-kind x (omega (arith, met x p q, r))) in
      to-linked N C head 0 (record { ends = ends'; kind = rw is at kind; previous = rw is at (at 3) })
    where
      of-kind : (x : ℕ) → 0 < waits x → waits_in k (kind_of t x) ≡ true
      of-kind x p = cases (waits_in k (kind_of t x)) (λ e. e) (λ e. absurd (let z : 0 < cond false 1 0 = rw e at p in omega arith))

      sort : (l : List ℕ) → All (λ x. (1 ≤ x) × (x < 1 + N)) l
          → ((x : ℕ) → 1 ≤ x → x < 1 + N → 0 < times x l → waits_in k (kind_of t x) ≡ true) → All (OfKind N) l
      sort [] r f = tt
      sort (y ∷ ys) r f = (
        (omega (arith, r.0.1), f y r.0.0 r.0.1 (rw (eq-eqb y y refl) (omega arith))),
        sort ys r.1 (λ x p q s. f x p q (cases (eqb y x) (λ e. rw e (omega arith)) (λ e. rw e s))),
      )

  pub met-once : chain_sound k t ≡ true → (j : ℕ) → 1 ≤ j → j ≤ N → waits_in k (kind_of t j) ≡ true → times j (along (next_of t) N head) ≡ 1
  unfolding chain_sound
  met-once e j a b q =
      let l = along (next_of t) N head in
      eqb-true (times j l) (waits j) (up_at (λ i. eqb (times i l) (waits i)) 1 N (all-at (chain_tests k t) e 2) j a (omega arith))
      ∙ rw q

-- ---- the waits

module _ (t : List ℕ) where
  abbrev in_interval : Link → Bool
  in_interval w = leb w.wait (interval_of t w.slot)

  abbrev in_time : Link → Bool
  in_time w = leb w.wait last_second

  abbrev is_none : Link → Bool
  is_none w = eqb w.wait 0

  -- behind the first slot, ticks left are 1 or more
  ticks-later : (c i b : ℕ) → Ends (next_of t) c i → 1 ≤ b → waited ByTicks t c i b ≡ every in_interval (links_from ByTicks t c b i)
  ticks-later zero i b e h = refl
  ticks-later (suc c) i b e h =
      rw (links-first ByTicks t c b i e.0, le-leb 1 (b + wait_of t i) (omega arith))
      (ap (λ (x : Bool). leb (b + wait_of t i) (interval_of t i) && x) (ticks-later c (next_of t i) (b + wait_of t i) e.1 (omega arith)))

  ticks-first : (c i : ℕ) → Ends (next_of t) c i
      → waited ByTicks t c i 0 ≡ (first_sound (links_from ByTicks t c 0 i) && every in_interval (links_from ByTicks t c 0 i))
  ticks-first zero i e = refl
  ticks-first (suc c) i e =
      rw (links-first ByTicks t c 0 i e.0)
      (cases (leb 1 (0 + wait_of t i))
      (λ q. rw q (ap (λ (x : Bool). leb (0 + wait_of t i) (interval_of t i) && x)
      (ticks-later c (next_of t i) (0 + wait_of t i) e.1 (leb-true 1 (0 + wait_of t i) q))))
      (λ q. rw q))

  dates-all : (c i d : ℕ) → Ends (next_of t) c i
      → waited ByDate t c i d ≡ (rising d (links_from ByDate t c d i) && every in_time (links_from ByDate t c d i))
  dates-all zero i d e = refl
  dates-all (suc c) i d e =
      let date = wait_of t i in
      let l = links_from ByDate t c date (next_of t i) in
      rw (links-first ByDate t c d i e.0)
      (ap (λ (x : Bool). wait_sound ByDate t i d && x) (dates-all c (next_of t i) date e.1)
      ∙ exchange (leb d date) (leb date last_second) (rising date l) (every in_time l))

  -- the links of dates do not depend on the date before
  dates-behind : (f b d i : ℕ) → links_from ByDate t f b i ≡ links_from ByDate t f d i
  dates-behind zero b d i = refl
  dates-behind (suc f) b d zero = refl
  dates-behind (suc f) b d (suc i) = refl

  queue-all : (c i b : ℕ) → Ends (next_of t) c i → waited Queue t c i b ≡ every is_none (links_from Queue t c b i)
  queue-all zero i b e = refl
  queue-all (suc c) i b e =
      rw (links-first Queue t c b i e.0) (ap (λ (x : Bool). eqb (wait_of t i) 0 && x) (queue-all c (next_of t i) (wait_of t i) e.1))

  waited-is : (k : Chain) (c : ℕ) → Ends (next_of t) c (word t (head_word k)) → c ≤ slot_count t
      → waited k t c (word t (head_word k)) (origin k t) ≡ waits_sound k t
  unfolding ticks_sound dates_sound queue_sound
  waited-is ByTicks c e h = rw (links-more ByTicks t c (slot_count t) 0 (first_ticking t) e h) (ticks-first c (first_ticking t) e)
  waited-is ByDate c e h =
      rw (dates-behind (slot_count t) 0 (suc (seconds t)) (first_dated t), links-more ByDate t c (slot_count t) (suc (seconds t)) (first_dated t) e h)
      (dates-all c (first_dated t) (suc (seconds t)) e)
  waited-is Queue c e h = rw (links-more Queue t c (slot_count t) 0 (first_queued t) e h) (queue-all c (first_queued t) 0 e)

  pub walked : (k : Chain) → walk k t (slot_count t) (waiting k t 1 (slot_count t)) (start k t) ≡ (chain_sound k t && waits_sound k t)
  walked k =
      let n = slot_count t in
      let c = waiting k t 1 n in
      let h = word t (head_word k) in
      let b = origin k t in
      let few = waiting_few k t 1 n in
      walk_split k t n c h 0 b
      ∙ same (linked k t n c h 0 && waited k t c h b) (chain_sound k t && waits_sound k t)
      (λ e.
      let a = both (linked k t n c h 0) (waited k t c h b) e in
      and_both (chain_sound k t) (waits_sound k t) (chain-from k t a.0)
      (sym (waited-is k c (from-linked k t n c h 0 a.0).ends few) ∙ a.1))
      (λ e.
      let a = both (chain_sound k t) (waits_sound k t) e in
      let l = chain-to k t a.0 in
      and_both (linked k t n c h 0) (waited k t c h b) l (waited-is k c (from-linked k t n c h 0 l).ends few ∙ a.1))
