-- What the pass and its walks do not test follows from what they test.
--
-- The interval of a slot that waits for ticks: the walk meets every such slot, with ticks left from 1 up to the interval. The kind along the interval
-- chain: other kinds that have an interval are idle (2, 7, 8), where wait and previous are 0, so that the slot comes first, with no ticks left, or not
-- at all; or queued (12), where the queue's walk found wait 0 and a previous that is queued too or, at the head, 0: the first one that the walk came to
-- would come behind a slot that waits for ticks, or be the head, with no ticks left. The kind along the dated chain: kinds in no chain have no wait, nor
-- have queued ones, and a slot that waits for ticks stands in the interval chain, so that its previous waits for ticks too or, at the head, is 0; the
-- first one that the walk came to would come behind a slot that waits for a date or be the head of both chains. That no date is past the last second:
-- dates never fall, so that the last one, tested at the end, is the greatest. Assumes nothing.
use Prim.Native.Nat.{ℕ, zero, suc, ◌+◌, ◌≤◌, ◌<◌}
use mathlib.Core.Path.{◌≡◌, refl, sym, ap₂, ◌∙◌, subst}
use mathlib.Core.Bool.{Bool, true, ◌&&◌, ◌||◌, and_assoc}
use mathlib.Core.List.{List, [], ◌∷◌}
use native.Mathlib.Nat.{pos_of_ne-zero}
use native.Mathlib.Omega.{arith}
use lib.Dec.{leb, eqb}
use borrow.Author.Tests.{eqb-true, eqb-false, eq-eqb, ne_eqb, le-leb, leb-true}
use Rattle.calendar.specs.Calendar.{last_second}
use Rattle.model.specs.Lists.{All}
use Rattle.model.specs.declared.Chain.{Chain}
use Rattle.model.specs.declared.Chain.TheVariants.{ByTicks, ByDate, Queue}
use Rattle.model.specs.Kinds.{waits_in, linked, last_by_ticks}
use Rattle.model.specs.Words.{along, slot_count, first_ticking, first_dated, first_queued, kind_of, interval_of, wait_of, next_of, previous_of}
use Rattle.model.specs.Sound.{previous_sound}
use Rattle.laws.proofs.ListLaws.{cases, clash, both, and_both, or_right, or_else}
use Rattle.word_checks.specs.Tested.{slot_tested}
use Rattle.word_checks.proofs.SlotTests.{tested}
use Rattle.walks.specs.Walks.{Stand, standing, start, link_tested, wait_tested, step_tested, step, walk_tested}
use Rattle.walks.proofs.KindsApart.{not-both, else-queued, timed-apart}
use Rattle.walks.proofs.StepTests.{InTicks, in-ticks, InDates, in-dates, dates-in, link-in}
use Rattle.walks.proofs.CountsAddUp.{times, all-times}
use Rattle.walks.proofs.NoSlotTwice.{along-first, along-zero}
use Rattle.walks.proofs.WalkDecidesChain.{link_sound, wait_sound, step_sound, walk, InChain, in-chain, chain-in}

module _ (server : Bool) (t : List ℕ) where
  abbrev N : ℕ
  N = slot_count t

  -- every slot is tested
  abbrev pub Slots : Type 0
  Slots = (j : ℕ) → 1 ≤ j → j ≤ N → slot_tested server t j ≡ true

  -- what a step of a walk that tests everything says
  in_step : (k : Chain) (x : Stand) → step_sound k t N x ≡ true → InChain k t N x.slot x.before
  in_step k x e =
      in-chain k t N x.slot x.before
      (both (link_sound k t N x.slot x.before) (wait_sound k t x.slot x.reached) e).0

  step_in : (k : Chain) (x : Stand) → InChain k t N x.slot x.before → wait_sound k t x.slot x.reached ≡ true
      → step_sound k t N x ≡ true
  step_in k x h w =
      and_both (link_sound k t N x.slot x.before) (wait_sound k t x.slot x.reached)
      (chain-in k t N x.slot x.before h) w

  -- ---- what a walk that tests everything says of the slots that it meets

  each : (k : Chain) (P : ℕ → Type 0) → ((x : Stand) → step_sound k t N x ≡ true → P x.slot)
      → (c f : ℕ) (x : Stand) → walk k t N c x ≡ true → All P (along (next_of t) f x.slot)
  unfolding walk
  each k P g zero f x e = rw (eqb-true x.slot 0 e, along-zero (next_of t) f) tt
  each k P g (suc c) zero x e = tt
  each k P g (suc c) (suc f) x e =
      let a = both (step_sound k t N x) (walk k t N c (step k t x)) e in
      rw (along-first (next_of t) f x.slot (in_step k x a.0).link.low) (g x a.0, each k P g c f (step k t x) a.1)

  pub kinds : (k : Chain) (c f : ℕ) (x : Stand) → walk k t N c x ≡ true
      → All (λ j. (1 ≤ j) × (waits_in k (kind_of t j) ≡ true)) (along (next_of t) f x.slot)
  kinds k c f x e =
      each k (λ j. (1 ≤ j) × (waits_in k (kind_of t j) ≡ true))
      (λ y s.
      let h = in_step k y s in
      (h.link.low, h.kind))
      c f x e

  pub within : (k : Chain) (c f : ℕ) (x : Stand) → walk k t N c x ≡ true → All (λ j. j ≤ N) (along (next_of t) f x.slot)
  within k c f x e = each k (λ j. j ≤ N) (λ y s. (in_step k y s).link.high) c f x e

  intervals : (c f : ℕ) (x : Stand) → walk ByTicks t N c x ≡ true → All (λ j. 1 ≤ interval_of t j) (along (next_of t) f x.slot)
  intervals c f x e =
      each ByTicks (λ j. 1 ≤ interval_of t j)
      (λ y s.
      let left = y.reached + wait_of t y.slot in
      let w = both (link_sound ByTicks t N y.slot y.before) (wait_sound ByTicks t y.slot y.reached) s in
      let b = both (leb 1 left) (leb left (interval_of t y.slot)) w.1 in
      omega (arith, leb-true 1 left b.0, leb-true left (interval_of t y.slot) b.1))
      c f x e

  previous : (k : Chain) (c f : ℕ) (x : Stand) → walk k t N c x ≡ true → previous_sound t x.before (along (next_of t) f x.slot) ≡ true
  unfolding walk
  previous k zero f x e = rw (eqb-true x.slot 0 e, along-zero (next_of t) f) refl
  previous k (suc c) zero x e = refl
  previous k (suc c) (suc f) x e =
      let a = both (step_sound k t N x) (walk k t N c (step k t x)) e in
      let h = in_step k x a.0 in
      rw (along-first (next_of t) f x.slot h.link.low)
      (and_both (eqb (previous_of t x.slot) x.before) (previous_sound t x.slot (along (next_of t) f (next_of t x.slot)))
      (eq-eqb (previous_of t x.slot) x.before h.link.previous) (previous k c f (step k t x) a.1))

  pub interval-low : (c f : ℕ) (x : Stand) → walk ByTicks t N c x ≡ true → (j : ℕ) → 0 < times j (along (next_of t) f x.slot)
      → 1 ≤ interval_of t j
  interval-low c f x e j m =
      all-times (λ i. 1 ≤ interval_of t i) (along (next_of t) f x.slot) j (intervals c f x e) m

  -- ---- previous in a chain: a slot of the chain's kinds, or 0 at the head

  abbrev Of : Chain → ℕ → Type 0
  Of k j = (1 ≤ j) × (waits_in k (kind_of t j) ≡ true)

  later : (k : Chain) (p : ℕ) (l : List ℕ) → Of k p → previous_sound t p l ≡ true → All (Of k) l → (j : ℕ) → 0 < times j l → Of k (previous_of t j)
  later k p [] a e h j m = absurd (omega arith)
  later k p (y ∷ ys) a e h j m =
      let r = both (eqb (previous_of t y) p) (previous_sound t y ys) e in
      cases (eqb y j)
      (λ z. subst (λ (v : ℕ). Of k (previous_of t v)) (eqb-true y j z) (subst (Of k) (sym (eqb-true (previous_of t y) p r.0)) a))
      (λ z. later k y ys h.0 r.1 h.1 j (rw z at m))

  abbrev pub Behind : Chain → ℕ → ℕ → Type 0
  Behind k i j = (previous_of t j ≡ 0 → j ≡ i) × (1 ≤ previous_of t j → waits_in k (kind_of t (previous_of t j)) ≡ true)

  behind : (k : Chain) (f i : ℕ) → previous_sound t 0 (along (next_of t) f i) ≡ true → All (Of k) (along (next_of t) f i) → (j : ℕ)
      → 0 < times j (along (next_of t) f i) → Behind k i j
  behind k zero i e h j m = absurd (omega arith)
  behind k (suc f) zero e h j m = absurd (omega arith)
  behind k (suc f) (suc i) e h j m =
      let ys = along (next_of t) f (next_of t (suc i)) in
      let r = both (eqb (previous_of t (suc i)) 0) (previous_sound t (suc i) ys) e in
      cases (eqb (suc i) j)
      (λ z.
      let is = eqb-true (suc i) j z in
      let first : previous_of t j ≡ 0 = subst (λ (v : ℕ). previous_of t v ≡ 0) is (eqb-true (previous_of t (suc i)) 0 r.0) in
      ((λ q. sym is), (λ q. absurd (omega (arith, q, first)))))
      (λ z.
      let l = later k (suc i) ys h.0 r.1 h.1 j (rw z at m) in
      ((λ q. absurd (omega (arith, q, l.0))), (λ q. l.1)))

  pub stands-behind : (k : Chain) (c f i b : ℕ) → walk k t N c (standing i 0 b) ≡ true → (j : ℕ) → 0 < times j (along (next_of t) f i) → Behind k i j
  stands-behind k c f i b e j m =
      behind k f i (previous k c f (standing i 0 b) e) (kinds k c f (standing i 0 b) e) j m

  -- ---- the queue, where everything is tested

  pub queue-walk : (c : ℕ) (x : Stand) → walk_tested Queue t N c x ≡ walk Queue t N c x
  unfolding walk_tested step_tested walk link_sound
  queue-walk zero x = refl
  queue-walk (suc c) x =
      let kind = waits_in Queue (kind_of t x.slot) in
      let none = eqb (wait_of t x.slot) 0 in
      ap₂ ◌&&◌ (sym (and_assoc (link_tested t N x.slot x.before) kind none)) (queue-walk c (step Queue t x))

  -- its slots have no wait, and stand behind one another
  abbrev pub Queued : Type 0
  Queued = (j : ℕ) → 1 ≤ j → j ≤ N → waits_in Queue (kind_of t j) ≡ true → (wait_of t j ≡ 0) × Behind Queue (first_queued t) j

  pub queued : (c f : ℕ) → walk Queue t N c (start Queue t) ≡ true
      → ((j : ℕ) → 1 ≤ j → j ≤ N → waits_in Queue (kind_of t j) ≡ true → 0 < times j (along (next_of t) f (first_queued t))) → Queued
  queued c f e met j a b k =
      let none : All (λ i. wait_of t i ≡ 0) (along (next_of t) f (first_queued t)) =
      each Queue (λ i. wait_of t i ≡ 0)
      (λ y s. eqb-true (wait_of t y.slot) 0 (both (link_sound Queue t N y.slot y.before) (eqb (wait_of t y.slot) 0) s).1)
      c f (start Queue t) e in (
        all-times (λ i. wait_of t i ≡ 0) (along (next_of t) f (first_queued t)) j none (met j a b k),
        stands-behind Queue c f (first_queued t) 0 e j (met j a b k),
      )

  -- ---- the interval chain

  -- the walk stands at the head, with no ticks left, or behind a slot that waits for ticks
  pub record Ticking (x : Stand) : Type 0 where
    pub head : x.before ≡ 0 → x.reached ≡ 0
    pub kind : 1 ≤ x.before → waits_in ByTicks (kind_of t x.before) ≡ true

  ticks-kind : (x : Stand) → Slots → Queued → Ticking x → InTicks t N x → waits_in ByTicks (kind_of t x.slot) ≡ true
  ticks-kind x slots queue b s =
      let i = x.slot in
      let z = tested server t i (slots i s.link.low s.link.high) in
      cases (waits_in ByTicks (kind_of t i))
      (λ w. w)
      (λ w.
      cases (last_by_ticks (kind_of t i))
      (λ l.
      cases (waits_in Queue (kind_of t i))
      (λ q.
      let a = queue i s.link.low s.link.high q in
      cases (eqb x.before 0)
      (λ e.
      let none = b.head (eqb-true x.before 0 e) in
      absurd (omega (arith, none, a.0, s.low)))
      (λ e.
      let some = pos_of_ne-zero (eqb-false x.before 0 e) in
      let behind-queued = a.1.1 (subst (λ (v : ℕ). 1 ≤ v) (sym s.link.previous) some) in
      let before : waits_in Queue (kind_of t x.before) ≡ true =
      subst (λ (v : ℕ). waits_in Queue (kind_of t v) ≡ true) s.link.previous behind-queued in
      clash (sym (b.kind some) ∙ not-both Queue ByTicks refl (kind_of t x.before) before)))
      (λ q.
      let a = z.alone (timed-apart (kind_of t i) l w q) in
      let none = b.head (sym s.link.previous ∙ a.1) in
      absurd (omega (arith, none, a.0, s.low))))
      (λ l. absurd (omega (arith, z.no_interval l, s.low, s.high))))

  pub ticks-whole : (c : ℕ) (x : Stand) → Slots → Queued → Ticking x → walk_tested ByTicks t N c x ≡ true
      → walk ByTicks t N c x ≡ true
  unfolding walk_tested step_tested walk
  ticks-whole zero x slots queue b e = e
  ticks-whole (suc c) x slots queue b e =
      let a = both (step_tested ByTicks t N x) (walk_tested ByTicks t N c (step ByTicks t x)) e in
      let w = both (link_tested t N x.slot x.before) (wait_tested ByTicks t x.slot x.reached) a.0 in
      let s = in-ticks t N x a.0 in
      let kind = ticks-kind x slots queue b s in
      and_both (step_sound ByTicks t N x) (walk ByTicks t N c (step ByTicks t x))
      (step_in ByTicks x
      (record { link = s.link; kind = kind }) w.1)
      (ticks-whole c (step ByTicks t x) slots queue (record { head = λ z. absurd (omega (arith, s.link.low, z)); kind = λ z. kind }) a.1)

  pub ticks-tested : (c : ℕ) (x : Stand) → walk ByTicks t N c x ≡ true → walk_tested ByTicks t N c x ≡ true
  unfolding walk_tested step_tested walk
  ticks-tested zero x e = e
  ticks-tested (suc c) x e =
      let a = both (step_sound ByTicks t N x) (walk ByTicks t N c (step ByTicks t x)) e in
      let w = both (link_sound ByTicks t N x.slot x.before) (wait_sound ByTicks t x.slot x.reached) a.0 in
      let h = in_step ByTicks x a.0 in
      and_both (step_tested ByTicks t N x) (walk_tested ByTicks t N c (step ByTicks t x))
      (and_both (link_tested t N x.slot x.before) (wait_tested ByTicks t x.slot x.reached)
      (link-in t N x.slot x.before h.link) w.1)
      (ticks-tested c (step ByTicks t x) a.1)

  -- ---- the dated chain

  -- where every slot that waits for ticks stands in the interval chain, and the dated chain begins elsewhere
  pub record Apart : Type 0 where
    pub ticking : (j : ℕ) → 1 ≤ j → j ≤ N → waits_in ByTicks (kind_of t j) ≡ true → Behind ByTicks (first_ticking t) j
    pub heads : first_ticking t ≡ first_dated t → first_ticking t ≡ 0

  -- the walk stands at the head, or behind a slot that waits for a date; what it has reached is not 0
  pub record Dated (x : Stand) : Type 0 where
    pub head : x.before ≡ 0 → x.slot ≡ first_dated t
    pub kind : 1 ≤ x.before → waits_in ByDate (kind_of t x.before) ≡ true
    pub date : 1 ≤ x.reached

  dates-kind : (x : Stand) → Slots → Queued → Apart → Dated x → InDates t N x → waits_in ByDate (kind_of t x.slot) ≡ true
  dates-kind x slots queue apart d s =
      let i = x.slot in
      let z = tested server t i (slots i s.link.low s.link.high) in
      cases (waits_in ByTicks (kind_of t i))
      (λ q.
      let b = apart.ticking i s.link.low s.link.high q in
      cases (eqb x.before 0)
      (λ e.
      let none = eqb-true x.before 0 e in
      let at = b.0 (s.link.previous ∙ none) in
      let both_at = apart.heads (sym at ∙ d.head none) in
      absurd (omega (arith, at, both_at, s.link.low)))
      (λ e.
      let some = pos_of_ne-zero (eqb-false x.before 0 e) in
      let ticking = b.1 (subst (λ (v : ℕ). 1 ≤ v) (sym s.link.previous) some) in
      let before : waits_in ByTicks (kind_of t x.before) ≡ true =
      subst (λ (v : ℕ). waits_in ByTicks (kind_of t v) ≡ true) s.link.previous ticking in
      clash (sym (d.kind some) ∙ not-both ByTicks ByDate refl (kind_of t x.before) before)))
      (λ q.
      cases (linked (kind_of t i))
      (λ w.
      cases (waits_in ByDate (kind_of t i))
      (λ v. v)
      (λ v. absurd (omega (arith, (queue i s.link.low s.link.high (else-queued (kind_of t i) w q v)).0, s.low, d.date))))
      (λ w. absurd (omega (arith, (z.alone w).0, s.low, d.date))))

  -- what is reached is not above the last date
  last-date : (c : ℕ) (x : Stand) → 1 ≤ x.before → walk_tested ByDate t N c x ≡ true → x.reached ≤ last_second
  unfolding walk_tested
  last-date zero x h e =
      leb-true x.reached last_second
      (or_else (eqb x.before 0) (leb x.reached last_second)
      (both (eqb x.slot 0) (eqb x.before 0 || leb x.reached last_second) e).1
      (ne_eqb x.before 0 (λ z. omega (arith, z, h))))
  last-date (suc c) x h e =
      let a = both (step_tested ByDate t N x) (walk_tested ByDate t N c (step ByDate t x)) e in
      let s = in-dates t N x a.0 in
      omega (arith, s.low, last-date c (step ByDate t x) s.link.low a.1)

  pub dates-whole : (c : ℕ) (x : Stand) → Slots → Queued → Apart → Dated x → walk_tested ByDate t N c x ≡ true → walk ByDate t N c x ≡ true
  unfolding walk_tested walk
  dates-whole zero x slots queue apart d e = (both (eqb x.slot 0) (eqb x.before 0 || leb x.reached last_second) e).0
  dates-whole (suc c) x slots queue apart d e =
      let a = both (step_tested ByDate t N x) (walk_tested ByDate t N c (step ByDate t x)) e in
      let s = in-dates t N x a.0 in
      let date = wait_of t x.slot in
      let kind = dates-kind x slots queue apart d s in
      and_both (step_sound ByDate t N x) (walk ByDate t N c (step ByDate t x))
      (step_in ByDate x
      (record { link = s.link; kind = kind })
      (and_both (leb x.reached date) (leb date last_second) (le-leb x.reached date s.low)
      (le-leb date last_second (last-date c (step ByDate t x) s.link.low a.1))))
      (dates-whole c (step ByDate t x) slots queue apart
      (record { head = λ z. absurd (omega (arith, s.link.low, z)); kind = λ z. kind; date = omega (arith, s.low, d.date) }) a.1)

  pub dates-tested : (c : ℕ) (x : Stand) → (eqb x.before 0 || leb x.reached last_second) ≡ true → walk ByDate t N c x ≡ true
      → walk_tested ByDate t N c x ≡ true
  unfolding walk_tested walk
  dates-tested zero x l e = and_both (eqb x.slot 0) (eqb x.before 0 || leb x.reached last_second) e l
  dates-tested (suc c) x l e =
      let a = both (step_sound ByDate t N x) (walk ByDate t N c (step ByDate t x)) e in
      let date = wait_of t x.slot in
      let w = both (link_sound ByDate t N x.slot x.before) (wait_sound ByDate t x.slot x.reached) a.0 in
      let b = both (leb x.reached date) (leb date last_second) w.1 in
      let h = in_step ByDate x a.0 in
      and_both (step_tested ByDate t N x) (walk_tested ByDate t N c (step ByDate t x))
      (dates-in t N x
      (record { link = h.link; low = leb-true x.reached date b.0 }))
      (dates-tested c (step ByDate t x) (or_right (eqb x.slot 0) (leb date last_second) b.1) a.1)
