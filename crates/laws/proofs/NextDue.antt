-- What next due answers. On a sound table the slot in word 5 is the first of the interval chain, along which ticks left never fall, so what is read there
-- is the least ticks left over all waiting interval timers, of the table's slots and of the history's starts. Assumes nothing.
use mathlib.Core.Path.{◌≡◌, refl, sym, ap, ap₂, ◌∙◌, subst}
use Prim.Native.Nat.{ℕ, zero, suc, ◌+◌, ◌-◌, ◌*◌, ◌≤◌, ◌<◌}
use native.Mathlib.Omega.{arith}
use mathlib.Core.Bool.{Bool, true, false, cond, not, ◌||◌}
use mathlib.Core.List.{List, [], ◌∷◌, map, head-eq_of_cons-eq}
use lib.ListN.{length}
use lib.Dec.{leb, ltb, eqb}
use borrow.Author.Tests.{leb-true, leb-false, lt-leb, lt-ltb, eq-eqb, eqb-true, eqb-false}
use Rattle.calendar.specs.Calendar.{all_of}
use Rattle.model.specs.Lists.{least, keep, any, place, All, Sorted}
use Rattle.model.specs.Calls.{ticks_left, tick, next_due}
use Rattle.model.specs.declared.Chain.TheVariants.{ByTicks, ByDate}
use Rattle.model.specs.Kinds.{waits_in}
use Rattle.model.specs.Parties.{owner_of, owns}
use Rattle.model.specs.State.{Slot, Link, State, with_chain, with_clock, slot_at, wait_at, id_base, index_of}
use Rattle.model.specs.Words.{first, written_over, links_from, links, read, slot_count, first_ticking, kind_of, wait_of, next_of, party_split}
use Rattle.model.specs.Sound.{sound}
use Rattle.model.specs.Directives.{first_tests, first_wait, fired_all, go_on, due, fire, closer, nearer, clock_step}
use Rattle.model.specs.Outcome.{Outcome, outcome_of, status_on, outcome, first_number}
use Rattle.model.specs.NextDue.{slots_up, waiting_for_ticks, ticks_left_of, NextDueIsLeast, SameFirst, NextDueReadsOneSlot}
use Rattle.laws.proofs.ListLaws.{cases, clash, or_else, or_left, or_right, all-at, all_true, all_map, all_keep, all-passed, all-zip, all-mapped, keep_all, keep-none}
use Rattle.laws.proofs.Order.{order_on, order}
use Rattle.laws.proofs.WellFormed.{times_in}
use Rattle.laws.proofs.Chains.{times-own, in-slots}
use Rattle.laws.proofs.ReadBack.{slots_length, slot_read, links-is}
use Rattle.laws.proofs.SoundHolds.{sound-header, sound-holds, sound-well-formed}
use Rattle.laws.proofs.KindLaws.{dated-not-again}
use Rattle.laws.proofs.Steps.{fire-elsewhere, chained-fire, chained-nearer, chained-with-clock}
use Rattle.laws.proofs.CallTables.{table-left, effect-holds, effect-sound}
use Rattle.laws.proofs.PartyLaws.{owner_owns}
use Rattle.laws.proofs.AcceptedCalls.{Named, accepted-facts, facts-accepted}
use Rattle.laws.proofs.OutcomeLaws.{status-is, outcome-accepted, outcome-refused, outcome-status}

-- ---- the least of some numbers

least-low : (n : ℕ) (l : List ℕ) → least (n ∷ l) ≤ n
least-low n [] = omega arith
least-low n (m ∷ l) = omega arith

-- a number beside a smaller one does not count
least-without : (n m : ℕ) (l : List ℕ) → n ≤ m → least (n ∷ l) ≡ least (n ∷ m ∷ l)
least-without n m [] p = omega arith
least-without n m (k ∷ l) p = omega arith

-- one of them that is not above any
least-high : (v n : ℕ) (l : List ℕ) → All (λ m. v ≤ m) (n ∷ l) → v ≤ least (n ∷ l)
least-high v n [] h = h.0
least-high v n (m ∷ l) h = omega (arith, h.0, least-high v m l h.1)

least-is : (v : ℕ) (l : List ℕ) → any (λ m. eqb m v) l ≡ true → All (λ m. v ≤ m) l → least l ≡ v
least-is v [] e h = clash (sym e)
least-is v (n ∷ []) e h = eqb-true n v (or_else false (eqb n v) (or_swap e) refl)
  where
    or_swap : (eqb n v || false) ≡ true → (false || eqb n v) ≡ true
    or_swap = cases (eqb n v) (λ f. rw f (λ z. refl)) (λ f. rw f (λ z. z))
least-is v (n ∷ m ∷ l) e h =
    cases (eqb n v)
    (λ f. omega (arith, eqb-true n v f, least-high v m l h.1))
    (λ f. omega (arith, h.0, least-is v (m ∷ l) (or_else (eqb n v) (any (λ k. eqb k v) (m ∷ l)) e f) h.1))

-- the number of the first element, 0 if there is none
module _ {A : Type 0} (key : A → ℕ) where
  abbrev pub first_by : List A → ℕ
  first_by [] = 0
  first_by (x ∷ xs) = key x

  first-order_on : (x : A) (acc l : List A) → first_by (order_on key (x ∷ acc) l) ≡ least (key x ∷ map key l)
  first-order_on x acc [] = refl
  first-order_on x acc (y ∷ l) =
      cases (leb (key x) (key y))
      (λ e. rw e (first-order_on x (place key y acc) l ∙ least-without (key x) (key y) (map key l) (leb-true (key x) (key y) e)))
      (λ e. rw e (first-order_on y (x ∷ acc) l ∙ omega (arith, least-low (key y) (map key l), leb-false (key x) (key y) e)))

  -- in order the least is first
  pub first-order : (l : List A) → first_by (order key l) ≡ least (map key l)
  first-order [] = refl
  first-order (x ∷ l) = first-order_on x [] l

pub first-map : {A B : Type 0} (key : B → ℕ) (f : A → B) (l : List A) → first_by key (map f l) ≡ first_by (λ x. key (f x)) l
first-map key f [] = refl
first-map key f (x ∷ xs) = refl

-- ---- slots

-- one of the slots that pass a test
slot-among : (f : ℕ → ℕ) (p : ℕ → Bool) (i a n : ℕ) → a ≤ i → i < a + n → p i ≡ true → any (λ m. eqb m (f i)) (map f (keep p (slots_up a n))) ≡ true
slot-among f p i a zero low high e = absurd (omega arith)
slot-among f p i a (suc n) low high e =
    cases (eqb a i)
    (λ is.
    let q : p a ≡ true = ap p (eqb-true a i is) ∙ e in
    rw q (or_left (eqb (f a) (f i)) (any (λ m. eqb m (f i)) (map f (keep p (slots_up (suc a) n)))) (eq-eqb (f a) (f i) (ap f (eqb-true a i is)))))
    (λ other.
    let ne = eqb-false a i other in
    let rest = slot-among f p i (suc a) n (omega arith) (omega arith) e in
    cases (p a)
    (λ q. rw q (or_right (eqb (f a) (f i)) (any (λ m. eqb m (f i)) (map f (keep p (slots_up (suc a) n)))) rest))
    (λ q. rw q rest))

slots-in : (a n : ℕ) → All (λ j. (a ≤ j) × (j < a + n)) (slots_up a n)
slots-in a zero = tt
slots-in a (suc n) = ((omega arith, omega arith), all_map (λ j p. (omega (arith, p.0), omega (arith, p.1))) (slots_up (suc a) n) (slots-in (suc a) n))

-- a slot in a chain whose waits are all at least v
wait-high : (v j : ℕ) (l : List Link) → All (λ w. v ≤ w.wait) l → 0 < times_in l j → v ≤ wait_at j l
wait-high v j [] h p = absurd (omega arith)
wait-high v j (w ∷ ws) h p = cases (eqb w.slot j) (λ e. rw e h.0) (λ e. rw e (wait-high v j ws h.1 (rw e at p)))

-- ---- what it reads, on any table

no-link : (t : List ℕ) (n : ℕ) → links_from ByTicks t n 0 0 ≡ []
no-link t zero = refl
no-link t (suc n) = refl

one_link : (t : List ℕ) (n i : ℕ) → 1 ≤ n → 1 ≤ i → (ws : List Link) × (links_from ByTicks t n 0 i ≡ record { slot = i; wait = wait_of t i } ∷ ws)
one_link t zero i p q = absurd (omega arith)
one_link t (suc n) zero p q = absurd (omega arith)
one_link t (suc n) (suc i) p q =
    let wait : 0 + wait_of t (suc i) ≡ wait_of t (suc i) = omega arith in
    let ws : List Link = links_from ByTicks t n (0 + wait_of t (suc i)) (next_of t (suc i)) in
    (ws, ap {B = List Link} (λ (x : ℕ). record { slot = suc i; wait = x } ∷ ws) wait)

-- ---- on a sound table

sure : (b : Bool) → (b ≡ false → ⊥) → b ≡ true
sure true h = refl
sure false h = absurd (h refl)

module _ (t : List ℕ) (ok : sound t ≡ true) where
  abbrev i : ℕ
  i = first_ticking t

  abbrev chain : List Link
  chain = (read t).ticking

  -- how often a slot stands in the chain
  meets : (j : ℕ) → 1 ≤ j → j ≤ slot_count t → times_in chain j ≡ cond (waits_in ByTicks (kind_of t j)) 1 0
  meets j low high =
      (sound-well-formed t ok).chained.meets ByTicks j
      ∙ ap (λ (x : Slot). cond (waits_in ByTicks x.kind) 1 0) (slot_read t j low high)

  -- what the slot in word 5 is
  record First : Type 0 where
    low : 1 ≤ i
    high : i ≤ slot_count t
    waits : waits_in ByTicks (kind_of t i) ≡ true
    wait : 1 ≤ wait_of t i
    rest : List Link
    is : chain ≡ record { slot = i; wait = wait_of t i } ∷ rest

  first_slot : (i ≡ 0 → ⊥) → First
  first_slot n =
      let f = sound-well-formed t ok in
      let a = one_link t (slot_count t) i (sound-header t ok).some-slot (omega arith) in
      let y : Link = record { slot = i; wait = wait_of t i } in
      let place : (1 ≤ i) × (i ≤ length (read t).slots) = (subst (All (λ w. (0 < w.slot) × (w.slot ≤ length (read t).slots))) a.1 (in-slots (read t) f.chained ByTicks)).0 in
      let high : i ≤ slot_count t = omega (arith, slots_length t) in
      let met : times_in (y ∷ a.0) i ≡ cond (waits_in ByTicks (kind_of t i)) 1 0 =
      ap (λ (c : List Link). times_in c i) (sym a.1) ∙ meets i place.0 high in
      record {
        low = place.0;
        high = high;
        waits = cases (waits_in ByTicks (kind_of t i)) (λ e. e) (λ e. absurd (omega (arith, times-own y a.0, rw e at met)));
        wait = (subst (All (λ (w : Link). 1 ≤ w.wait)) a.1 f.ticks).0;
        rest = a.0;
        is = a.1;
      }

  none_first : i ≡ 0 → chain ≡ []
  none_first e = ap (links_from ByTicks t (slot_count t) 0) e ∙ no-link t (slot_count t)

  -- what is read is the first wait of the chain
  pub first_read : first_wait t ≡ first_by (λ w. w.wait) chain
  first_read =
      cases (eqb i 0)
      (λ e. rw e (ap (first_by (λ w. w.wait)) (sym (none_first (eqb-true i 0 e)))))
      (λ e. rw e (ap (first_by (λ w. w.wait)) (sym (first_slot (eqb-false i 0 e)).is)))

  -- it takes every sound table
  tests-pass : i ≤ slot_count t → (eqb i 0 || waits_in ByTicks (kind_of t i)) ≡ true → (eqb i 0 || ltb 0 (wait_of t i)) ≡ true → all_of (first_tests t) ≡ true
  tests-pass high waits wait =
      let h = sound-header t ok in
      all_true (first_tests t) (
        sure _ (λ e. omega (arith, leb-false, h.long)),
        (
          sure _ (λ e. omega (arith, leb-false, h.long)),
          (
            sure _ (λ e. omega (arith, leb-false, h.some-slot)),
            (sure _ (λ e. omega (arith, leb-false, h.few)), (sure _ (λ e. omega (arith, leb-false, high)), (waits, (wait, tt)))),
          ),
        ),
      )

  pub readable : all_of (first_tests t) ≡ true
  readable =
      cases (eqb i 0)
      (λ e. let z = eqb-true i 0 e in tests-pass (omega arith) (rw e) (rw e))
      (λ e.
      let f = first_slot (eqb-false i 0 e) in
      tests-pass f.high (or_right (eqb i 0) (waits_in ByTicks (kind_of t i)) f.waits)
      (or_right (eqb i 0) (ltb 0 (wait_of t i)) (lt-ltb 0 (wait_of t i) f.wait)))

  pub next-due-accepted : status_on t next_due ≡ 0
  next-due-accepted = status-is t next_due ∙ facts-accepted t (read t) next_due ok readable

  -- ---- ticks left of a waiting timer

  ticks-left-is : (j : ℕ) → 1 ≤ j → j ≤ slot_count t → waits_in ByTicks (kind_of t j) ≡ true → ticks_left_of t j ≡ wait_at j chain
  ticks-left-is j low high waits =
      let id = id_base + j in
      let index : index_of id ≡ j = omega arith in
      let alive : (slot_at (read t).slots (index_of id)).kind ≡ 0 → ⊥ = λ z.
      let kind : kind_of t j ≡ 0 = sym (ap (λ (k : ℕ). (slot_at (read t).slots k).kind) index ∙ ap (λ (x : Slot). x.kind) (slot_read t j low high)) ∙ z in
      clash (sym waits ∙ ap (waits_in ByTicks) kind) in
      let named : Named (read t) id = record { is = omega arith; low = omega arith; high = omega (arith, slots_length t); alive = alive } in
      let party = owner_of (party_split t) j in
      let own : owns (party_split t) party (index_of id) ≡ true = ap (owns (party_split t) party) index ∙ owner_owns (party_split t) j in
      let e : status_on t (ticks_left party id) ≡ 0 = status-is t (ticks_left party id) ∙ facts-accepted t (read t) (ticks_left party id) ok (named, own) in
      ap (λ (o : Outcome). first_number o.answer) (outcome-accepted t (ticks_left party id) e) ∙ ap (λ (k : ℕ). wait_at k chain) index

  least-left : least (map (ticks_left_of t) (waiting_for_ticks t)) ≡ first_wait t
  least-left =
      cases (eqb i 0)
      (λ e. rw e (none-waits (eqb-true i 0 e)))
      (λ e. rw e (some-wait (first_slot (eqb-false i 0 e))))
    where
      none-waits : i ≡ 0 → least (map (ticks_left_of t) (waiting_for_ticks t)) ≡ 0
      none-waits e =
          let out : (j : ℕ) → (1 ≤ j) × (j < 1 + slot_count t) → waits_in ByTicks (kind_of t j) ≡ false = λ j p.
          cases (waits_in ByTicks (kind_of t j))
          (λ f. absurd (let m : times_in chain j ≡ 1 = meets j p.0 (omega (arith, p.1)) ∙ rw f in
          omega (arith, m, ap (λ (l : List Link). times_in l j) (none_first e))))
          (λ f. f) in
          ap (λ (l : List ℕ). least (map (ticks_left_of t) l))
          (keep-none (λ j. waits_in ByTicks (kind_of t j)) (slots_up 1 (slot_count t)) (all_map out (slots_up 1 (slot_count t)) (slots-in 1 (slot_count t))))

      some-wait : First → least (map (ticks_left_of t) (waiting_for_ticks t)) ≡ wait_of t i
      some-wait f =
          let y : Link = record { slot = i; wait = wait_of t i } in
          let sorted = subst (Sorted (λ (w : Link). w.wait)) f.is ((sound-well-formed t ok).chained.rises ByTicks) in
          let high : All (λ (w : Link). wait_of t i ≤ w.wait) chain = subst (All (λ (w : Link). wait_of t i ≤ w.wait)) (sym f.is) (omega arith, sorted.0) in
          let own : ticks_left_of t i ≡ wait_of t i =
          ticks-left-is i f.low f.high f.waits ∙ ap (wait_at i) f.is ∙ rw (eq-eqb i i refl) in
          let each : (j : ℕ) → ((1 ≤ j) × (j < 1 + slot_count t)) × (waits_in ByTicks (kind_of t j) ≡ true) → wait_of t i ≤ ticks_left_of t j = λ j p.
          let below : j ≤ slot_count t = omega (arith, p.0.1) in
          let met : times_in chain j ≡ 1 = meets j p.0.0 below ∙ rw p.1 in
          omega (arith, ticks-left-is j p.0.0 below p.1, wait-high (wait_of t i) j chain high (omega (arith, met))) in
          let slots = slots_up 1 (slot_count t) in
          least-is (wait_of t i) (map (ticks_left_of t) (waiting_for_ticks t))
          (subst (λ (v : ℕ). any (λ m. eqb m v) (map (ticks_left_of t) (waiting_for_ticks t)) ≡ true) own
          (slot-among (ticks_left_of t) (λ j. waits_in ByTicks (kind_of t j)) i 1 (slot_count t) f.low (omega (arith, f.high)) f.waits))
          (all-mapped (ticks_left_of t) (λ m. wait_of t i ≤ m) (waiting_for_ticks t)
          (all_map each (waiting_for_ticks t)
          (all-zip (λ j. (1 ≤ j) × (j < 1 + slot_count t)) (λ j. waits_in ByTicks (kind_of t j) ≡ true) (waiting_for_ticks t)
          (all_keep (λ j. (1 ≤ j) × (j < 1 + slot_count t)) (λ j. waits_in ByTicks (kind_of t j)) slots (slots-in 1 (slot_count t)))
          (all-passed (λ j. waits_in ByTicks (kind_of t j)) slots))))

pub next-due-is-least : NextDueIsLeast
next-due-is-least t ok =
    outcome-accepted t next_due (next-due-accepted t ok) ∙ ap (λ (n : ℕ). outcome_of 0 (n ∷ []) t []) (sym (least-left t ok))

-- ---- on any table

-- its tests from the slice's length, N, word 5 and the kind and wait of that slot
abbrev tests_of : ℕ → ℕ → ℕ → ℕ → ℕ → Bool
tests_of long n i kind wait = all_of (
    leb 10 long ∷ leb (10 + 8 * n) long ∷ leb 1 n ∷ leb n 255 ∷ leb i n ∷ (eqb i 0 || waits_in ByTicks kind) ∷ (eqb i 0 || ltb 0 wait) ∷ [])

-- where word 5 names no slot neither kind nor wait is looked at
same_of : (long n i k v w x : ℕ) → (1 ≤ i → i ≤ n → (k ≡ v) × (w ≡ x)) → tests_of long n i k w ≡ tests_of long n i v x
same_of long n i k v w x same =
    cases (eqb i 0)
    (λ e. rw e)
    (λ e.
    let some = eqb-false i 0 e in
    cases (leb i n)
    (λ f. let p = same (omega arith) (leb-true i n f) in ap₂ (tests_of long n i) p.0 p.1)
    (λ f. rw f))

module _ (t u : List ℕ) (same : SameFirst t u) where
  same_tests : all_of (first_tests t) ≡ all_of (first_tests u)
  same_tests =
      let k = kind_of t (first_ticking t) in
      let w = wait_of t (first_ticking t) in
      (λ j. tests_of (same.long j) (same.count j) (same.head j) k w)
      ∙ same_of (length u) (slot_count u) (first_ticking u) k (kind_of u (first_ticking u)) w (wait_of u (first_ticking u)) (λ low high.
      let l : 1 ≤ first_ticking t = omega (arith, low, same.head) in
      let h : first_ticking t ≤ slot_count t = omega (arith, high, same.head, same.count) in
      (same.kind l h, same.wait l h))

  same-status : status_on t next_due ≡ status_on u next_due
  same-status =
      status-is t next_due ∙ ap {B = ℕ} (λ (b : Bool). cond (not b) 100 0) same_tests ∙ sym (status-is u next_due)

  same-wait : all_of (first_tests t) ≡ true → first_wait t ≡ first_wait u
  same-wait pass =
      let i = first_ticking t in
      let high = leb-true i (slot_count t) (all-at (first_tests t) pass 4) in
      cases (eqb i 0)
      (λ e. let z : eqb (first_ticking u) 0 ≡ true = ap (λ (n : ℕ). eqb n 0) (sym same.head) ∙ e in rw (e, z))
      (λ e.
      let z : eqb (first_ticking u) 0 ≡ false = ap (λ (n : ℕ). eqb n 0) (sym same.head) ∙ e in
      let some = eqb-false i 0 e in
      rw (e, z) (same.wait (omega arith) high))

pub next-due-reads-one-slot : NextDueReadsOneSlot
next-due-reads-one-slot t u same =
    let status = outcome-status t next_due ∙ same-status t u same ∙ sym (outcome-status u next_due) in
    cases (eqb (status_on t next_due) 0)
    (λ e.
    let z = eqb-true (status_on t next_due) 0 e in
    let o = outcome-accepted t next_due z in
    let p = outcome-accepted u next_due (sym (same-status t u same) ∙ z) in
    let wait = same-wait t u same (accepted-facts t (read t) next_due (sym (status-is t next_due) ∙ z)) in (
      status,
      ap (λ (o : Outcome). o.answer) o ∙ ap {B = List ℕ} (λ (n : ℕ). n ∷ []) wait ∙ sym (ap (λ (o : Outcome). o.answer) p),
      ap (λ (o : Outcome). o.table) o,
      ap (λ (o : Outcome). o.list) o,
    ))
    (λ e.
    let z = eqb-false (status_on t next_due) 0 e in
    let o = outcome-refused t next_due z in
    let p = outcome-refused u next_due (λ w. z (same-status t u same ∙ w)) in (
      status,
      ap (λ (o : Outcome). o.answer) o ∙ sym (ap (λ (o : Outcome). o.answer) p),
      ap (λ (o : Outcome). o.table) o,
      ap (λ (o : Outcome). o.list) o,
    ))

-- ---- what may be slept through

all-from-first : (l : List Link) → Sorted (λ w. w.wait) l → All (λ w. first_by (λ v. v.wait) l ≤ w.wait) l
all-from-first [] h = tt
all-from-first (w ∷ ws) h = (omega arith, h.0)

module _ (t : List ℕ) (ok : sound t ≡ true) (list : List ℕ) (ticked : (outcome t (tick list)).status ≡ 0) where
  abbrev now : State
  now = read t

  accepted : status_on t (tick list) ≡ 0
  accepted = sym (outcome-status t (tick list)) ∙ ticked

  answer-is : (outcome t next_due).answer ≡ first_wait t ∷ []
  answer-is = ap (λ (o : Outcome). o.answer) (outcome-accepted t next_due (next-due-accepted t ok))

  -- every wait of the chain is at least what is answered
  high : (n : ℕ) → (outcome t next_due).answer ≡ n ∷ [] → All (λ w. n ≤ w.wait) now.ticking
  high n e =
      let first : first_by (λ w. w.wait) now.ticking ≡ n = sym (first_read t ok) ∙ head-eq_of_cons-eq (sym answer-is ∙ e) in
      subst (λ (m : ℕ). All (λ w. m ≤ w.wait) now.ticking) first (all-from-first now.ticking ((sound-well-formed t ok).chained.rises ByTicks))

  -- Where next due answers two or more, an accepted tick neither fires nor queues an interval timer: all of them wait on, a tick nearer.
  pub sleeps-through : (n : ℕ) → (outcome t next_due).answer ≡ suc (suc n) ∷ [] → links ByTicks (outcome t (tick list)).table ≡ map closer (links ByTicks t)
  sleeps-through n e =
      let near = nearer now in
      let clock = clock_step now.clock in
      let near-chained = chained-nearer now (sound-holds t ok).chained in
      let later = with_clock (fire ByTicks 0 near) clock in
      let none : due ByTicks 0 near ≡ [] =
      keep-none (λ w. leb w.wait 0) near.ticking (all-mapped closer (λ w. leb w.wait 0 ≡ false) now.ticking
      (all_map (λ w p. lt-leb (w.wait - 1) 0 (omega (arith, p))) now.ticking (high (suc (suc n)) e))) in
      let all : keep (λ w. ltb 0 w.wait) near.ticking ≡ near.ticking =
      keep_all (λ w. ltb 0 w.wait) near.ticking (all-mapped closer (λ w. ltb 0 w.wait ≡ true) now.ticking
      (all_map (λ w p. lt-ltb 0 (w.wait - 1) (omega (arith, p))) now.ticking (high (suc (suc n)) e))) in
      ap (links ByTicks) (table-left t ok (tick list) accepted)
      ∙ links-is (written_over (fire ByDate clock.second later) t) (fire ByDate clock.second later) (effect-holds t ok (tick list) accepted) ByTicks
      ∙ fire-elsewhere ByDate clock.second later
      (chained-with-clock (fire ByTicks 0 near) clock (chained-fire ByTicks 0 near near-chained)) ByTicks dated-not-again refl
      ∙ ap (λ (d : List Link). (go_on d (with_chain ByTicks near (fired_all d near.slots) (keep (λ w. ltb 0 w.wait) near.ticking))).ticking) none
      ∙ all

  -- And then it answers one less.
  pub next-due-falls : (n : ℕ) → (outcome t next_due).answer ≡ suc (suc n) ∷ [] → (outcome (outcome t (tick list)).table next_due).answer ≡ suc n ∷ []
  next-due-falls n e =
      let u = (outcome t (tick list)).table in
      let fine : sound u ≡ true = ap sound (table-left t ok (tick list) accepted) ∙ effect-sound t ok (tick list) accepted in
      let first : first_by (λ w. w.wait) now.ticking ≡ suc (suc n) = sym (first_read t ok) ∙ head-eq_of_cons-eq (sym answer-is ∙ e) in
      ap (λ (o : Outcome). o.answer) (outcome-accepted u next_due (next-due-accepted u fine))
      ∙ ap {B = List ℕ} (λ (m : ℕ). m ∷ [])
      (first_read u fine ∙ ap (first_by (λ w. w.wait)) (sleeps-through n e) ∙ first-map (λ w. w.wait) closer now.ticking ∙ one_less now.ticking first)
    where
      one_less : (l : List Link) → first_by (λ w. w.wait) l ≡ suc (suc n) → first_by (λ w. w.wait - 1) l ≡ suc n
      one_less [] e = absurd (omega arith)
      one_less (w ∷ ws) e = omega arith

  -- Where it answers 1, the timer in word 5 is the first that is due in the tick.
  pub wakes : (outcome t next_due).answer ≡ 1 ∷ [] → first (due ByTicks 0 (nearer now)) ≡ first_ticking t
  wakes e =
      let wait : first_wait t ≡ 1 = head-eq_of_cons-eq (sym answer-is ∙ e) in
      cases (eqb (first_ticking t) 0)
      (λ z. absurd (omega (arith, let none : first_wait t ≡ 0 = rw z in none, wait)))
      (λ z.
      let f = first_slot t ok (eqb-false (first_ticking t) 0 z) in
      let now-due : wait_of t (first_ticking t) ≡ 1 = sym (let is : first_wait t ≡ wait_of t (first_ticking t) = rw z in is) ∙ wait in
      ap (λ (l : List Link). first (keep (λ w. leb w.wait 0) (map closer l))) f.is ∙ rw now-due)
