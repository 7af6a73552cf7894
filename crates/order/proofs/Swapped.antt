-- Item 14: two lines on two different ids in either order. Each is a change of one slot (Commute) and reads nothing that a change of another slot touches
-- (Lines); the tables are then one state written over the same words. Assumes nothing.
use mathlib.Core.Path.{◌≡◌, refl, sym, ap, ap₂, ◌∙◌}
use Prim.Native.Nat.{ℕ}
use native.Mathlib.Omega.{arith}
use mathlib.Core.Bool.{Bool, true, false, cond, not, ◌&&◌, ◌||◌}
use mathlib.Core.Option.{Option, none, some}
use mathlib.Core.List.{List, [], ◌∷◌}
use lib.ListN.{length}
use lib.Dec.{eqb}
use borrow.Author.Tests.{eqb-true, eqb-false, eq-eqb, not-true}
use Rattle.calendar.specs.Calendar.{all_of}
use Rattle.model.specs.Status.{first_of}
use Rattle.model.specs.Calls.{Call}
use Rattle.model.specs.declared.Chain.{Chain}
use Rattle.model.specs.declared.Chain.TheVariants.{ByTicks, ByDate, Queue}
use Rattle.model.specs.Kinds.{same_chain, waits_in}
use Rattle.model.specs.State.{Slot, State, chain_of, slot_at, wait_at, index_of}
use Rattle.model.specs.Directives.{refusals, effect}
use Rattle.model.specs.Words.{written_over, read}
use Rattle.model.specs.Sound.{sound}
use Rattle.model.specs.Outcome.{Outcome, status_on, outcome}
use Rattle.laws.proofs.ListLaws.{cases, clash, both, all-at}
use Rattle.laws.proofs.KindLaws.{same-chain, own-chain}
use Rattle.laws.proofs.ReadBack.{over-over}
use Rattle.laws.proofs.SoundHolds.{sound-holds}
use Rattle.laws.proofs.AcceptedCalls.{Named, accepted-facts}
use Rattle.laws.proofs.KeptWellFormed.{slots_kept}
use Rattle.laws.proofs.OutcomeLaws.{status-is, outcome-refused, outcome-status}
use Rattle.laws.proofs.CallTables.{effect-sound, table-left, state-left}
use Rattle.order.specs.Order.{line_of, changes_timer, on_two_ids, left_by, starts_timer, stands_in, due_together, same_due, OrderOfLines, OrderShows}
use Rattle.order.specs.Deadlines.{Deadline, deadline_of, deadline_on, same_deadline, KnownBefore}
use Rattle.order.proofs.Commute.{Apart, changed, changed-count, changed-slot, other-slot, changed-wait, other-wait, Rising, commute, commute-shows}
use Rattle.order.proofs.Lines.{Changes, changes, cancels, deletes, starts-after, starts-when, starts-every, server-after, server-when, resets, new_slot, no-lay-out, never, effect-changed, unsound-refused, names-timer, stands-where, not-queued, Alike, alike-changed, alike-rules, alike-deadline}

-- ---- one call on a table of words

module _ (t : List ℕ) {d : Call} {j : ℕ} (w : Changes d j) where
  -- the state that d leaves where it is accepted
  abbrev later : State
  later = (effect t (read t) d).state

  -- what d makes of its slot
  abbrev pub made : Slot
  made = new_slot w (slot_at (read t).slots (index_of j))

  pub refused-leaves : (status_on t d ≡ 0 → ⊥) → (outcome t d).table ≡ t
  refused-leaves e = ap (λ (o : Outcome). o.table) (outcome-refused t d e)

  module _ (e : status_on t d ≡ 0) where
    pub is-sound : sound t ≡ true
    is-sound =
        cases (sound t) (λ f. f)
        (λ f. let z : status_on t d ≡ 100 = status-is t d ∙ unsound-refused t (read t) w f in absurd (omega arith))

    rises : Rising (read t)
    rises = (sound-holds t is-sound).chained.rises

    still-sound : sound (outcome t d).table ≡ sound t
    still-sound = ap sound (table-left t is-sound d e) ∙ effect-sound t is-sound d e ∙ sym is-sound

    is-named : Named (read t) j
    is-named = names-timer t (read t) w (accepted-facts t (read t) d (sym (status-is t d) ∙ e))

    -- another id has another index
    other-index : (i : ℕ) → (i ≡ j → ⊥) → index_of i ≡ index_of j → ⊥
    other-index i n q = let low = is-named.low in omega arith

    -- what a call on another id reads is left as it was
    alike : (i : ℕ) → (i ≡ j → ⊥) → Alike (read t) later (index_of i)
    alike i n = rw (effect-changed t (read t) w) (alike-changed (read t) (index_of i) (index_of j) made (deadline_of (read t) d) (other-index i n))

    starts-here : deadline_on t d ≡ deadline_of (read t) d
    starts-here = ap (λ (b : Bool). cond b (deadline_of (read t) d) none) (eq-eqb (outcome t d).status 0 (outcome-status t d ∙ e))

  -- where a call starts a timer it is accepted
  starts-accepted : (x : Deadline) → deadline_on t d ≡ some x → status_on t d ≡ 0
  starts-accepted x p =
      cases (eqb (status_on t d) 0) (λ f. eqb-true (status_on t d) 0 f)
      (λ f. let o : eqb (outcome t d).status 0 ≡ false = ap (λ (m : ℕ). eqb m 0) (outcome-status t d) ∙ f in never (rw o at p))

  -- the status of a call on another id is the same after d
  pub same-status : {c : Call} {i : ℕ} → Changes c i → (i ≡ j → ⊥) → status_on (outcome t d).table c ≡ status_on t c
  same-status {c} {i} v n =
      cases (eqb (status_on t d) 0)
      (λ f.
      let e = eqb-true (status_on t d) 0 f in
      status-is (outcome t d).table c
      ∙ ap (λ (s : State). first_of (refusals (outcome t d).table s c)) (state-left t (is-sound e) d e)
      ∙ ap first_of (alike-rules t (outcome t d).table (read t) later (still-sound e) v (alike e i n))
      ∙ sym (status-is t c))
      (λ f. ap (λ (u : List ℕ). status_on u c) (refused-leaves (eqb-false (status_on t d) 0 f)))

-- ---- two calls

module _ (t : List ℕ) {c d : Call} {i j : ℕ} (v : Changes c i) (w : Changes d j) (n : i ≡ j → ⊥) where
  -- the first is refused: it is refused after the other too
  refused-first : (status_on t c ≡ 0 → ⊥) → left_by t c d ≡ left_by t d c
  refused-first e =
      ap (λ (u : List ℕ). (outcome u d).table) (refused-leaves t v e)
      ∙ sym (refused-leaves (outcome t d).table v (λ z. e (sym (same-status t w v n) ∙ z)))

  module _ (e : status_on t c ≡ 0) (f : status_on t d ≡ 0) where
    other-id : j ≡ i → ⊥
    other-id q = n (sym q)

    -- the state that was read, with the first change, and with both
    abbrev one : State
    one = changed (read t) (index_of i) (made t v) (deadline_of (read t) c)

    abbrev two : State
    two = changed one (index_of j) (made t w) (deadline_of (read t) d)

    accepted-after : status_on (outcome t c).table d ≡ 0
    accepted-after = same-status t v w other-id ∙ f

    state-twice : (effect (outcome t c).table (later t v) d).state ≡ two
    state-twice =
        let s = later t v in
        let same = alike t v e j other-id in
        effect-changed (outcome t c).table s w
        ∙ ap₂ (λ (x : Slot) (b : Option Deadline). changed s (index_of j) (new_slot w x) b) same.slot (alike-deadline (read t) s w same)
        ∙ ap (λ (u : State). changed u (index_of j) (made t w) (deadline_of (read t) d)) (effect-changed t (read t) v)

    effect-twice : (effect (outcome t c).table (read (outcome t c).table) d).state ≡ two
    effect-twice = ap (λ (s : State). (effect (outcome t c).table s d).state) (state-left t (is-sound t v e) c e) ∙ state-twice

    reads-twice : read (left_by t c d) ≡ two
    reads-twice = state-left (outcome t c).table (still-sound t v e ∙ is-sound t v e) d accepted-after ∙ effect-twice

    table-twice : left_by t c d ≡ written_over two t
    table-twice =
        table-left (outcome t c).table (still-sound t v e ∙ is-sound t v e) d accepted-after
        ∙ ap₂ (λ (s : State) (u : List ℕ). written_over s u) effect-twice (table-left t (is-sound t v e) c e)
        ∙ over-over (later t v) two t
        (changed-count one (index_of j) (made t w) (deadline_of (read t) d)
        ∙ changed-count (read t) (index_of i) (made t v) (deadline_of (read t) c) ∙ sym (slots_kept t (read t) c (no-lay-out v)))

    -- the timers that they start, in that state
    module _ (x y : Deadline) (p : deadline_of (read t) c ≡ some x) (q : deadline_of (read t) d ≡ some y) where
      apart : index_of i ≡ index_of j → ⊥
      apart = other-index t w f i n

      first-stands : (k : Chain) → stands_in k (read (left_by t c d)) i ≡ same_chain k x.chain
      first-stands k =
          ap (λ (s : State). stands_in k s i) reads-twice
          ∙ ap (λ (z : Slot). waits_in k z.kind)
          (other-slot one (index_of j) (made t w) (deadline_of (read t) d) (index_of i) apart
          ∙ changed-slot (read t) (index_of i) (made t v) (deadline_of (read t) c) (is-named t v e).low (is-named t v e).high)
          ∙ stands-where t (read t) v x p k

      second-stands : (k : Chain) → stands_in k (read (left_by t c d)) j ≡ same_chain k y.chain
      second-stands k =
          let many : length one.slots ≡ length (read t).slots = changed-count (read t) (index_of i) (made t v) (deadline_of (read t) c) in
          ap (λ (s : State). stands_in k s j) reads-twice
          ∙ ap (λ (z : Slot). waits_in k z.kind)
          (changed-slot one (index_of j) (made t w) (deadline_of (read t) d) (is-named t w f).low (rw many (is-named t w f).high))
          ∙ stands-where t (read t) w y q k

      first-waits : wait_at (index_of i) (chain_of x.chain (read (left_by t c d))) ≡ x.number
      first-waits =
          ap (λ (s : State). wait_at (index_of i) (chain_of x.chain s)) reads-twice
          ∙ other-wait one (index_of j) (made t w) (deadline_of (read t) d) x.chain (index_of i) apart
          ∙ ap (λ (a : Option Deadline). wait_at (index_of i) (chain_of x.chain (changed (read t) (index_of i) (made t v) a))) p
          ∙ changed-wait (read t) (index_of i) (made t v) x

      second-waits : wait_at (index_of j) (chain_of y.chain (read (left_by t c d))) ≡ y.number
      second-waits =
          ap (λ (s : State). wait_at (index_of j) (chain_of y.chain s)) reads-twice
          ∙ ap (λ (b : Option Deadline). wait_at (index_of j) (chain_of y.chain (changed one (index_of j) (made t w) b))) q
          ∙ changed-wait one (index_of j) (made t w) y

-- ---- the exception, before and after

-- a timer that stands in one chain, and another, each with its number there: due together in the interval chain or in the dated one
together : (a b : Chain) → same_chain Queue a ≡ false → same_chain Queue b ≡ false → (m n : ℕ) (f g : Chain → ℕ) → f a ≡ m → g b ≡ n
    → (all_of (same_chain ByTicks a ∷ same_chain ByTicks b ∷ eqb (f ByTicks) (g ByTicks) ∷ [])
    || all_of (same_chain ByDate a ∷ same_chain ByDate b ∷ eqb (f ByDate) (g ByDate) ∷ [])) ≡ (same_chain a b && eqb m n)
together Queue b p q m n f g e h = clash p
together ByTicks Queue p q m n f g e h = clash q
together ByDate Queue p q m n f g e h = clash q
together ByTicks ByDate p q m n f g e h = refl
together ByDate ByTicks p q m n f g e h = refl
together ByTicks ByTicks p q m n f g e h = rw (e, h) (cases (eqb m n) (λ z. rw z) (λ z. rw z))
together ByDate ByDate p q m n f g e h = rw (e, h) (cases (eqb m n) (λ z. rw z) (λ z. rw z))

abbrev is_due : Option Deadline → Bool
is_due none = false
is_due (some x) = true

starts-due : (s : State) {c : Call} {i : ℕ} → Changes c i → (line_of c).starts ≡ is_due (deadline_of s c)
starts-due s cancels = refl
starts-due s deletes = refl
starts-due s starts-after = refl
starts-due s starts-when = refl
starts-due s starts-every = refl
starts-due s server-after = refl
starts-due s server-when = refl
starts-due s resets = refl

starts-known : (t : List ℕ) {c : Call} {i : ℕ} → Changes c i → starts_timer t c ≡ is_due (deadline_on t c)
starts-known t {c} v =
    cases (eqb (outcome t c).status 0)
    (λ e. rw (e, starts-due (read t) v) (cases (is_due (deadline_of (read t) c)) (λ z. rw z) (λ z. rw z)))
    (λ e. rw e (cases (line_of c).starts (λ z. rw z) (λ z. rw z)))

module _ (t : List ℕ) (c d : Call) (ids : on_two_ids c d ≡ true) where
  abbrev ids-tests : List Bool
  ids-tests = changes_timer c ∷ changes_timer d ∷ not (eqb (line_of c).id (line_of d).id) ∷ []

  first-line : Changes c (line_of c).id
  first-line = changes c (all-at ids-tests ids 0)

  second-line : Changes d (line_of d).id
  second-line = changes d (all-at ids-tests ids 1)

  ids-differ : (line_of c).id ≡ (line_of d).id → ⊥
  ids-differ = eqb-false (line_of c).id (line_of d).id (not-true (eqb (line_of c).id (line_of d).id) (all-at ids-tests ids 2))

  known : (a b : Option Deadline) → deadline_on t c ≡ a → deadline_on t d ≡ b → same_due t c d ≡ same_deadline a b
  known none b p q = rw (starts-known t first-line) (rw p)
  known (some x) none p q = rw (starts-known t first-line, starts-known t second-line) (rw (p, q))
  known (some x) (some y) p q =
      let v = first-line in
      let w = second-line in
      let n = ids-differ in
      let e = starts-accepted t v x p in
      let f = starts-accepted t w y q in
      let a : deadline_of (read t) c ≡ some x = sym (starts-here t v e) ∙ p in
      let b : deadline_of (read t) d ≡ some y = sym (starts-here t w f) ∙ q in
      let u = read (left_by t c d) in
      let i = (line_of c).id in
      let j = (line_of d).id in
      let both-start : same_due t c d ≡ ((due_together ByTicks u i j || due_together ByDate u i j) && true) =
      ap₂ (λ (one two : Bool). all_of (one ∷ two ∷ (due_together ByTicks u i j || due_together ByDate u i j) ∷ []))
      (starts-known t v ∙ ap is_due p) (starts-known t w ∙ ap is_due q) in
      let stand : (due_together ByTicks u i j || due_together ByDate u i j) ≡ same_deadline (some x) (some y) =
      rw (
        first-stands t v w n e f x y a b ByTicks,
        first-stands t v w n e f x y a b ByDate,
        second-stands t v w n e f x y a b ByTicks,
        second-stands t v w n e f x y a b ByDate,
      )
      (together x.chain y.chain (not-queued t (read t) v x a) (not-queued t (read t) w y b) x.number y.number
      (λ k. wait_at (index_of i) (chain_of k u)) (λ k. wait_at (index_of j) (chain_of k u))
      (first-waits t v w n e f x y a b) (second-waits t v w n e f x y a b)) in
      both-start ∙ rw stand (cases (same_deadline (some x) (some y)) (λ z. rw z) (λ z. rw z))

  -- not the same deadline, or the same
  deadlines-apart : same_due t c d ≡ false → Apart (deadline_on t c) (deadline_on t d)
  deadlines-apart e x p q = clash (sym (rw (own-chain x.chain, eq-eqb x.number x.number refl) at (known (some x) (some x) p q)) ∙ e)

  one-deadline : (a b : Option Deadline) → same_deadline a b ≡ true → (x : Deadline) × (a ≡ some x) × (b ≡ some x)
  one-deadline none b e = clash (sym e)
  one-deadline (some x) none e = clash (sym e)
  one-deadline (some x) (some y) e =
      let z = both (same_chain x.chain y.chain) (eqb x.number y.number) e in
      let chains : y.chain ≡ x.chain = sym (same-chain x.chain y.chain z.0) in
      let numbers : y.number ≡ x.number = sym (eqb-true x.number y.number z.1) in
      (x, refl, ap {B = Option Deadline} some (λ k. record { chain = chains k; number = numbers k }))

pub known-before : KnownBefore
known-before t c d ids = known t c d ids (deadline_on t c) (deadline_on t d) refl refl

-- ---- either order

module _ (t : List ℕ) (c d : Call) (ids : on_two_ids c d ≡ true) where
  abbrev v : Changes c (line_of c).id
  v = first-line t c d ids

  abbrev w : Changes d (line_of d).id
  w = second-line t c d ids

  abbrev n : (line_of c).id ≡ (line_of d).id → ⊥
  n = ids-differ t c d ids

  -- The statuses are the same in either order, whatever the lines start.
  pub first-status : (outcome t c).status ≡ (outcome (outcome t d).table c).status
  first-status = outcome-status t c ∙ sym (outcome-status (outcome t d).table c ∙ same-status t w v n)

  pub second-status : (outcome (outcome t c).table d).status ≡ (outcome t d).status
  second-status = outcome-status (outcome t c).table d ∙ same-status t v w (λ q. n (sym q)) ∙ sym (outcome-status t d)

  same_tables : same_due t c d ≡ false → left_by t c d ≡ left_by t d c
  same_tables except =
      let m : (line_of d).id ≡ (line_of c).id → ⊥ = λ q. n (sym q) in
      cases (eqb (status_on t c) 0)
      (λ f. cases (eqb (status_on t d) 0)
      (λ g.
      let e = eqb-true (status_on t c) 0 f in
      let z = eqb-true (status_on t d) 0 g in
      table-twice t v w n e z
      ∙ ap (λ (s : State). written_over s t) (commute (read t) (rises t v e) (index_of (line_of c).id) (index_of (line_of d).id)
      (other-index t w z (line_of c).id n) (made t v) (made t w) (deadline_of (read t) c) (deadline_of (read t) d)
      (λ x p q. deadlines-apart t c d ids except x (starts-here t v e ∙ p) (starts-here t w z ∙ q)))
      ∙ sym (table-twice t w v m z e))
      (λ g. sym (refused-first t w v m (eqb-false (status_on t d) 0 g))))
      (λ f. refused-first t v w n (eqb-false (status_on t c) 0 f))

pub order-of-lines : OrderOfLines
order-of-lines t c d ids except = record {
  tables = same_tables t c d ids except;
  first-status = first-status t c d ids;
  second-status = second-status t c d ids;
}

-- two timers with one deadline
order-seen : (t : List ℕ) {c d : Call} {i j : ℕ} (v : Changes c i) (w : Changes d j) (n : i ≡ j → ⊥) (e : status_on t c ≡ 0) (f : status_on t d ≡ 0)
    (x : Deadline) → deadline_of (read t) c ≡ some x → deadline_of (read t) d ≡ some x → left_by t c d ≡ left_by t d c → ⊥
order-seen t {c} {d} {i} {j} v w n e f x p q tables =
    let both : two t v w n e f ≡ two t w v (λ z. n (sym z)) f e =
    sym (reads-twice t v w n e f) ∙ ap read tables ∙ reads-twice t w v (λ z. n (sym z)) f e in
    commute-shows (read t) (rises t v e) (index_of i) (index_of j) (other-index t w f i n) (made t v) (made t w) x (rw (p, q) at both)

pub order-shows : OrderShows
order-shows t c d ids except tables =
    let (x, p, q) = one-deadline t c d ids (deadline_on t c) (deadline_on t d) (sym (known-before t c d ids) ∙ except) in
    let e = starts-accepted t (v t c d ids) x p in
    let f = starts-accepted t (w t c d ids) x q in
    order-seen t (v t c d ids) (w t c d ids) (n t c d ids) e f x (sym (starts-here t (v t c d ids) e) ∙ p) (sym (starts-here t (w t c d ids) f) ∙ q) tables
