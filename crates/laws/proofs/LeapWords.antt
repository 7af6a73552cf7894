-- A leap on the words of a table: which number it is refused with; its table, list and count are those of that many single ticks; a leap that does
-- all its ticks without firing or queueing, followed by another, is one leap; and where it fired or queued, a longer one is the same. Assumes nothing.
use mathlib.Core.Path.{◌≡◌, refl, sym, ap, ap₂, ◌∙◌, subst}
use Prim.Native.Nat.{ℕ, zero, suc, ◌+◌, ◌*◌, ◌≤◌, ◌<◌}
use native.Mathlib.Omega.{arith}
use mathlib.Core.Bool.{Bool, true, false, cond, not}
use mathlib.Core.List.{List, [], ◌∷◌, map}
use lib.ListN.{length, replicate}
use lib.Dec.{leb, ltb}
use borrow.Author.Tests.{eqb-false}
use Rattle.model.specs.declared.Status.TheVariants.{NotSound, ListTooShort, InvalidNumber}
use Rattle.model.specs.Status.{when, first_of}
use Rattle.model.specs.Calls.{tick, leap}
use Rattle.model.specs.declared.Chain.TheVariants.{Queue}
use Rattle.model.specs.State.{Slot, Link, State, listed}
use Rattle.model.specs.Directives.{is_short, most_leap, without_server, ticked_once, due_in_tick, Leapt, is_quiet, leapt}
use Rattle.model.specs.Words.{written_over, links, read, slot_count}
use Rattle.model.specs.Sound.{sound}
use Rattle.model.specs.Outcome.{Outcome, outcome_of, status_on, accepted, written, outcome, after, ticks_done, first_number}
use Rattle.model.specs.Leap.{TickGives, EmptyTick, Leaps, with_ticks_before, LeapsAdd, LeapTakes, LeapIsItsTicks}
use Rattle.laws.proofs.ListLaws.{cases, not-leb}
use Rattle.laws.proofs.ReadBack.{slots_length, over-over}
use Rattle.laws.proofs.SoundHolds.{sound-holds}
use Rattle.laws.proofs.AcceptedCalls.{LongEnough, accepted-facts, facts-accepted}
use Rattle.laws.proofs.LeapLaws.{leapt-on, leapt-stops, AllQuiet, all_quiet, leapt-add, leapt-quiet, leapt-longer, quiet-queue, quiet-fired, tick-queues}
use Rattle.laws.proofs.KeptWellFormed.{tick-slots, leap-slots}
use Rattle.laws.proofs.OutcomeLaws.{status-is, outcome-accepted, outcome-status}
use Rattle.laws.proofs.CallTables.{effect-sound, table-left, state-left}

-- ---- on any table: 100, then 101, then 10

in_order : (a b c : Bool)
    → first_of (when NotSound (not a) ∷ when ListTooShort b ∷ when InvalidNumber (not c) ∷ []) ≡ cond a (cond b 101 (cond c 0 10)) 100
in_order true true true = refl
in_order true true false = refl
in_order true false true = refl
in_order true false false = refl
in_order false true true = refl
in_order false true false = refl
in_order false false true = refl
in_order false false false = refl

pub leap-status : (t : List ℕ) (k : ℕ) (list : List ℕ) → status_on t (leap k list)
    ≡ cond (sound t) (cond (ltb (length list) (3 * slot_count t)) 101 (cond (leb k 1000000) 0 10)) 100
leap-status t k list =
    status-is t (leap k list)
    ∙ ap (λ (b : Bool). first_of (when NotSound (not (sound t)) ∷ when ListTooShort (is_short (read t) list) ∷ when InvalidNumber b ∷ [])) (not-leb k 1000000)
    ∙ in_order (sound t) (is_short (read t) list) (leb k 1000000)
    ∙ ap (λ (n : ℕ). cond (sound t) (cond (ltb (length list) (3 * n)) 101 (cond (leb k 1000000) 0 10)) 100) (slots_length t)

-- ---- where a tick is accepted

-- the table is sound and the list is long enough
pub record Ready (list t : List ℕ) : Type 0 where
  pub is-sound : sound t ≡ true
  pub long : LongEnough (read t) list

module _ (list : List ℕ) where
  -- ---- one tick

  module _ (t : List ℕ) (r : Ready list t) where
    abbrev s : State
    s = read t

    -- the timers that fire in it
    abbrev firing : List Link
    firing = without_server s.slots (due_in_tick s)

    pub tick-status : status_on t (tick list) ≡ 0
    tick-status = status-is t (tick list) ∙ facts-accepted t s (tick list) r.is-sound r.long

    tick_is : outcome t (tick list) ≡ accepted t (tick list)
    tick_is = outcome-accepted t (tick list) tick-status

    abbrev next : List ℕ
    next = (outcome t (tick list)).table

    next-is : next ≡ written_over (ticked_once s) t
    next-is = table-left t r.is-sound (tick list) tick-status

    next-read : read next ≡ ticked_once s
    next-read = state-left t r.is-sound (tick list) tick-status

    pub next-ready : Ready list next
    next-ready = record {
      is-sound = ap sound next-is ∙ effect-sound t r.is-sound (tick list) tick-status;
      long = omega (arith, ap (λ (z : State). length z.slots) next-read, tick-slots s, r.long);
    }

    -- what it answers, and the list that it leaves
    tick_gives : (count : ℕ) → length firing ≡ count → TickGives t list count (written (map (listed s.slots) firing) list)
    tick_gives count e = record {
      accepted = ap (λ (o : Outcome). o.status) tick_is;
      counts = ap (λ (o : Outcome). o.answer) tick_is ∙ ap {B = List ℕ} (λ (n : ℕ). n ∷ []) e;
      leaves = ap (λ (o : Outcome). o.list) tick_is;
    }

    empty-tick : is_quiet s ≡ true → EmptyTick t list
    empty-tick e = (
      subst (TickGives t list 0) (ap (λ (l : List Link). written (map (listed s.slots) l) list) (quiet-fired s e))
          (tick_gives 0 (ap length (quiet-fired s e))),
      ap (λ (z : State). z.queue) next-read ∙ quiet-queue s e,
    )

  -- ---- a leap

  module _ (k : ℕ) (few : k ≤ most_leap) (t : List ℕ) (r : Ready list t) where
    leap-accepted : status_on t (leap k list) ≡ 0
    leap-accepted = status-is t (leap k list) ∙ facts-accepted t (read t) (leap k list) r.is-sound (r.long, few)

    leap-is : outcome t (leap k list) ≡ accepted t (leap k list)
    leap-is = outcome-accepted t (leap k list) leap-accepted

    leap-read : read (outcome t (leap k list)).table ≡ (leapt k (read t)).state
    leap-read = state-left t r.is-sound (leap k list) leap-accepted

  -- by none
  leap-none : (few : 0 ≤ most_leap) (t : List ℕ) → Ready list t → Leaps t 0 list
  leap-none few t r =
      let is = leap-is 0 few t r in
      record {
        count = 0;
        done = 0;
        answer = ap (λ (o : Outcome). o.answer) is;
        table = ap (λ (o : Outcome). o.table) is ∙ (sound-holds t r.is-sound).is;
        empty = λ m p. absurd (omega arith);
        last = λ m p. absurd (omega arith);
        still = λ e. (refl, ap (λ (o : Outcome). o.list) is);
        within = omega arith;
        stops = λ e q. refl;
      }

  -- what comes of an accepted leap
  abbrev left_by : List ℕ → Leapt → Outcome
  left_by t l = outcome_of 0 (length l.fired ∷ l.done ∷ []) (written_over l.state t) (written (map (listed (read t).slots) l.fired) list)

  -- an empty leap, and then another, are one
  module _ (a b : ℕ) (few : a + b ≤ most_leap) (t : List ℕ) (r : Ready list t) (z : AllQuiet a (read t)) where
    abbrev u : List ℕ
    u = (outcome t (leap a list)).table

    few-a : a ≤ most_leap
    few-a = omega arith

    few-b : b ≤ most_leap
    few-b = omega arith

    u-is : u ≡ written_over (leapt a (read t)).state t
    u-is = ap (λ (o : Outcome). o.table) (leap-is a few-a t r)

    u-read : read u ≡ (leapt a (read t)).state
    u-read = leap-read a few-a t r

    u-ready : Ready list u
    u-ready = record {
      is-sound = ap sound u-is ∙ effect-sound t r.is-sound (leap a list) (leap-accepted a few-a t r);
      long = omega (arith, ap (λ (x : State). length x.slots) u-read, leap-slots a (read t), r.long);
    }

    u-list : (outcome t (leap a list)).list ≡ list
    u-list =
        ap (λ (o : Outcome). o.list) (leap-is a few-a t r)
        ∙ ap (λ (l : List Link). written (map (listed (read t).slots) l) list) (leapt-quiet a (read t) z).0

    together : outcome t (leap (a + b) list) ≡ with_ticks_before a (outcome u (leap b list))
    together =
        let rest = leapt b (leapt a (read t)).state in
        let same = ap (leapt b) u-read in
        let slots : (read u).slots ≡ (read t).slots = ap (λ (x : State). x.slots) u-read ∙ (leapt-quiet a (read t) z).1 in
        let table : written_over rest.state t ≡ written_over (leapt b (read u)).state u =
        sym (ap₂ (λ (l : Leapt) (w : List ℕ). written_over l.state w) same u-is
        ∙ over-over (leapt a (read t)).state rest.state t (leap-slots b (leapt a (read t)).state)) in
        let list-is : written (map (listed (read t).slots) rest.fired) list ≡ written (map (listed (read u).slots) (leapt b (read u)).fired) list =
        ap₂ (λ (x : List Slot) (l : Leapt). written (map (listed x) l.fired) list) (sym slots) (sym same) in
        leap-is (a + b) few t r ∙ ap (left_by t) (leapt-add a b (read t) z)
        ∙ (λ j. outcome_of 0 (length (sym same j).fired ∷ (a + (sym same j).done) ∷ []) (table j) (list-is j))
        ∙ ap (with_ticks_before a) (sym (leap-is b few-b u u-ready))

  -- ---- that many single ticks

  -- the first one is empty
  module _ (k : ℕ) (few : suc k ≤ most_leap) (t : List ℕ) (r : Ready list t) (e : is_quiet (read t) ≡ true) (l : Leaps (next t r) k list) where
    one_table : (outcome t (leap 1 list)).table ≡ next t r
    one_table =
        ap (λ (o : Outcome). o.table) (leap-is 1 (omega arith) t r) ∙ ap (λ (x : Leapt). written_over x.state t) (leapt-on 0 (read t) e) ∙ sym (next-is t r)

    one-and-rest : outcome t (leap (suc k) list) ≡ with_ticks_before 1 (outcome (next t r) (leap k list))
    one-and-rest =
        let n : suc k ≡ 1 + k = omega arith in
        ap (λ (m : ℕ). outcome t (leap m list)) n ∙ together 1 k (omega arith) t r (e, tt)
        ∙ ap (λ (w : List ℕ). with_ticks_before 1 (outcome w (leap k list))) one_table

    more-ticks : Leaps t (suc k) list
    more-ticks =
        let is = one-and-rest in
        let d = l.done in
        let one : 1 + d ≡ suc d = omega arith in
        record {
          count = l.count;
          done = suc d;
          answer = ap (λ (o : Outcome). o.answer) is ∙ ap {B = List ℕ} (λ (x : List ℕ). first_number x ∷ (1 + ticks_done x) ∷ []) l.answer
              ∙ ap {B = List ℕ} (λ (m : ℕ). l.count ∷ m ∷ []) one;
          table = ap (λ (o : Outcome). o.table) is ∙ l.table;
          empty = early;
          last = final;
          still = λ p. absurd (omega arith);
          within = omega (arith, l.within);
          stops = λ p q. ap suc (l.stops p (sym (ap (λ (o : Outcome). links Queue o.table) is) ∙ q ∙ sym (empty-tick t r e).1));
        }
      where
        early : (m : ℕ) → suc m < suc l.done → EmptyTick (after t (replicate m (tick list))) list
        early zero p = empty-tick t r e
        early (suc m) p = l.empty m (omega arith)

        final : (m : ℕ) → suc m ≡ suc l.done → TickGives (after t (replicate m (tick list))) list l.count (outcome t (leap (suc k) list)).list
        final zero p =
            let z : l.done ≡ 0 = omega arith in
            let st = l.still z in
            subst (λ (c : ℕ). TickGives t list c (outcome t (leap (suc k) list)).list) (sym st.0)
            (subst (TickGives t list 0) (sym (ap (λ (o : Outcome). o.list) one-and-rest ∙ st.1)) (empty-tick t r e).0)
        final (suc m) p =
            subst (TickGives (after (next t r) (replicate m (tick list))) list l.count) (sym (ap (λ (o : Outcome). o.list) one-and-rest))
            (l.last m (omega arith))

  -- the first one fires or queues a timer
  last-tick : (k : ℕ) → suc k ≤ most_leap → (t : List ℕ) → Ready list t → is_quiet (read t) ≡ false → Leaps t (suc k) list
  last-tick k few t r e =
      let s = read t in
      let l = without_server s.slots (due_in_tick s) in
      let is : outcome t (leap (suc k) list)
      ≡ outcome_of 0 (length l ∷ 1 ∷ []) (written_over (ticked_once s) t) (written (map (listed s.slots) l) list) =
      leap-is (suc k) few t r ∙ ap (left_by t) (leapt-stops k s e) in
      record {
        count = length l;
        done = 1;
        answer = ap (λ (o : Outcome). o.answer) is;
        table = ap (λ (o : Outcome). o.table) is ∙ sym (next-is t r);
        empty = λ m p. absurd (omega arith);
        last = λ m p. only m p (sym (ap (λ (o : Outcome). o.list) is));
        still = λ p. absurd (omega arith);
        within = omega arith;
        stops = λ p q.
            let queue : (ticked_once s).queue ≡ s.queue =
            sym (ap (λ (z : State). z.queue) (next-read t r))
            ∙ sym (ap (λ (o : Outcome). links Queue o.table) is ∙ ap (links Queue) (sym (next-is t r))) ∙ q in
            absurd (eqb-false (length (due_in_tick s)) 0 e (omega (arith, p, ap length queue, tick-queues s (sound-holds t r.is-sound).chained)));
      }
    where
      only : (m : ℕ) → suc m ≡ 1 → {left : List ℕ} → written (map (listed (read t).slots) (firing t r)) list ≡ left
          → TickGives (after t (replicate m (tick list))) list (length (firing t r)) left
      only zero p q = subst (TickGives t list (length (firing t r))) q (tick_gives t r (length (firing t r)) refl)
      only (suc m) p q = absurd (omega arith)

  pub leaps : (k : ℕ) → k ≤ most_leap → (t : List ℕ) → Ready list t → Leaps t k list
  leaps zero few t r = leap-none few t r
  leaps (suc k) few t r =
      cases (is_quiet (read t))
      (λ e. more-ticks k few t r e (leaps k (omega arith) (next t r) (next-ready t r)))
      (λ e. last-tick k few t r e)

-- an accepted leap
pub leap-ready : (t : List ℕ) → sound t ≡ true → (k : ℕ) (list : List ℕ) → status_on t (leap k list) ≡ 0 → Ready list t × (k ≤ most_leap)
leap-ready t ok k list e =
    let p = accepted-facts t (read t) (leap k list) (sym (status-is t (leap k list)) ∙ e) in
    (record { is-sound = ok; long = p.0 }, p.1)

-- it is accepted on sound tables only
leap-sound : (t : List ℕ) (k : ℕ) (list : List ℕ) → status_on t (leap k list) ≡ 0 → sound t ≡ true
leap-sound t k list e =
    cases (sound t) (λ y. y) (λ n. absurd (let h : 100 ≡ 0 = sym (rw n) ∙ sym (status-is t (leap k list)) ∙ e in omega arith))

pub leap-takes : LeapTakes
leap-takes t k list = outcome-status t (leap k list) ∙ leap-status t k list

pub leap-is-its-ticks : LeapIsItsTicks
leap-is-its-ticks t k list e =
    let z : status_on t (leap k list) ≡ 0 = sym (outcome-status t (leap k list)) ∙ e in
    let r = leap-ready t (leap-sound t k list z) k list z in
    leaps list k r.1 t r.0

module _ (t list : List ℕ) (a b : ℕ) (few : a + b ≤ most_leap) (e : (outcome t (leap a list)).status ≡ 0) where
  status-a : status_on t (leap a list) ≡ 0
  status-a = sym (outcome-status t (leap a list)) ∙ e

  sound-a : sound t ≡ true
  sound-a = leap-sound t a list status-a

  ready-a : Ready list t
  ready-a = (leap-ready t sound-a a list status-a).0

  small : a ≤ most_leap
  small = omega arith

  -- a leap that listed none and left the queue as it was did all its ticks, each of them empty
  empty-leap : first_number (outcome t (leap a list)).answer ≡ 0 → links Queue (outcome t (leap a list)).table ≡ links Queue t → AllQuiet a (read t)
  empty-leap none same =
      all_quiet a (read t) (sound-holds t sound-a).chained
      (sym (ap (λ (o : Outcome). first_number o.answer) (leap-is list a small t ready-a)) ∙ none)
      (ap length (sym (ap (λ (x : State). x.queue) (leap-read list a small t ready-a)) ∙ same))

  -- Where it fired or queued a timer, a longer one is the same.
  pub leap-longer : (first_number (outcome t (leap a list)).answer ≡ 0 → links Queue (outcome t (leap a list)).table ≡ links Queue t → ⊥)
      → outcome t (leap (a + b) list) ≡ outcome t (leap a list)
  leap-longer stops =
      leap-is list (a + b) few t ready-a
      ∙ ap (left_by list t) (leapt-longer a b (read t) (λ z.
      let quiet = leapt-quiet a (read t) z in
      stops (ap (λ (o : Outcome). first_number o.answer) (leap-is list a small t ready-a) ∙ ap length quiet.0)
      (ap (λ (x : State). x.queue) (leap-read list a small t ready-a) ∙ quiet.2)))
      ∙ sym (leap-is list a small t ready-a)

pub leaps-add : LeapsAdd
leaps-add t list a b few e f q =
    let still = empty-leap t list a b few e (ap first_number f) q in
    let r = ready-a t list a b few e in
    together list a b few t r still
    ∙ ap (λ (l : List ℕ). with_ticks_before a (outcome (outcome t (leap a list)).table (leap b l))) (sym (u-list list a b few t r still))
