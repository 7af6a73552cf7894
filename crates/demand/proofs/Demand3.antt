-- Demand 3, for every slice, every accepted lay out on it, and every list of calls. By induction on the list: the table stays sound, and
-- the state that it holds agrees with the events of the accepted calls. Assumes nothing.
use mathlib.Core.Path.{◌≡◌, refl, sym, ap, ap₂, ◌∙◌, subst}
use Prim.Native.Nat.{ℕ, zero, suc, ◌+◌, ◌≤◌}
use native.Mathlib.Omega.{arith}
use mathlib.Core.Bool.{true, false}
use mathlib.Core.Option.{Option, some}
use mathlib.Core.List.{List, [], ◌∷◌, ◌++◌, map, map-map, reverse}
use lib.ListN.{length, take, replicate}
use lib.Dec.{eqb}
use borrow.Author.Tests.{eqb-true, eqb-false, eq-eqb}
use Rattle.calendar.specs.declared.WallTime.{WallTime}
use Rattle.model.specs.Lists.{least, keep, any, InOrder}
use Rattle.model.specs.Calls.{Call, lay_out, reset, ticks_left, set_clock, next_due, serve, leap, lent_to, tick, is_leap}
use Rattle.model.specs.declared.Chain.{Chain}
use Rattle.model.specs.declared.Chain.TheVariants.{ByTicks, ByDate, Queue}
use Rattle.model.specs.Kinds.{chain_for}
use Rattle.model.specs.State.{State, wait_at, index_of, names}
use Rattle.model.specs.Directives.{first_wait, laid_out, most_leap}
use Rattle.model.specs.Words.{first, along, links, read, slot_count, previous_of}
use Rattle.model.specs.Sound.{sound}
use Rattle.model.specs.Outcome.{Outcome, status_on, outcome, movement, after, ticks_done}
use Rattle.demand.specs.History.{Start, Event, laid_out_for, changes, one_tick, serves_front, last_start, event_of, events_on, split_of, clock_after, Placed, starts, ends, fires, in_chain, ticks_left_or_date, waiting, entry_of, entry, is_partys, served_from, IsQueue, serves, ahead_after, taken_off}
use Rattle.model.specs.Entries.{Begins}
use Rattle.demand.specs.Demand.{singly, accepted_in, shown, Shows, Standing, Lists, Answers, HandsOut, events_after, Demand3}
use Rattle.laws.proofs.ListLaws.{cases}
use Rattle.laws.proofs.Order.{order, order-in-order}
use Rattle.laws.proofs.Chains.{once-all}
use Rattle.laws.proofs.ReadBack.{slots_length, by-previous}
use Rattle.laws.proofs.SoundHolds.{sound-holds, sound-well-formed}
use Rattle.laws.proofs.KeptWellFormed.{bound}
use Rattle.demand.proofs.HistoryLaws.{waiting_in, chain_from, firing_in, shown-order}
use Rattle.demand.proofs.QueueLaws.{one-queue, place_after}
use Rattle.demand.proofs.Simulation.{Agrees, agrees-laid}
use Rattle.demand.proofs.Agreement.{reset-last, agrees-step, lists-due, many-fire, many-served, few-fire, moves-by, none-fires, counts}
use Rattle.laws.proofs.OutcomeLaws.{each-leap, status-is, outcome-accepted, outcome-refused, outcome-status}
use Rattle.demand.proofs.ClockLaws.{apart}
use Rattle.demand.proofs.SingleCalls.{alone, events-append, events-ticks}
use Rattle.laws.proofs.ClockReadings.{refused-moves-none, get-clock-reads}
use Rattle.laws.proofs.Statuses.{statuses-are, creates-on, finds-on}
use Rattle.laws.proofs.CallTables.{laid_table, laid-sound, laid-read, effect-sound, table-left, state-left}
use Rattle.demand.proofs.Lasting.{none-laid, cancelled-on, lasts_on, anew-on}
use Rattle.laws.proofs.ListWords.{list-begins, table-size, words-beyond}
use Rattle.laws.proofs.NextDue.{first_by, first-order, first-map, first_read, next-due-accepted}
use Rattle.laws.proofs.LeapWords.{Ready, tick-status, next-ready, leaps, leap-ready}

-- the table t is sound and its state agrees with the events h
record SoundAndAgreeing (t : List ℕ) (h : List Event) : Type 0 where
  is-sound : sound t ≡ true
  agrees : Agrees (read t) h

-- ---- between two calls

module _ (t : List ℕ) (h : List Event) (g : SoundAndAgreeing t h) where
  standing-now : Standing t h
  standing-now =
      let hold = sound-holds t g.is-sound in
      record {
        is-sound = g.is-sound;
        by_next = each;
        by-previous = back;
        once = once-all (read t) hold.chained;
        rate = g.agrees.per;
        clock = g.agrees.clock;
        split = g.agrees.split;
        initiated = g.agrees.initiated;
      }
    where
      waiting-ones : (k : Chain) → map (shown (read t).slots) (links k t) ≡ chain_from k h
          → (l : List Placed) × InOrder ticks_left_or_date (waiting_in k h) l × (map (shown (read t).slots) (links k t) ≡ map waiting l)
      waiting-ones k is = let l = waiting_in k h in (order ticks_left_or_date l, order-in-order ticks_left_or_date l, is ∙ sym (shown-order l))

      each : (k : Chain) → Shows k h (map (shown (read t).slots) (links k t))
      each ByTicks = waiting-ones ByTicks (g.agrees.chain ByTicks)
      each ByDate = waiting-ones ByDate (g.agrees.chain ByDate)
      each Queue = g.agrees.chain Queue

      back : (k : Chain) → along (previous_of t) (slot_count t) (first (reverse (links k t)))
          ≡ map (λ w. w.slot) (reverse (links k t))
      back ByTicks = by-previous t (read t) (sound-holds t g.is-sound) ByTicks
      back ByDate = by-previous t (read t) (sound-holds t g.is-sound) ByDate
      back Queue = by-previous t (read t) (sound-holds t g.is-sound) Queue

-- ---- one call more

module _ (t : List ℕ) (h : List Event) (g : SoundAndAgreeing t h) (c : Call) where
  kept-by-call : status_on t c ≡ 0 → is_leap c ≡ false → SoundAndAgreeing (outcome t c).table (event_of h c ∷ h)
  kept-by-call e one = record {
    is-sound = ap sound (table-left t g.is-sound c e) ∙ effect-sound t g.is-sound c e;
    agrees = rw (state-left t g.is-sound c e)
        (agrees-step (read t) h g.agrees (sound-well-formed t g.is-sound) t c (sym (status-is t c) ∙ e) one);
  }

  served-now : status_on t c ≡ 0 → (party : ℕ) (list : List ℕ) → c ≡ serve party list
      → (outcome t c).answer ≡ length (served_from (split_of h) (event_of h c) (g.agrees.chain Queue).0) ∷ []
  served-now z party list is =
      let q = (g.agrees.chain Queue).0 in
      subst (λ (d : Call). status_on t d ≡ 0 → (outcome t d).answer ≡ length (served_from (split_of h) (event_of h d) q) ∷ []) (sym is)
      (λ e.
      ap (λ (x : Outcome). x.answer) (outcome-accepted t (serve party list) e)
      ∙ ap {B = List ℕ} (λ (n : ℕ). n ∷ [])
      (many-served (read t) h g.agrees (sound-well-formed t g.is-sound) t party list (sym (status-is t (serve party list)) ∙ e))) z

  lists-now : status_on t c ≡ 0 → is_leap c ≡ false → Lists t h c (event_of h c)
  lists-now z one =
      let st = sym (status-is t c) ∙ z in
      let f = sound-well-formed t g.is-sound in
      let e = event_of h c in
      let l = firing_in ByTicks h e in
      let m = firing_in ByDate h e in
      let q = g.agrees.chain Queue in
      let o = outcome-accepted t c z in
      record {
        ticking = l;
        dated = m;
        ticking-order = order-in-order ticks_left_or_date (keep (in_chain ByTicks) (keep (fires e) (starts h)));
        dated-order = order-in-order ticks_left_or_date (keep (in_chain ByDate) (keep (fires e) (starts h)));
        queue = q.0;
        is-queue = q.1;
        entries = subst (Begins (outcome t c).list (lent_to c)) (lists-due (read t) h g.agrees f t c st one) (list-begins t g.is-sound c z);
        counted = λ moving. ap (λ (x : Outcome). x.answer) o ∙ counts t (read t) h c moving
            ∙ ap {B = List ℕ} (λ (n : ℕ). n ∷ []) (many-fire (read t) h g.agrees f t c st one moving);
        served = λ party list is. served-now z party list is;
        fires-none = λ still. none-fires (read t) h g.agrees f t e still;
        few = omega (arith, few-fire (read t) h g.agrees f t c st one, bound t (read t) f c, slots_length t);
      }

-- ---- single ticks

module _ (list : List ℕ) where
  ticks-run : (d : ℕ) (t : List ℕ) → Ready list t → (h : List Event) → SoundAndAgreeing t h
      → SoundAndAgreeing (after t (replicate d (tick list))) (events_on h (replicate d (tick list)))
  ticks-run zero t r h g = g
  ticks-run (suc d) t r h g =
      ticks-run d (outcome t (tick list)).table (next-ready list t r) (one_tick ∷ h) (kept-by-call t h g (tick list) (tick-status list t r) refl)

  still-ready : (m : ℕ) (t : List ℕ) → Ready list t → Ready list (after t (replicate m (tick list)))
  still-ready zero t r = r
  still-ready (suc m) t r = still-ready m (outcome t (tick list)).table (next-ready list t r)

  -- after m ticks, the next one lists what is due in it
  each-lists : (m : ℕ) (t : List ℕ) → Ready list t → (h : List Event) → SoundAndAgreeing t h
      → Lists (after t (replicate m (tick list))) (replicate m one_tick ++ h) (tick list) one_tick
  each-lists m t r h g =
      let u = after t (replicate m (tick list)) in
      subst (λ (es : List Event). Lists u es (tick list) one_tick) (events-ticks list m h)
      (lists-now u (events_on h (replicate m (tick list))) (ticks-run m t r h g) (tick list) (tick-status list u (still-ready m t r)) refl)

-- ---- what is answered

module _ (t : List ℕ) (h : List Event) (g : SoundAndAgreeing t h) (c : Call) where
  restarts-now : status_on t c ≡ 0 → (party id : ℕ) → c ≡ reset party id
      → (s : Start) × (event_of h c ≡ changes id (some s)) × (s.id ≡ id) × (chain_for s.mode ≡ ByTicks) × (last_start id h ≡ some s)
  restarts-now e party id is =
      subst (λ (d : Call). status_on t d ≡ 0
      → (s : Start) × (event_of h d ≡ changes id (some s)) × (s.id ≡ id) × (chain_for s.mode ≡ ByTicks) × (last_start id h ≡ some s)) (sym is)
      (λ z.
      let last = reset-last (read t) h g.agrees (sound-well-formed t g.is-sound) t party id (sym (status-is t (reset party id)) ∙ z) in
      (_, ap (changes id) last.2, refl, last.0, last.2)) e

  moves-now : status_on t c ≡ 0 → (w : WallTime) (list : List ℕ) → c ≡ set_clock w list
      → movement t w list ≡ apart (clock_after 0 h) (clock_after 0 (event_of h c ∷ h))
  moves-now e w list is =
      subst (λ (d : Call). status_on t d ≡ 0 → movement t w list ≡ apart (clock_after 0 h) (clock_after 0 (event_of h d ∷ h))) (sym is)
      (λ z.
      rw (eq-eqb (status_on t (set_clock w list)) 0 z)
      (moves-by (read t) h g.agrees (sound-well-formed t g.is-sound) t w list (sym (status-is t (set_clock w list)) ∙ z))) e

  leap-facts : (k : ℕ) (list : List ℕ) → c ≡ leap k list → status_on t c ≡ 0 → Ready list t × (k ≤ most_leap)
  leap-facts k list is e = leap-ready t g.is-sound k list (ap (status_on t) (sym is) ∙ e)

  left-now : status_on t c ≡ 0 → (party id : ℕ) → c ≡ ticks_left party id → (outcome t c).answer ≡ wait_at (index_of id) (links ByTicks t) ∷ []
  left-now e party id is =
      subst (λ (d : Call). status_on t d ≡ 0 → (outcome t d).answer ≡ wait_at (index_of id) (links ByTicks t) ∷ []) (sym is)
      (λ z. ap (λ (x : Outcome). x.answer) (outcome-accepted t (ticks_left party id) z)) e

  next-now : c ≡ next_due → ((outcome t c).status ≡ 0) × ((outcome t c).answer ≡ least (map ticks_left_or_date (waiting_in ByTicks h)) ∷ [])
  next-now is =
      subst (λ (d : Call). ((outcome t d).status ≡ 0) × ((outcome t d).answer ≡ least (map ticks_left_or_date (waiting_in ByTicks h)) ∷ [])) (sym is)
      (let e = next-due-accepted t g.is-sound in (
        outcome-status t next_due ∙ e,
        ap (λ (x : Outcome). x.answer) (outcome-accepted t next_due e) ∙ ap {B = List ℕ} (λ (n : ℕ). n ∷ []) least-waiting,
      ))
    where
      least-waiting : first_wait t ≡ least (map ticks_left_or_date (waiting_in ByTicks h))
      least-waiting =
          first_read t g.is-sound ∙ sym (first-map (λ w. w.wait) (shown (read t).slots) (read t).ticking)
          ∙ ap (first_by (λ w. w.wait)) (g.agrees.chain ByTicks) ∙ first-order (λ w. w.wait) (map waiting (waiting_in ByTicks h))
          ∙ ap least (map-map (λ w. w.wait) waiting (waiting_in ByTicks h))

  answers-now : Answers t h c (event_of h c)
  answers-now = record {
    status = statuses-are t c;
    lists = λ one e. lists-now t h g c (sym (outcome-status t c) ∙ e) one;
    leaps = λ k list is e. let r = leap-facts k list is (sym (outcome-status t c) ∙ e) in leaps list k r.1 t r.0;
    each-tick = λ k list is e m p. each-lists list m t (leap-facts k list is (sym (outcome-status t c) ∙ e)).0 h g;
    lent-tick = λ list is. ap lent_to is;
    lent-set = λ w list is. ap lent_to is;
    lent-serve = λ party list is. ap lent_to is;
    lent-leap = λ k list is. ap lent_to is;
    cancelled = λ party id is e. cancelled-on t g.is-sound party id c is (sym (outcome-status t c) ∙ e);
    restarts = λ party id is e. restarts-now (sym (outcome-status t c) ∙ e) party id is;
    moves = λ w list is e old new was now. moves-now (sym (outcome-status t c) ∙ e) w list is ∙ ap₂ apart was now;
    moves-first = λ w list is e was.
        moves-now (sym (outcome-status t c) ∙ e) w list is ∙ ap (λ (o : Option ℕ). apart o (clock_after 0 (event_of h c ∷ h))) was;
    stays = λ w list is e. refused-moves-none t w list (λ z. e (outcome-status t c ∙ ap (status_on t) is ∙ z));
    reads = λ is e. ap (λ (d : Call). (outcome t d).answer) is ∙ get-clock-reads t (ap (status_on t) (sym is) ∙ sym (outcome-status t c) ∙ e);
    left = λ party id is e. left-now (sym (outcome-status t c) ∙ e) party id is;
    next = next-now;
    lasts = λ e id. lasts_on t g.is-sound c (sym (outcome-status t c) ∙ e) id;
    anew = λ party name is e. anew-on t g.is-sound party name c is (sym (outcome-status t c) ∙ e);
    creates = λ party name is e. creates-on t party name c is (sym (outcome-status t c) ∙ e);
    finds = λ party name is e. finds-on t party name c is (sym (outcome-status t c) ∙ e);
    size = table-size t g.is-sound c;
    beyond = words-beyond t g.is-sound c;
    refuses = λ e.
        let o = outcome-refused t c (λ z. e (outcome-status t c ∙ z)) in
        (ap (λ (x : Outcome). x.table) o, ap (λ (x : Outcome). x.list) o, ap (λ (x : Outcome). x.answer) o);
  }

-- ---- a list of calls

-- the single calls that an accepted call is
call-run : (t : List ℕ) (h : List Event) → SoundAndAgreeing t h → (c : Call) → status_on t c ≡ 0
    → SoundAndAgreeing (outcome t c).table (events_on h (singly t c))
call-run t h g = each-leap (λ c. status_on t c ≡ 0 → SoundAndAgreeing (outcome t c).table (events_on h (singly t c)))
    (λ k list z.
    let r = leap-ready t g.is-sound k list z in
    let q = leaps list k r.1 t r.0 in
    let many : ticks_done (outcome t (leap k list)).answer ≡ q.done = ap (λ (x : List ℕ). ticks_done x) q.answer in
    subst (λ (n : ℕ). SoundAndAgreeing (outcome t (leap k list)).table (events_on h (replicate n (tick list)))) (sym many)
    (subst (λ (u : List ℕ). SoundAndAgreeing u (events_on h (replicate q.done (tick list)))) (sym q.table) (ticks-run list q.done t r.0 h g)))
    (λ c one z. subst (λ (l : List Call). SoundAndAgreeing (outcome t c).table (events_on h l)) (sym (alone t c one)) (kept-by-call t h g c z one))

run : (xs : List Call) (t : List ℕ) (h : List Event) → SoundAndAgreeing t h → SoundAndAgreeing (after t xs) (events_on h (accepted_in t xs))
run [] t h g = g
run (c ∷ xs) t h g =
    let u = (outcome t c).table in
    cases (eqb (status_on t c) 0)
    (λ e.
    let b : eqb (outcome t c).status 0 ≡ true = ap (λ (n : ℕ). eqb n 0) (outcome-status t c) ∙ e in
    rw (b, events-append h (singly t c) (accepted_in u xs)) (run xs u (events_on h (singly t c)) (call-run t h g c (eqb-true (status_on t c) 0 e))))
    (λ e.
    let o : u ≡ t = ap (λ (x : Outcome). x.table) (outcome-refused t c (eqb-false (status_on t c) 0 e)) in
    let b : eqb (outcome t c).status 0 ≡ false = ap (λ (n : ℕ). eqb n 0) (outcome-status t c) ∙ e in
    rw b (run xs u h (rw o g)))

module _ (w : List ℕ) (n t split : ℕ) (e : (outcome w (lay_out n t split)).status ≡ 0) where
  was_laid_out : status_on w (lay_out n t split) ≡ 0
  was_laid_out = sym (outcome-status w (lay_out n t split)) ∙ e

  -- the state that the lay out leaves
  laid-state : read (outcome w (lay_out n t split)).table ≡ laid_out n t split
  laid-state = ap read (laid_table w n t split was_laid_out) ∙ laid-read w n t split was_laid_out

  begins : SoundAndAgreeing (outcome w (lay_out n t split)).table (laid_out_for t split ∷ [])
  begins = record {
    is-sound = ap sound (laid_table w n t split was_laid_out) ∙ laid-sound w n t split was_laid_out;
    agrees = rw laid-state (agrees-laid n t split);
  }

  -- the table and the events after the lay out and any calls
  after-calls : (xs : List Call) → SoundAndAgreeing (after w (lay_out n t split ∷ xs)) (events_after w (lay_out n t split ∷ xs))
  after-calls xs = rw (eq-eqb (outcome w (lay_out n t split)).status 0 e) (run xs (outcome w (lay_out n t split)).table (laid_out_for t split ∷ []) begins)

-- a timer that has come to the front of its party's in the queue is handed out by the party's next serve
module _ (w : List ℕ) (n t split : ℕ) (ok : (outcome w (lay_out n t split)).status ≡ 0) (xs ys : List Call) (party : ℕ) (list : List ℕ)
    (queue ahead behind : List Start) (s : Start) (is : IsQueue (events_after w (lay_out n t split ∷ xs)) queue)
    (its : keep (is_partys (split_of (events_after w (lay_out n t split ∷ xs))) party) queue ≡ ahead ++ (s ∷ behind)) (more : List Event)
    (later : events_after w (lay_out n t split ∷ xs ++ ys) ≡ more ++ events_after w (lay_out n t split ∷ xs)) (lasts : any (ends s.id) more ≡ false)
    (turn : suc (serves party more) + taken_off party more ahead ≡ suc (length ahead)) where
  abbrev u : List ℕ
  u = after w (lay_out n t split ∷ xs ++ ys)

  abbrev now : List Event
  now = events_after w (lay_out n t split ∷ xs ++ ys)

  comes-first : (q : List Start) × (b : List Start) × IsQueue now q × (keep (is_partys (split_of now) party) q ≡ s ∷ b)
  comes-first =
      let at = place_after (events_after w (lay_out n t split ∷ xs)) more party ahead behind s queue is its lasts (omega arith) in
      let none : ahead_after party more ahead ≡ [] = empty (ahead_after party more ahead) (omega (arith, at.place)) in (
        at.queue,
        at.behind,
        subst (λ (h : List Event). IsQueue h at.queue) (sym later) at.is-queue,
        ap (λ (l : ℕ). keep (is_partys l party) at.queue) (ap split_of later ∙ at.same-split) ∙ at.its
            ∙ ap (λ (l : List Start). l ++ (s ∷ at.behind)) none,
      )
    where
      empty : (l : List Start) → length l ≡ 0 → l ≡ []
      empty [] e = refl
      empty (x ∷ l) e = absurd (omega arith)

  handed_out : HandsOut u party list s
  handed_out accepted =
      let first = comes-first in
      let a = (answers-now u now (after-calls w n t split ok (xs ++ ys)) (serve party list)).lists refl accepted in
      let out : served_from (split_of now) (serves_front party) a.queue ≡ s ∷ [] =
      ap (λ (q : List Start). take 1 (keep (is_partys (split_of now) party) q)) (one-queue now a.queue first.0 a.is-queue first.2)
      ∙ ap (take 1) first.3 in (
        a.served party list refl ∙ ap (λ (q : List Start). length q ∷ []) out,
        subst (Begins (outcome u (serve party list)).list list)
            (ap₂ (λ (l : List Placed) (q : List Start). map entry l ++ map entry_of q) (a.fires-none refl) out) a.entries,
      )

pub demand3 : Demand3
demand3 w n t split e cs =
    let now : List Call → List ℕ = λ xs. after w (lay_out n t split ∷ xs) in
    let es : List Call → List Event = λ xs. events_after w (lay_out n t split ∷ xs) in
    record {
      empty = λ id. ap (λ (s : State). names s id) (laid-state w n t split e) ∙ none-laid n t split id;
      standing = λ xs ys _. standing-now (now xs) (es xs) (after-calls w n t split e xs);
      answers = λ xs ys c _. answers-now (now xs) (es xs) (after-calls w n t split e xs) c;
      in-turn = λ xs ys zs party list _ queue ahead behind s is its more later lasts turn.
          handed_out w n t split e xs ys party list queue ahead behind s is its more later lasts turn;
    }
