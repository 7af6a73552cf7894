-- Agreement of a state with the events so far. Each accepted call that does not move the clock takes a state that agrees with them to one that
-- agrees with them and the call's event. Assumes nothing.
use mathlib.Core.Path.{◌≡◌, refl, sym, ap, ap₂, ◌∙◌, subst}
use Prim.Native.Nat.{ℕ, ◌+◌, ◌≤◌, ◌<◌}
use native.Mathlib.Omega.{arith}
use mathlib.Core.Bool.{Bool, true, false, cond, not}
use mathlib.Core.Option.{Option, none, some}
use mathlib.Core.List.{List, [], ◌∷◌, map}
use lib.ListN.{length, replicate}
use lib.Dec.{eqb}
use borrow.Author.Tests.{eqb-true, eqb-false, eq-eqb, ne_eqb, not-true}
use Rattle.model.specs.Lists.{keep, drop_first, place, All}
use Rattle.model.specs.declared.Chain.{Chain}
use Rattle.model.specs.declared.Chain.TheVariants.{ByTicks, ByDate, Queue}
use Rattle.model.specs.declared.Mode.{Mode}
use Rattle.model.specs.Kinds.{chain_for, same_chain, interval_in}
use Rattle.model.specs.Parties.{owns}
use Rattle.model.specs.State.{Slot, Link, State, chain_of, free, slot_at, put_at, without, id_base, index_of}
use Rattle.model.specs.Directives.{laid_out, stored, stopped, waiting_as, started, fired_all, is_own, front, handed_out, initiated}
use Rattle.demand.specs.History.{Start, start_of, Event, laid_out_for, changes, deletes, one_tick, clock_set_to, initiates, serves_front, nothing, start_in, last_start, per_second, split_of, clock_after, moves_clock, Placed, placed, starts, ends, in_chain, Waiting, waiting, is_initiated, party_served, is_partys, left_in_queue, IsQueue, queued_as}
use Rattle.demand.specs.Demand.{shown}
use Rattle.laws.proofs.ListLaws.{cases, clash, all, all_map, all-passed, keep_all, keep-none, keep-map, keep-on, map_on, map-place, drop_first-on, drop_first-map}
use Rattle.laws.proofs.KindLaws.{own-chain, mode-last, not-queue}
use Rattle.laws.proofs.Slots.{at_same, at_other, field_put, Memo, memo, memo-fired_all, put-any, put-at, blank}
use Rattle.laws.proofs.Shapes.{Some}
use Rattle.laws.proofs.Steps.{with-chain-slots, with-chain-clock, with-chain-split, with-chain-server, with-chain-each, stored-chain, stopped-chain, laid-chain, initiated-chain}
use Rattle.demand.proofs.HistoryLaws.{Sized, chain_from, fresh, sized-more}
use Rattle.demand.proofs.ChainLaws.{brings_due, begins, chain-calm, chain-start}
use Rattle.demand.proofs.QueueLaws.{none-served, queue-calm}
use Rattle.demand.proofs.ClockLaws.{standing}

-- ---- a chain as it is shown

-- a link as it is shown, from what its slot remembers
abbrev showing : Link → Memo → Waiting
showing w m = record {
  shows = record { id = id_base + w.slot; routine = m.routine; user_data = m.user_data };
  mode = m.last;
  interval = m.interval;
  wait = w.wait;
}

-- it depends only on what the slots remember
pub shown-memo : (sl sl' : List Slot) → ((j : ℕ) → memo (slot_at sl' j) ≡ memo (slot_at sl j)) → (l : List Link) → map (shown sl') l ≡ map (shown sl) l
shown-memo sl sl' h l = map_on (shown sl') (shown sl) l (all (λ w. ap (showing w) (h w.slot)) l)

pub index_back : (i : ℕ) → index_of (id_base + i) ≡ i
index_back i = omega arith

same_id : (id i j : ℕ) → id ≡ id_base + i → eqb id (id_base + j) ≡ eqb j i
same_id id i j e =
    cases (eqb j i)
    (λ f. eq-eqb id (id_base + j) (omega (arith, eqb-true j i f)) ∙ sym f)
    (λ f. ne_eqb id (id_base + j) (λ g. eqb-false j i f (omega arith)) ∙ sym f)

-- ---- agreement

-- what the slot i holds is what the timer's last start had, where that was by ticks
abbrev pub Remembers : List Event → ℕ → Memo → Type 0
Remembers h i m = (o : Mode) → m.last ≡ some o → chain_for o ≡ ByTicks
    → (0 < m.interval) × (last_start (id_base + i) h ≡ some (start_of (id_base + i) o m.interval m.routine m.user_data))

-- the links of chain k show l after the events h: the chain that those give, or the queue
abbrev pub Stands : Chain → List Event → List Waiting → Type 0
Stands ByTicks h l = l ≡ chain_from ByTicks h
Stands ByDate h l = l ≡ chain_from ByDate h
Stands Queue h l = (q : List Start) × IsQueue h q × (l ≡ map queued_as q)

-- the state agrees with the events h
pub record Agrees (s : State) (h : List Event) : Type 0 where
  pub sized : All Sized (starts h)
  pub chain : (k : Chain) → Stands k h (map (shown s.slots) (chain_of k s))
  pub memory : (i : ℕ) → Remembers h i (memo (slot_at s.slots i))
  pub per : per_second h ≡ s.clock.per_second
  pub clock : clock_after 0 h ≡ standing s.clock
  pub split : split_of h ≡ s.split
  pub initiated : is_initiated h ≡ s.server

pub kept-all : (l : List Waiting) → keep (λ w. true) l ≡ l
kept-all l = keep_all (λ w. true) l (all (λ w. refl) l)

pub kept-none : (l : List Waiting) → keep (λ w. false) l ≡ []
kept-none l = keep-none (λ w. false) l (all (λ w. refl) l)

-- ---- an event at which nothing comes due or is served

no-tick : (e : Event) → moves_clock e ≡ false → (k : Chain) → brings_due k e ≡ false
no-tick (laid_out_for t l) z ByTicks = refl
no-tick (changes i s) z ByTicks = refl
no-tick (deletes i) z ByTicks = refl
no-tick one_tick z ByTicks = z
no-tick (clock_set_to d n) z ByTicks = refl
no-tick initiates z ByTicks = refl
no-tick (serves_front p) z ByTicks = refl
no-tick nothing z ByTicks = refl
no-tick e z ByDate = z
no-tick e z Queue = refl

module _ (h : List Event) (sized : All Sized (starts h)) (e : Event) (still : moves_clock e ≡ false) (no-party : party_served e ≡ 0) where
  pub stands-calm : (k : Chain) (l : List Waiting) → fresh k e h ≡ [] → Stands k h l → Stands k (e ∷ h) (keep (λ w. not (ends w.shows.id e)) l)
  stands-calm ByTicks l new is = ap (keep (λ w. not (ends w.shows.id e))) is ∙ sym (chain-calm ByTicks h sized e (no-tick e still ByTicks) new)
  stands-calm ByDate l new is = ap (keep (λ w. not (ends w.shows.id e))) is ∙ sym (chain-calm ByDate h sized e (no-tick e still ByDate) new)
  stands-calm Queue l new (q, is, shows) = (
    left_in_queue (split_of h) e q,
    queue-calm h e q still is,
    ap (keep (λ w. not (ends w.shows.id e))) shows ∙ keep-map queued_as (λ w. not (ends w.shows.id e)) q
        ∙ ap (λ (l : List Start). map queued_as (keep (λ s. not (ends s.id e)) l)) (sym (none-served (split_of h) e q no-party)),
  )

-- a start, in its chain
stands-start : (h : List Event) → All Sized (starts h) → (id : ℕ) (s : Start) (k : Chain) (l : List Waiting) → same_chain k (chain_for s.mode) ≡ true
    → Stands k h l → Stands k (changes id (some s) ∷ h) (place (λ w. w.wait) (begins s) (keep (λ w. not (eqb id w.shows.id)) l))
stands-start h sized id s ByTicks l here is =
    ap (λ (m : List Waiting). place (λ w. w.wait) (begins s) (keep (λ w. not (eqb id w.shows.id)) m)) is ∙ sym (chain-start ByTicks h sized id s here)
stands-start h sized id s ByDate l here is =
    ap (λ (m : List Waiting). place (λ w. w.wait) (begins s) (keep (λ w. not (eqb id w.shows.id)) m)) is ∙ sym (chain-start ByDate h sized id s here)
stands-start h sized id s Queue l here is = clash (sym here ∙ not-queue s.mode)

-- a timer that was not last started by ticks has nothing to remember
pub no_start : (h : List Event) (i : ℕ) (m : Memo) → m.last ≡ none → Remembers h i m
no_start h i m e o f p = absurd (never (sym e ∙ f))
  where
    never : none ≡ some o → ⊥
    never q = let z : ◌≡◌ {A = ℕ} 0 1 = cc in omega arith

-- ---- calls that change no waiting timer

module _ (s : State) (h : List Event) (v : Agrees s h) where
  -- an event that neither starts nor ends any
  same-chains : (e : Event) → moves_clock e ≡ false → party_served e ≡ 0 → start_in e ≡ none → ((j : ℕ) → ends j e ≡ false) → (k : Chain)
      → Stands k (e ∷ h) (map (shown s.slots) (chain_of k s))
  same-chains e still no-party no_start fires-none k =
      let l = map (shown s.slots) (chain_of k s) in
      subst (Stands k (e ∷ h)) (keep_all (λ w. not (ends w.shows.id e)) l (all (λ w. ap not (fires-none w.shows.id)) l))
      (stands-calm h v.sized e still no-party k l (ap (λ (o : Option Start). map waiting (keep (in_chain k) (placed o (e ∷ h)))) no_start) (v.chain k))

  pub on-nothing : Agrees s (nothing ∷ h)
  on-nothing = record {
    sized = sized-more h nothing v.sized tt;
    chain = same-chains nothing refl refl refl (λ j. refl);
    memory = v.memory;
    per = v.per;
    clock = v.clock;
    split = v.split;
    initiated = v.initiated;
  }

  pub on-initiate : Agrees (initiated s) (initiates ∷ h)
  on-initiate = record {
    sized = sized-more h initiates v.sized tt;
    chain = λ k. rw (initiated-chain s k) (same-chains initiates refl refl refl (λ j. refl) k);
    memory = v.memory;
    per = v.per;
    clock = v.clock;
    split = v.split;
    initiated = refl;
  }

  -- slot i, which remembers as much as x, and that is nothing, becomes x
  pub on-stored : (i : ℕ) (x : Slot) → memo x ≡ memo (slot_at s.slots i) → (memo x).last ≡ none → Agrees (stored s i x) (nothing ∷ h)
  on-stored i x same idle = record {
    sized = sized-more h nothing v.sized tt;
    chain = λ k. rw (stored-chain s i x k) (subst (Stands k (nothing ∷ h)) (sym (look (chain_of k s))) (same-chains nothing refl refl refl (λ j. refl) k));
    memory = λ j. put-any (λ z. Remembers h j (memo z)) s.slots i j x (no_start h j (memo x) idle) (v.memory j);
    per = v.per;
    clock = v.clock;
    split = v.split;
    initiated = v.initiated;
  }
    where
      look : (l : List Link) → map (shown (put_at s.slots i x)) l ≡ map (shown s.slots) l
      look = shown-memo s.slots (put_at s.slots i x) (λ j. field_put memo s.slots i j x same)

  pub on-lay-out : (n t split : ℕ) → Agrees (laid_out n t split) (laid_out_for t split ∷ h)
  on-lay-out n t split = record {
    sized = sized-more h (laid_out_for t split) v.sized tt;
    chain = λ k.
        let l = map (shown s.slots) (chain_of k s) in
        rw (laid-chain n t split k)
        (subst (Stands k (laid_out_for t split ∷ h)) (kept-none l) (stands-calm h v.sized (laid_out_for t split) refl refl k l refl (v.chain k)));
    memory = λ i. no_start (laid_out_for t split ∷ h) i (memo (slot_at (replicate n free) i)) (ap (λ (x : Slot). (memo x).last) (blank n i));
    per = refl;
    clock = refl;
    split = refl;
    initiated = refl;
  }

  -- a party's first in the queue is handed out
  pub on-serve : (party : ℕ) → Agrees (handed_out s party) (serves_front party ∷ h)
  on-serve party = record {
    sized = sized-more h (serves_front party) v.sized tt;
    chain = λ k. subst (Stands k (serves_front party ∷ h)) (sym (look (chain_of k (handed_out s party)))) (each k);
    memory = λ i. subst (Remembers h i) (sym (memo-fired_all (front s party) s.slots i)) (v.memory i);
    per = v.per;
    clock = v.clock;
    split = v.split;
    initiated = v.initiated;
  }
    where
      look : (l : List Link) → map (shown (fired_all (front s party) s.slots)) l ≡ map (shown s.slots) l
      look = shown-memo s.slots (fired_all (front s party) s.slots) (memo-fired_all (front s party) s.slots)

      shown-left : (q : List Start) → map (shown s.slots) s.queue ≡ map queued_as q
          → map (shown s.slots) (drop_first (is_own s party) s.queue) ≡ map queued_as (left_in_queue (split_of h) (serves_front party) q)
      shown-left q e =
          let its : Waiting → Bool = λ w. owns s.split party (index_of w.shows.id) in
          let left = drop_first (is_partys (split_of h) party) q in
          ap (map (shown s.slots)) (drop_first-on (is_own s party) (λ w. its (shown s.slots w)) s.queue
          (all (λ w. ap (owns s.split party) (sym (index_back w.slot))) s.queue))
          ∙ sym (drop_first-map (shown s.slots) its s.queue) ∙ ap (drop_first its) e ∙ drop_first-map queued_as its q
          ∙ ap (λ (l : ℕ). map queued_as (drop_first (is_partys l party) q)) (sym v.split)
          ∙ ap (map queued_as) (sym (keep_all (λ y. true) left (all (λ y. refl) left)))

      each : (k : Chain) → Stands k (serves_front party ∷ h) (map (shown s.slots) (chain_of k (handed_out s party)))
      each ByTicks = v.chain ByTicks ∙ sym (chain-calm ByTicks h v.sized (serves_front party) refl refl ∙ kept-all (chain_from ByTicks h))
      each ByDate = v.chain ByDate ∙ sym (chain-calm ByDate h v.sized (serves_front party) refl refl ∙ kept-all (chain_from ByDate h))
      each Queue =
          let q = v.chain Queue in
          (left_in_queue (split_of h) (serves_front party) q.0, queue-calm h (serves_front party) q.0 refl q.1, shown-left q.0 q.2)

-- the table that a lay out leaves, with nothing before it
pub agrees-laid : (n t split : ℕ) → Agrees (laid_out n t split) (laid_out_for t split ∷ [])
agrees-laid n t split = record {
  sized = tt;
  chain = λ k. rw (laid-chain n t split k) (empty k);
  memory = λ i. no_start (laid_out_for t split ∷ []) i (memo (slot_at (replicate n free) i)) (ap (λ (x : Slot). (memo x).last) (blank n i));
  per = refl;
  clock = refl;
  split = refl;
  initiated = refl;
}
  where
    empty : (k : Chain) → Stands k (laid_out_for t split ∷ []) []
    empty ByTicks = refl
    empty ByDate = refl
    empty Queue = ([], queue-calm [] (laid_out_for t split) [] refl refl, refl)

-- ---- calls on one timer

module _ (s : State) (h : List Event) (v : Agrees s h) (id i : ℕ) (is : id ≡ id_base + i) (low : 0 < i) (high : i ≤ length s.slots) where
  -- what is left of a chain as it is shown, without the timer
  abbrev rest : List Waiting → List Waiting
  rest l = keep (λ w. not (eqb id w.shows.id)) l

  -- a chain without the slot that is written
  without-slot : (x : Slot) (l : List Link) → map (shown (put_at s.slots i x)) (without i l) ≡ rest (map (shown s.slots) l)
  without-slot x l =
      let sl = s.slots in
      map_on (shown (put_at sl i x)) (shown sl) (without i l)
      (all_map (λ w p. ap (λ (y : Slot). showing w (memo y)) (at_other sl i w.slot x (eqb-false w.slot i (not-true (eqb w.slot i) p))))
      (without i l) (all-passed (λ w. not (eqb w.slot i)) l))
      ∙ ap (map (shown sl)) (keep-on (λ w. not (eqb w.slot i)) (λ w. not (eqb id (id_base + w.slot))) l
      (all (λ w. ap not (sym (same_id id i w.slot is))) l))
      ∙ sym (keep-map (shown sl) (λ w. not (eqb id w.shows.id)) l)

  other-id : (j : ℕ) → eqb j i ≡ false → eqb id (id_base + j) ≡ false
  other-id j e = same_id id i j is ∙ e

  -- slot i becomes x and is in no chain
  pub on-stop : (x : Slot) → Remembers h i (memo x) → Agrees (stopped s i x) (changes id none ∷ h)
  on-stop x remember = record {
    sized = sized-more h (changes id none) v.sized tt;
    chain = λ k. rw (stopped-chain s i x k) (subst (Stands k (changes id none ∷ h)) (sym (without-slot x (chain_of k s)))
        (stands-calm h v.sized (changes id none) refl refl k (map (shown s.slots) (chain_of k s)) refl (v.chain k)));
    memory = put-at (λ j y. Remembers h j (memo y)) s.slots i x low high remember (λ j n. v.memory j);
    per = v.per;
    clock = v.clock;
    split = v.split;
    initiated = v.initiated;
  }

  -- slot i becomes free
  pub on-delete : Agrees (stopped s i free) (deletes id ∷ h)
  on-delete = record {
    sized = sized-more h (deletes id) v.sized tt;
    chain = λ k. rw (stopped-chain s i free k) (subst (Stands k (deletes id ∷ h)) (sym (without-slot free (chain_of k s)))
        (stands-calm h v.sized (deletes id) refl refl k (map (shown s.slots) (chain_of k s)) refl (v.chain k)));
    memory = put-at (λ j y. Remembers (deletes id ∷ h) j (memo y)) s.slots i free low high (no_start (deletes id ∷ h) i (memo free) refl)
        (λ j n o t p.
        let w = v.memory j o t p in
        (w.0, ap (λ (b : Bool). cond b none (last_start (id_base + j) h)) (other-id j n) ∙ w.1));
    per = v.per;
    clock = v.clock;
    split = v.split;
    initiated = v.initiated;
  }

  -- slot i starts to wait
  module _ (m : Mode) (amount r u : ℕ) (some-amount : Some (chain_for m) amount) where
    abbrev x : Slot
    x = waiting_as m (slot_at s.slots i) amount r u

    abbrev new : Link
    new = record { slot = i; wait = amount }

    abbrev start : Start
    start = start_of id m amount r u

    abbrev e : Event
    e = changes id (some start)

    own : Stands (chain_for m) (e ∷ h) (map (shown (put_at s.slots i x)) (place (λ w. w.wait) new (without i (chain_of (chain_for m) s))))
    own =
        let k = chain_for m in
        let sl = put_at s.slots i x in
        let others = without i (chain_of k s) in
        subst (Stands k (e ∷ h)) (sym (
        map-place (shown sl) (λ w. w.wait) (λ w. w.wait) new others (all (λ y. refl) others)
        ∙ ap₂ (λ (n : ℕ) (y : Memo). place (λ w. w.wait)
        (record { shows = record { id = n; routine = y.routine; user_data = y.user_data }; mode = y.last; interval = y.interval; wait = amount })
        (map (shown sl) others)) (sym is) (ap memo (at_same s.slots i x low high) ∙ remembered)
        ∙ ap (place (λ w. w.wait) (begins start)) (without-slot x (chain_of k s))))
        (stands-start h v.sized id start k (map (shown s.slots) (chain_of k s)) (own-chain k) (v.chain k))
      where
        remembered : ◌≡◌ {A = Memo} (memo x) (record { last = some m; interval = interval_in (chain_for m) amount; routine = r; user_data = u })
        remembered = ap {B = Memo} (λ (o : Option Mode). record { last = o; interval = interval_in (chain_for m) amount; routine = r; user_data = u }) (mode-last m)

    elsewhere : (j : Chain) → same_chain j (chain_for m) ≡ false → Stands j (e ∷ h) (map (shown (put_at s.slots i x)) (chain_of j (stopped s i x)))
    elsewhere j away =
        let g : Placed = record { begun = start; before = e ∷ h; after = [] } in
        rw (stopped-chain s i x j) (subst (Stands j (e ∷ h)) (sym (without-slot x (chain_of j s)))
        (stands-calm h v.sized e refl refl j (map (shown s.slots) (chain_of j s)) (ap (λ (b : Bool). map waiting (cond b (g ∷ []) [])) away) (v.chain j)))

    pub on-start : Agrees (started m s i amount r u) (changes id (some (start_of id m amount r u)) ∷ h)
    on-start = record {
      sized = sized-more h e v.sized (some-amount, tt);
      chain = simp with-chain-slots (with-chain-each (stopped s i x) (put_at s.slots i x) (place (λ w. w.wait) new (chain_of (chain_for m) (stopped s i x)))
          (λ j l. Stands j (e ∷ h) (map (shown (put_at s.slots i x)) l)) (chain_for m) (rw (stopped-chain s i x (chain_for m)) own) elsewhere);
      memory = λ j. simp with-chain-slots (remember j);
      per = simp with-chain-clock v.per;
      clock = simp with-chain-clock v.clock;
      split = simp with-chain-split v.split;
      initiated = simp with-chain-server v.initiated;
    }
      where
        remember : (j : ℕ) → Remembers (e ∷ h) j (memo (slot_at (put_at s.slots i x) j))
        remember = put-at (λ j y. Remembers (e ∷ h) j (memo y)) s.slots i x low high
            (λ o t p.
            let same : m ≡ o = some_same (sym (mode-last m) ∙ t) in
            let by-ticks : chain_for m ≡ ByTicks = ap chain_for same ∙ p in
            rw by-ticks (
              rw by-ticks at some-amount,
              ap (λ (b : Bool). cond b (some start) (last_start (id_base + i) h)) (eq-eqb id (id_base + i) is)
                  ∙ ap₂ {C = Option Start} (λ (n : ℕ) (o : Mode). some (start_of n o amount r u)) is same,
            ))
            (λ j n o t p.
            let w = v.memory j o t p in
            (w.0, ap (λ (b : Bool). cond b (some start) (last_start (id_base + j) h)) (other-id j n) ∙ w.1))
          where
            some_same : {a b : Mode} → some a ≡ some b → a ≡ b
            some_same e = cc
