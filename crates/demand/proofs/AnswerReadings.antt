-- What demand 3 says of each call on the words, after any calls from an accepted lay out: its status and what a refusal leaves, the header words, the clock
-- and how far it is moved, what a tick and a set clock list, the ids that name a timer, and the words that no call changes. Assumes nothing.
use mathlib.Core.Path.{◌≡◌, refl, sym, ap, ap₂, ◌∙◌, subst}
use Prim.Native.Nat.{ℕ, suc, ◌+◌, ◌-◌, ◌*◌, ◌≤◌, ◌<◌, min}
use native.Mathlib.Omega.{arith}
use mathlib.Core.Bool.{Bool, true, false, cond, not, ◌&&◌, ◌||◌}
use mathlib.Core.Option.{Option, none, some}
use mathlib.Core.List.{List, [], ◌∷◌, ◌++◌, map, append-nil}
use lib.ListN.{length, replicate}
use lib.IntN.{pos, ◌-ℤ◌}
use lib.Dec.{eqb}
use borrow.Author.Tests.{eqb-true, eqb-false, eq-eqb, ne_eqb}
use Rattle.calendar.specs.declared.WallTime.{WallTime}
use Rattle.calendar.specs.Calendar.{seconds_of, date_of, last_second}
use Rattle.model.specs.Lists.{least, keep, InOrder}
use Rattle.model.specs.Calls.{Call, lay_out, create, ident, cancel, delete, reset, ticks_left, tick, set_clock, get_clock, next_due, serve, leap, lent_to, answer_count, is_leap}
use Rattle.model.specs.declared.Chain.{Chain}
use Rattle.model.specs.declared.Chain.TheVariants.{ByTicks, ByDate}
use Rattle.model.specs.Kinds.{chain_for}
use Rattle.model.specs.State.{wait_at, id_base, index_of, names}
use Rattle.model.specs.Parties.{owns}
use Rattle.model.specs.Words.{word, links, read, slot_count, ticks_per_second, clock_set, seconds, ticks_into, party_split, kind_of, name_of}
use Rattle.model.specs.Directives.{numbers}
use Rattle.model.specs.Sound.{sound}
use Rattle.model.specs.Statuses.{times_linked, status_for, StatusesAre}
use Rattle.model.specs.Outcome.{outcome, movement, first_number, after}
use Rattle.model.specs.Entries.{Begins}
use Rattle.demand.specs.History.{Start, Event, changes, one_tick, clock_set_to, event_of, last_start, lasts_after, per_second, split_of, clock_after, moves_clock, Placed, starts, waits, fires, in_chain, ticks_left_or_date, entry_of, entry, party_served}
use Rattle.demand.specs.Demand.{events_after, Standing, Answers}
use Rattle.laws.proofs.Order.{one-order}
use Rattle.demand.proofs.QueueLaws.{none-handed}
use Rattle.demand.proofs.Demand3.{demand3}

-- what a tick or set clock does to its list on the table u, where the interval timers l and the dated ones d fire in it: it writes their entries and no
-- other word, and answers how many they are, which is at most N
pub record Writes (u : List ℕ) (c : Call) (list : List ℕ) (l d : List Placed) : Type 0 where
  pub entries : Begins (outcome u c).list list (map entry (l ++ d))
  pub counted : (outcome u c).answer ≡ length (l ++ d) ∷ []
  pub few : length (l ++ d) ≤ slot_count u

-- these are the timers of chain k that fire in the event e after the others, in firing order
abbrev pub FiringIn : Chain → Event → List Event → List Placed → Type 0
FiringIn k e es l = InOrder ticks_left_or_date (keep (in_chain k) (keep (fires e) (starts es))) l

-- a clock that is set where the words say so, and stands where they say
set_at : (b : Bool) (m k : ℕ) → some k ≡ cond b (some m) none → (b ≡ true) × (m ≡ k)
set_at true m k e = (refl, cc)
set_at false m k e = let z : ◌≡◌ {A = ℕ} 0 1 = cc in absurd (omega arith)

not_set : (b : Bool) (m : ℕ) → none ≡ cond b (some m) none → b ≡ false
not_set true m e = let z : ◌≡◌ {A = ℕ} 0 1 = cc in absurd (omega arith)
not_set false m e = refl

module _ (w : List ℕ) (n t split : ℕ) (ok : (outcome w (lay_out n t split)).status ≡ 0) where
  -- A lay out leaves no timer.
  pub none-at-first : (id : ℕ) → names (read (after w (lay_out n t split ∷ []))) id ≡ false
  none-at-first = (demand3 w n t split ok []).empty

module _ (w : List ℕ) (n t split : ℕ) (ok : (outcome w (lay_out n t split)).status ≡ 0) (xs : List Call) where
  abbrev u : List ℕ
  u = after w (lay_out n t split ∷ xs)

  abbrev es : List Event
  es = events_after w (lay_out n t split ∷ xs)

  -- what the table has to be after the calls, and what one call more has to answer
  standing : Standing u es
  standing = (demand3 w n t split ok xs).standing xs [] (append-nil xs)

  answers : (c : Call) → Answers u es c (event_of es c)
  answers c = (demand3 w n t split ok (xs ++ (c ∷ []))).answers xs [] c refl

  -- ---- statuses, and what a refusal leaves

  -- Every call gives its number, and where that is not 0 leaves all as it was.
  pub status-now : (c : Call) → (outcome u c).status ≡ status_for u c
  status-now c = (answers c).status

  pub refused-now : (c : Call) → ((outcome u c).status ≡ 0 → ⊥)
      → ((outcome u c).table ≡ u) × ((outcome u c).list ≡ lent_to c) × ((outcome u c).answer ≡ replicate (answer_count c) 0)
  refused-now c = (answers c).refuses

  -- The list that is left is the one that a tick, a set clock, a serve or a leap was lent.
  module _ (c : Call) (list : List ℕ) (refused : (outcome u c).status ≡ 0 → ⊥) where
    pub tick-leaves-list : c ≡ tick list → (outcome u c).list ≡ list
    tick-leaves-list is = (refused-now c refused).1 ∙ (answers c).lent-tick list is

    pub set-clock-leaves-list : (at : WallTime) → c ≡ set_clock at list → (outcome u c).list ≡ list
    set-clock-leaves-list at is = (refused-now c refused).1 ∙ (answers c).lent-set at list is

    pub serve-leaves-list : (party : ℕ) → c ≡ serve party list → (outcome u c).list ≡ list
    serve-leaves-list party is = (refused-now c refused).1 ∙ (answers c).lent-serve party list is

    pub leap-leaves-list : (k : ℕ) → c ≡ leap k list → (outcome u c).list ≡ list
    leap-leaves-list k is = (refused-now c refused).1 ∙ (answers c).lent-leap k list is

  -- ---- the words

  -- The table is sound, and words past 10 + 8N are never changed.
  pub sound-now : sound u ≡ true
  sound-now = standing.is-sound

  pub words-beyond-now : (c : Call) → (length (outcome u c).table ≡ length u)
      × ((m : ℕ) → 10 + 8 * slot_count (outcome u c).table ≤ m → word (outcome u c).table m ≡ word u m)
  words-beyond-now c = ((answers c).size, (answers c).beyond)

  -- Word 1 is T, and word 7 L, of the last lay out.
  pub word-1 : ticks_per_second u ≡ per_second es
  word-1 = sym standing.rate

  pub word-7 : party_split u ≡ split_of es
  word-7 = sym standing.split

  -- ---- the clock

  -- It is set from a set clock on, and stands, counted in ticks, where the set clocks and ticks have brought it; before that word 2 is not 1.
  pub clock-stands : (k : ℕ) → clock_after 0 es ≡ some k → (clock_set u ≡ 1) × (seconds u * ticks_per_second u + ticks_into u ≡ k)
  clock-stands k is =
      let (b, at) = set_at (eqb (clock_set u) 1) (seconds u * ticks_per_second u + ticks_into u) k (sym is ∙ standing.clock) in (eqb-true (clock_set u) 1 b, at)

  pub clock-unset : clock_after 0 es ≡ none → clock_set u ≡ 1 → ⊥
  clock-unset is = eqb-false (clock_set u) 1 (not_set (eqb (clock_set u) 1) (seconds u * ticks_per_second u + ticks_into u) (sym is ∙ standing.clock))

  -- Get clock gives the date of its second and, in ticks, those into it.
  pub get-clock-now : (outcome u get_clock).status ≡ 0 → (outcome u get_clock).answer ≡ numbers (date_of (seconds u)) (ticks_into u)
  get-clock-now = (answers get_clock).reads refl

  -- A set clock moves it from where it stood to the second and the ticks given; by 0 where it was not set, and where it is refused.
  module _ (at : WallTime) (list : List ℕ) where
    pub set-clock-moved : (outcome u (set_clock at list)).status ≡ 0 → clock_set u ≡ 1
        → movement u at list ≡ pos (min (seconds_of at * ticks_per_second u + at.ticks + 0) (suc last_second * ticks_per_second u - 1))
        -ℤ pos (seconds u * ticks_per_second u + ticks_into u)
    set-clock-moved accepted is =
        (answers (set_clock at list)).moves at list refl accepted (seconds u * ticks_per_second u + ticks_into u)
        (min (seconds_of at * ticks_per_second u + at.ticks + 0) (suc last_second * ticks_per_second u - 1))
        (standing.clock ∙ ap (λ (b : Bool). cond b (some (seconds u * ticks_per_second u + ticks_into u)) none) (eq-eqb (clock_set u) 1 is))
        (ap {B = Option ℕ} (λ (p : ℕ). some (min (seconds_of at * p + at.ticks + 0) (suc last_second * p - 1))) standing.rate)

    pub first-set-clock-moved : (outcome u (set_clock at list)).status ≡ 0 → (clock_set u ≡ 1 → ⊥) → movement u at list ≡ pos 0
    first-set-clock-moved accepted unset =
        (answers (set_clock at list)).moves-first at list refl accepted
        (standing.clock ∙ ap (λ (b : Bool). cond b (some (seconds u * ticks_per_second u + ticks_into u)) none) (ne_eqb (clock_set u) 1 unset))

    pub refused-set-clock-moved : ((outcome u (set_clock at list)).status ≡ 0 → ⊥) → movement u at list ≡ pos 0
    refused-set-clock-moved = (answers (set_clock at list)).stays at list refl

  -- ---- what a tick and a set clock list

  -- either, as a call that moves the clock and serves nobody
  fired-in : (c : Call) (list : List ℕ) → lent_to c ≡ list → is_leap c ≡ false → moves_clock (event_of es c) ≡ true → party_served (event_of es c) ≡ 0
      → (outcome u c).status ≡ 0 → (l d : List Placed) → FiringIn ByTicks (event_of es c) es l → FiringIn ByDate (event_of es c) es d → Writes u c list l d
  fired-in c list lent one moving hands accepted l d by-ticks by-date =
      let e = event_of es c in
      let a = (answers c).lists one accepted in
      let same : a.ticking ++ a.dated ≡ l ++ d =
      ap₂ (λ (x y : List Placed). x ++ y)
      (one-order ticks_left_or_date (keep (in_chain ByTicks) (keep (fires e) (starts es))) a.ticking l a.ticking-order by-ticks)
      (one-order ticks_left_or_date (keep (in_chain ByDate) (keep (fires e) (starts es))) a.dated d a.dated-order by-date) in
      record {
        entries = subst (λ (x : List ℕ). Begins (outcome u c).list x (map entry (l ++ d))) lent
            (subst (Begins (outcome u c).list (lent_to c))
            (ap₂ (λ (x : List Placed) (q : List Start). map entry x ++ map entry_of q) same (none-handed (split_of es) e a.queue hands)
            ∙ append-nil (map entry (l ++ d))) a.entries);
        counted = a.counted moving ∙ ap (λ (x : List Placed). length x ∷ []) same;
        few = subst (λ (x : List Placed). length x ≤ slot_count u) same a.few;
      }

  -- Each writes the timers that are due in it, interval ones first, and no other word, and answers how many.
  pub tick-writes : (list : List ℕ) → (outcome u (tick list)).status ≡ 0 → (l d : List Placed)
      → FiringIn ByTicks one_tick es l → FiringIn ByDate one_tick es d → Writes u (tick list) list l d
  tick-writes list = fired-in (tick list) list ((answers (tick list)).lent-tick list refl) refl refl refl

  pub set-clock-writes : (at : WallTime) (list : List ℕ) → (outcome u (set_clock at list)).status ≡ 0 → (l d : List Placed)
      → let e = clock_set_to (seconds_of at) at.ticks in
      FiringIn ByTicks e es l → FiringIn ByDate e es d → Writes u (set_clock at list) list l d
  set-clock-writes at list = fired-in (set_clock at list) list ((answers (set_clock at list)).lent-set at list refl) refl refl refl

  -- ---- timers

  -- Create and ident answer the caller's lowest free slot, and its lowest with that name.
  pub create-finds : (party name : ℕ) → (outcome u (create party name)).status ≡ 0
      → (i : ℕ) × ((outcome u (create party name)).answer ≡ (id_base + i) ∷ []) × (1 ≤ i) × (i ≤ slot_count u) × (owns (party_split u) party i ≡ true)
      × (eqb (kind_of u i) 0 ≡ true) × ((j : ℕ) → 1 ≤ j → j < i → owns (party_split u) party j ≡ true → eqb (kind_of u j) 0 ≡ false)
  create-finds party name accepted =
      let (i, is, l) = (answers (create party name)).creates party name refl accepted in (i, is, l.low, l.high, l.own, l.passes, l.least)

  pub ident-finds : (party name : ℕ) → (outcome u (ident party name)).status ≡ 0
      → (i : ℕ) × ((outcome u (ident party name)).answer ≡ (id_base + i) ∷ []) × (1 ≤ i) × (i ≤ slot_count u) × (owns (party_split u) party i ≡ true)
      × (eqb (name_of u i) name ≡ true) × ((j : ℕ) → 1 ≤ j → j < i → owns (party_split u) party j ≡ true → eqb (name_of u j) name ≡ false)
  ident-finds party name accepted =
      let (i, is, l) = (answers (ident party name)).finds party name refl accepted in (i, is, l.low, l.high, l.own, l.passes, l.least)

  -- An id names a timer from its create to its delete or a lay out.
  pub id-lasts : (c : Call) → (outcome u c).status ≡ 0 → (id : ℕ)
      → names (read (outcome u c).table) id ≡ lasts_after c (first_number (outcome u c).answer) id (names (read u) id)
  id-lasts c = (answers c).lasts

  -- An accepted create answers an id that named no timer and now does; an accepted delete leaves it naming none.
  pub created-anew : (party name : ℕ) → let o = outcome u (create party name) in
      o.status ≡ 0 → (names (read u) (first_number o.answer) ≡ false) × (names (read o.table) (first_number o.answer) ≡ true)
  created-anew party name accepted =
      let id = first_number (outcome u (create party name)).answer in (
        (answers (create party name)).anew party name refl accepted,
        id-lasts (create party name) accepted id ∙ ap (λ (b : Bool). b || names (read u) id) (eq-eqb id id refl),
      )

  pub deleted-now : (party id : ℕ) → (outcome u (delete party id)).status ≡ 0 → names (read (outcome u (delete party id)).table) id ≡ false
  deleted-now party id accepted = id-lasts (delete party id) accepted id ∙ ap (λ (b : Bool). not b && names (read u) id) (eq-eqb id id refl)

  -- An accepted cancel leaves the timer in no chain.
  pub cancelled-now : (party id : ℕ) → (outcome u (cancel party id)).status ≡ 0 → times_linked (outcome u (cancel party id)).table (index_of id) ≡ 0
  cancelled-now party id = (answers (cancel party id)).cancelled party id refl

  -- An accepted reset is the timer's last start again, which is one for ticks.
  pub reset-starts-last : (party id : ℕ) → (outcome u (reset party id)).status ≡ 0
      → (s : Start) × (event_of es (reset party id) ≡ changes id (some s)) × (last_start id es ≡ some s) × (s.id ≡ id) × (chain_for s.mode ≡ ByTicks)
  reset-starts-last party id accepted =
      let (s, is, its, chain, last) = (answers (reset party id)).restarts party id refl accepted in (s, is, last, its, chain)

  -- Ticks left are those that the links from word 5 give.
  pub ticks-left-read : (party id : ℕ) → (outcome u (ticks_left party id)).status ≡ 0
      → (outcome u (ticks_left party id)).answer ≡ wait_at (index_of id) (links ByTicks u) ∷ []
  ticks-left-read party id = (answers (ticks_left party id)).left party id refl

  -- Next due is accepted, and answers the least ticks left over all waiting interval timers, 0 if none.
  pub next-due-now : ((outcome u next_due).status ≡ 0)
      × ((outcome u next_due).answer ≡ least (map ticks_left_or_date (keep (in_chain ByTicks) (keep waits (starts es)))) ∷ [])
  next-due-now = (answers next_due).next refl

-- The statuses are said of every slice, sound or not.
pub statuses-told : StatusesAre → (t : List ℕ) (c : Call) → (outcome t c).status ≡ status_for t c
statuses-told h t c = h t c
