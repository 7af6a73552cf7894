-- What demand 3 says of the two chains on the words: by next from word 5 or 6 they give their waiting timers in firing order, by previous the same in
-- reverse, and each timer once; so a timer started for n ticks has n - m left after m accepted ticks. Assumes nothing.
use mathlib.Core.Path.{◌≡◌, refl, sym, ap, ap₂, ◌∙◌, subst}
use Prim.Native.Nat.{ℕ, suc, ◌+◌, ◌-◌, ◌%◌, ◌≤◌, ◌<◌}
use native.Mathlib.Omega.{arith}
use mathlib.Core.Bool.{Bool, true, false, not, ◌&&◌}
use mathlib.Core.Option.{some}
use mathlib.Core.List.{List, [], ◌∷◌, ◌++◌, map, map-map, reverse, reverse_aux, append-nil, Memᴰ}
use lib.Dec.{eqb}
use borrow.Author.Tests.{eq-eqb}
use Rattle.model.specs.Lists.{keep, any, count, InOrder}
use Rattle.model.specs.Calls.{Call, lay_out, fire_after, fire_every, ticks_left}
use Rattle.model.specs.declared.Chain.{Chain}
use Rattle.model.specs.declared.Chain.TheVariants.{ByTicks, ByDate, Queue}
use Rattle.model.specs.declared.Mode.TheVariants.{After, Every}
use Rattle.model.specs.Kinds.{kind_at, chain_for, same_chain, interval_in}
use Rattle.model.specs.State.{Link, slot_at, wait_at, id_base, index_of}
use Rattle.model.specs.Words.{first, along, links, read, slot_count, previous_of}
use Rattle.model.specs.Statuses.{times_linked}
use Rattle.model.specs.Outcome.{outcome, after}
use Rattle.demand.specs.History.{Start, start_of, Event, changes, event_of, Placed, starts, was_due_in, waits, in_chain, ticks_left_or_date, Waiting, waiting, IsQueue, queued_as}
use Rattle.demand.specs.Demand.{shown, events_after, Standing}
use Rattle.laws.proofs.ListLaws.{cases}
use Rattle.laws.proofs.Order.{one-order}
use Rattle.demand.proofs.QueueLaws.{one-queue}
use Rattle.demand.proofs.Demand3.{demand3}
use Rattle.demand.proofs.Readings.{start_at, not_yet, in-its-list}
use Rattle.demand.proofs.CallReadings.{is_tick_call, ends_timer, at_start, since, whole, more, events-since}

-- these are the timers that wait in chain k after the events, in firing order
abbrev pub WaitingIn : Chain → List Event → List Placed → Type 0
WaitingIn k es l = InOrder ticks_left_or_date (keep (in_chain k) (keep waits (starts es))) l

-- What the links of chain k on the table u give of these timers: id and ticks left or date, the mode, interval, routine and data of the start; and
-- the ids in reverse, by previous from its last slot.
pub record Gives (u : List ℕ) (k : Chain) (l : List Placed) : Type 0 where
  pub ids : map (λ v. id_base + v.slot) (links k u) ≡ map (λ g. g.begun.id) l
  pub waits : map (λ v. v.wait) (links k u) ≡ map ticks_left_or_date l
  pub modes : map (λ v. (kind_at (slot_at (read u).slots v.slot).kind).last) (links k u) ≡ map (λ g. some g.begun.mode) l
  pub intervals : map (λ v. (slot_at (read u).slots v.slot).interval) (links k u)
      ≡ map (λ g. interval_in (chain_for g.begun.mode) g.begun.amount) l
  pub routines : map (λ v. (slot_at (read u).slots v.slot).routine) (links k u) ≡ map (λ g. g.begun.routine) l
  pub user-data : map (λ v. (slot_at (read u).slots v.slot).user_data) (links k u) ≡ map (λ g. g.begun.user_data) l
  pub backwards : map (λ i. id_base + i) (along (previous_of u) (slot_count u) (first (reverse (links k u)))) ≡ reverse (map (λ g. g.begun.id) l)

-- the elements of a list turned round
map-reversed : {A B : Type 0} (f : A → B) (l r : List A) → map f (reverse_aux l r) ≡ reverse_aux (map f l) (map f r)
map-reversed f [] r = refl
map-reversed f (x ∷ l) r = map-reversed f l (x ∷ r)

module _ (w : List ℕ) (n t split : ℕ) (ok : (outcome w (lay_out n t split)).status ≡ 0) (xs : List Call) where
  abbrev u : List ℕ
  u = after w (lay_out n t split ∷ xs)

  abbrev es : List Event
  es = events_after w (lay_out n t split ∷ xs)

  -- what the table has to be after the calls
  standing : Standing u es
  standing = (demand3 w n t split ok xs).standing xs [] (append-nil xs)

  -- ---- by next, and by previous

  -- by previous the ids of the links, in reverse
  in-reverse : (k : Chain) → map (λ i. id_base + i) (along (previous_of u) (slot_count u) (first (reverse (links k u))))
      ≡ reverse (map (λ v. id_base + v.slot) (links k u))
  in-reverse k =
      ap (map (λ i. id_base + i)) (standing.by-previous k) ∙ map-map (λ i. id_base + i) (λ (v : Link). v.slot) (reverse (links k u))
      ∙ map-reversed (λ (v : Link). id_base + v.slot) (links k u) []

  -- one part of what is shown, and all of them
  part : {A : Type 0} (k : Chain) (l : List Placed) → map (shown (read u).slots) (links k u) ≡ map waiting l → (f : Waiting → A)
      → map (λ v. f (shown (read u).slots v)) (links k u) ≡ map (λ g. f (waiting g)) l
  part k l is f = sym (map-map f (shown (read u).slots) (links k u)) ∙ ap (map f) is ∙ map-map f waiting l

  given : (k : Chain) (l : List Placed) → map (shown (read u).slots) (links k u) ≡ map waiting l → Gives u k l
  given k l is = record {
    ids = part k l is (λ x. x.shows.id);
    waits = part k l is (λ x. x.wait);
    modes = part k l is (λ x. x.mode);
    intervals = part k l is (λ x. x.interval);
    routines = part k l is (λ x. x.shows.routine);
    user-data = part k l is (λ x. x.shows.user_data);
    backwards = in-reverse k ∙ ap reverse (part k l is (λ x. x.shows.id));
  }

  -- what the links of each chain show
  ticks-are : (l : List Placed) → WaitingIn ByTicks es l → map (shown (read u).slots) (links ByTicks u) ≡ map waiting l
  ticks-are l o =
      let s = standing.by_next ByTicks in
      s.2 ∙ ap (map waiting) (one-order ticks_left_or_date (keep (in_chain ByTicks) (keep waits (starts es))) s.0 l s.1 o)

  dates-are : (l : List Placed) → WaitingIn ByDate es l → map (shown (read u).slots) (links ByDate u) ≡ map waiting l
  dates-are l o =
      let s = standing.by_next ByDate in
      s.2 ∙ ap (map waiting) (one-order ticks_left_or_date (keep (in_chain ByDate) (keep waits (starts es))) s.0 l s.1 o)

  -- The interval chain gives its waiting timers in firing order, and so does the dated chain.
  pub ticks-chain : (l : List Placed) → WaitingIn ByTicks es l → Gives u ByTicks l
  ticks-chain l o = given ByTicks l (ticks-are l o)

  pub dates-chain : (l : List Placed) → WaitingIn ByDate es l → Gives u ByDate l
  dates-chain l o = given ByDate l (dates-are l o)

  -- The queue gives its timers by previous too.
  pub queue-back : (q : List Start) → IsQueue es q
      → map (λ i. id_base + i) (along (previous_of u) (slot_count u) (first (reverse (links Queue u)))) ≡ reverse (map (λ s. s.id) q)
  queue-back q is =
      let s = standing.by_next Queue in
      let id : Waiting → ℕ = λ x. x.shows.id in
      in-reverse Queue
      ∙ ap reverse (sym (map-map id (shown (read u).slots) (links Queue u)) ∙ ap (map id) (s.2 ∙ ap (map queued_as) (one-queue es s.0 q s.1 is))
      ∙ map-map id queued_as q)

  -- No timer stands in the chains twice.
  pub stands-once : (i : ℕ) → times_linked u i ≤ 1
  stands-once = standing.once

  -- ---- ticks left

  -- a slot of a link stands there, and where it stands there once the wait is that link's
  at-least-once : (i : ℕ) (v : Link) (l : List Link) → Memᴰ v l → v.slot ≡ i → 1 ≤ count (λ x. eqb x.slot i) l
  at-least-once i v [] x'' is = elim x'' [ ]
  at-least-once i v (x ∷ l) (mathlib.Core.List.Memᴰ.head q) is = rw (eq-eqb x.slot i (ap (λ (y : Link). y.slot) (sym q) ∙ is)) (omega arith)
  at-least-once i v (x ∷ l) (mathlib.Core.List.Memᴰ.tail m) is =
      let rest = at-least-once i v l m is in cases (eqb x.slot i) (λ e. rw e (omega arith)) (λ e. rw e rest)

  wait-of : (i : ℕ) (v : Link) (l : List Link) → Memᴰ v l → v.slot ≡ i → count (λ x. eqb x.slot i) l ≤ 1 → wait_at i l ≡ v.wait
  wait-of i v [] x3 is few = elim x3 [ ]
  wait-of i v (x ∷ l) (mathlib.Core.List.Memᴰ.head q) is few =
      rw (eq-eqb x.slot i (ap (λ (y : Link). y.slot) (sym q) ∙ is)) (ap (λ (y : Link). y.wait) (sym q))
  wait-of i v (x ∷ l) (mathlib.Core.List.Memᴰ.tail m) is few =
      cases (eqb x.slot i)
      (λ e. let two : suc (count (λ y. eqb y.slot i) l) ≤ 1 = rw e at few in absurd (omega (arith, at-least-once i v l m is)))
      (λ e. rw e (wait-of i v l m is (rw e at few)))

  -- A start that waits for ticks has as many left as it shows.
  pub left-of-start : (P Q : List Event) (party id : ℕ) (s : Start) → es ≡ Q ++ (changes id (some s) ∷ P) → s.id ≡ id
      → chain_for s.mode ≡ ByTicks → waits (start_at P id s Q) ≡ true → (outcome u (ticks_left party id)).status ≡ 0
      → (outcome u (ticks_left party id)).answer ≡ ticks_left_or_date (start_at P id s Q) ∷ []
  left-of-start P Q party id s is its chain waiting-now accepted =
      let a = ((demand3 w n t split ok (xs ++ (ticks_left party id ∷ []))).answers xs [] (ticks_left party id) refl).left party id refl accepted in
      let shows = standing.by_next ByTicks in
      let g = start_at P id s Q in
      let among : Memᴰ g shows.0 =
      in-its-list waits ByTicks P Q id s shows.0 (ap (same_chain ByTicks) chain) waiting-now
      (subst (λ (h : List Event). WaitingIn ByTicks h shows.0) is shows.1) in
      let seen : Memᴰ (waiting g) (map (shown (read u).slots) (links ByTicks u)) =
      subst (Memᴰ (waiting g)) (sym shows.2) (mathlib.Core.List.Memᴰ.map waiting among) in
      let (v, linked, same) = mathlib.Core.List.Memᴰ.of_map (shown (read u).slots) (links ByTicks u) seen in
      let slot : v.slot ≡ index_of id = omega (arith, ap (λ (x : Waiting). x.shows.id) same, its) in
      a ∙ ap {B = List ℕ} (λ (m : ℕ). m ∷ [])
      (wait-of (index_of id) v (links ByTicks u) linked slot (omega (arith, standing.once (index_of id))) ∙ ap (λ (x : Waiting). x.wait) same)

-- The calls before a start, the start, and the calls after it, none of which that is accepted ends the timer.
module _ (w : List ℕ) (n t split : ℕ) (ok : (outcome w (lay_out n t split)).status ≡ 0) (before later : List Call) (party asking id k r v : ℕ) where
  -- A timer started for n ticks has n - m left after m accepted ticks, fewer than n; one started for every n, n less the ticks since its last multiple.
  pub ticks-left-fall : let start = fire_after party id k r v in
      (outcome (at_start w n t split before start later) start).status ≡ 0
      → any (ends_timer id) (since w n t split before start later) ≡ false → count is_tick_call (since w n t split before start later) < k
      → let all = after w (lay_out n t split ∷ whole w n t split before start later) in
      (outcome all (ticks_left asking id)).status ≡ 0
      → (outcome all (ticks_left asking id)).answer ≡ (k - count is_tick_call (since w n t split before start later)) ∷ []
  ticks-left-fall started quiet fewer accepted =
      let start = fire_after party id k r v in
      let es = events_after w (lay_out n t split ∷ before) in
      let m = more id (event_of es start ∷ es) (since w n t split before start later) in
      let s = start_of id After k r v in
      let due : was_due_in s (changes id (some s) ∷ es) m.events ≡ false =
      not_yet After k refl (λ e before after. refl) (omega arith) es m.events id id r v (changes id (some s) ∷ es) m.events
      (omega (arith, fewer, m.as_many)) in
      left-of-start w n t split ok (whole w n t split before start later) es m.events asking id s
      (events-since w n t split before start later refl started ∙ m.are) refl refl
      (ap₂ (λ (a b : Bool). not a && not b) (m.as-ended ∙ quiet) due) accepted
      ∙ ap {B = List ℕ} (λ (j : ℕ). (k - j) ∷ []) m.as_many

  pub ticks-left-again : let start = fire_every party id k r v in
      (outcome (at_start w n t split before start later) start).status ≡ 0
      → any (ends_timer id) (since w n t split before start later) ≡ false
      → let all = after w (lay_out n t split ∷ whole w n t split before start later) in
      (outcome all (ticks_left asking id)).status ≡ 0
      → (outcome all (ticks_left asking id)).answer ≡ (k - count is_tick_call (since w n t split before start later) % k) ∷ []
  ticks-left-again started quiet accepted =
      let start = fire_every party id k r v in
      let es = events_after w (lay_out n t split ∷ before) in
      let m = more id (event_of es start ∷ es) (since w n t split before start later) in
      left-of-start w n t split ok (whole w n t split before start later) es m.events asking id (start_of id Every k r v)
      (events-since w n t split before start later refl started ∙ m.are) refl refl
      (ap (λ (a : Bool). not a && true) (m.as-ended ∙ quiet)) accepted
      ∙ ap {B = List ℕ} (λ (j : ℕ). (k - j % k) ∷ []) m.as_many
