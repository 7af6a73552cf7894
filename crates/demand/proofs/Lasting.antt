-- Which ids name timers after an accepted call: a create's is new, a delete's and after a lay out all are gone, and no other call changes any.
-- What a call writes to a slot that is not free leaves it so. Assumes nothing.
use mathlib.Core.Path.{◌≡◌, refl, sym, ap, ap₂, ◌∙◌, subst}
use Prim.Native.Nat.{ℕ, ◌+◌, ◌<◌}
use native.Mathlib.Omega.{arith}
use mathlib.Core.Bool.{Bool, true, false, not, ◌&&◌, ◌||◌}
use mathlib.Core.List.{List, [], ◌∷◌}
use lib.ListN.{length}
use lib.Dec.{leb, ltb, eqb}
use borrow.Author.Tests.{eqb-true, eqb-false, ne_eqb}
use Rattle.calendar.specs.Calendar.{all_of, seconds_of}
use Rattle.model.specs.Calls.{Call, lay_out, create, ident, cancel, delete, fire_after, fire_when, fire_every, reset, ticks_left, tick, set_clock, get_clock, next_due, initiate_server, server_fire_after, server_fire_when, serve, leap}
use Rattle.model.specs.declared.Chain.{Chain}
use Rattle.model.specs.declared.Chain.TheVariants.{ByTicks, ByDate}
use Rattle.model.specs.declared.Mode.{Mode}
use Rattle.model.specs.declared.Mode.TheVariants.{After, When, Every, ServerAfter, ServerWhen}
use Rattle.model.specs.Kinds.{waiting_kind, last_mode}
use Rattle.model.specs.State.{Slot, Link, State, with_clock, free, slot_at, put_at, id_base, index_of, names}
use Rattle.model.specs.Directives.{lowest_free, laid_out, stored, never_started, stopped, idled, waiting_as, started, fired, fired_all, due, fire, front, handed_out, nearer, clock_at, clock_step, ticked_once, effect}
use Rattle.model.specs.Words.{sum_of, read}
use Rattle.model.specs.Sound.{sound}
use Rattle.model.specs.Outcome.{Outcome, status_on, outcome, first_number}
use Rattle.demand.specs.History.{lasts_after}
use Rattle.laws.proofs.ListLaws.{cases}
use Rattle.laws.proofs.KindLaws.{stopped-free, fired-free, mode-kind}
use Rattle.laws.proofs.Slots.{at_same, at_other, length-put, field_put, blank}
use Rattle.laws.proofs.WellFormed.{times_in}
use Rattle.laws.proofs.Chains.{times-without}
use Rattle.laws.proofs.Searches.{lowest-free}
use Rattle.laws.proofs.GoingOn.{with-chain-slots}
use Rattle.laws.proofs.Steps.{fire-slots}
use Rattle.laws.proofs.AcceptedCalls.{Named, named, named-true, Accepted, accepted-facts}
use Rattle.laws.proofs.LeapLaws.{leapt-keeps}
use Rattle.laws.proofs.OutcomeLaws.{status-is, outcome-accepted}
use Rattle.laws.proofs.CallTables.{state-left}

-- the slot is free
abbrev is_free_slot : Slot → Bool
is_free_slot x = eqb x.kind 0

-- the same slots are free
record SameFree (sl sl' : List Slot) : Type 0 where
  as_many : length sl' ≡ length sl
  same : (i : ℕ) → is_free_slot (slot_at sl' i) ≡ is_free_slot (slot_at sl i)

same_names : (s s' : State) → SameFree s.slots s'.slots → (id : ℕ) → names s' id ≡ names s id
same_names s s' h id =
    ap₂ (λ (n : ℕ) (b : Bool). all_of (ltb id_base id ∷ leb (index_of id) n ∷ not b ∷ [])) h.as_many (h.same (index_of id))

-- ---- slots written

put-free : (sl : List Slot) (i : ℕ) (x : Slot) → is_free_slot x ≡ is_free_slot (slot_at sl i) → SameFree sl (put_at sl i x)
put-free sl i x e = record { as_many = length-put sl i x; same = λ j. field_put is_free_slot sl i j x e }

then-free : (a b c : List Slot) → SameFree a b → SameFree b c → SameFree a c
then-free a b c p q = record { as_many = q.as_many ∙ p.as_many; same = λ i. q.same i ∙ p.same i }

fired-slots : (ws : List Link) (sl : List Slot) → SameFree sl (fired_all ws sl)
fired-slots [] sl = record { as_many = refl; same = λ i. refl }
fired-slots (w ∷ ws) sl =
    let x = slot_at sl w.slot in
    let next = put_at sl w.slot (fired x) in
    then-free sl next (fired_all ws next) (put-free sl w.slot (fired x) (fired-free x.kind)) (fired-slots ws next)

fire-free : (k : Chain) (limit : ℕ) (s : State) → SameFree s.slots (fire k limit s).slots
fire-free k limit s = rw (fire-slots k limit s) (fired-slots (due k limit s) s.slots)

tick-free : (s : State) → SameFree s.slots (ticked_once s).slots
tick-free s =
    let clock = clock_step s.clock in
    let ticked = fire ByTicks 0 (nearer s) in
    then-free s.slots ticked.slots (fire ByDate clock.second (with_clock ticked clock)).slots
    (fire-free ByTicks 0 (nearer s)) (fire-free ByDate clock.second (with_clock ticked clock))

start-free : (s : State) (m : Mode) (id amount r u : ℕ) → Named s id → SameFree s.slots (started m s (index_of id) amount r u).slots
start-free s m id amount r u is =
    let x = slot_at s.slots (index_of id) in
    simp with-chain-slots (put-free s.slots (index_of id) (waiting_as m x amount r u)
    (ne_eqb (waiting_kind m) 0 (λ z. omega (arith, (mode-kind m).0)) ∙ sym (ne_eqb x.kind 0 is.alive)))

-- ---- a timer that comes, and one that goes

-- another slot than i is written
others-free : (s s' : State) (i : ℕ) (x : Slot) → s'.slots ≡ put_at s.slots i x → (id : ℕ) → (index_of id ≡ i → ⊥) → names s' id ≡ names s id
others-free s s' i x is id n =
    ap₂ (λ (m : ℕ) (y : Slot). all_of (ltb id_base id ∷ leb (index_of id) m ∷ not (is_free_slot y) ∷ []))
    (ap length is ∙ length-put s.slots i x) (ap (λ sl. slot_at sl (index_of id)) is ∙ at_other s.slots i (index_of id) x n)

pub none-laid : (n t split id : ℕ) → names (laid_out n t split) id ≡ false
none-laid n t split id =
    cases (names (laid_out n t split) id)
    (λ e. absurd ((named (laid_out n t split) id e).alive (ap (λ (x : Slot). x.kind) (blank n (index_of id)))))
    (λ e. e)

module _ (s : State) where
  -- a slot that is free belongs to no timer
  no-timer : (i : ℕ) → (slot_at s.slots i).kind ≡ 0 → (id : ℕ) → index_of id ≡ i → names s id ≡ false
  no-timer i gone id is =
      cases (names s id) (λ e. absurd ((named s id e).alive (ap (λ (j : ℕ). (slot_at s.slots j).kind) is ∙ gone))) (λ e. e)

  created : (party name : ℕ) → 0 < lowest_free s party → (id : ℕ)
      → names (stored s (lowest_free s party) (never_started name)) id ≡ (eqb (id_base + lowest_free s party) id || names s id)
  created party name some id =
      let i = lowest_free s party in
      let s' = stored s i (never_started name) in
      let at = lowest-free s party some in
      cases (eqb (id_base + i) id)
      (λ e.
      let is : index_of id ≡ i = omega (arith, eqb-true (id_base + i) id e) in
      rw e (named-true s' id (record {
        is = omega (arith, eqb-true (id_base + i) id e);
        low = omega (arith, is, at.low);
        high = omega (arith, is, at.high, length-put s.slots i (never_started name));
        alive = λ z.
            let one : 1 ≡ 0 =
            sym (ap (λ (x : Slot). x.kind) (at_same s.slots i (never_started name) at.low at.high))
            ∙ ap (λ (j : ℕ). (slot_at s'.slots j).kind) (sym is) ∙ z in
            omega arith;
      })))
      (λ e. rw e (others-free s s' i (never_started name) refl id (λ is. eqb-false (id_base + i) id e (omega (arith, is, at.low)))))

  created-anew : (party : ℕ) → 0 < lowest_free s party → names s (id_base + lowest_free s party) ≡ false
  created-anew party some = let i = lowest_free s party in no-timer i (lowest-free s party some).is_free (id_base + i) (omega arith)

  deleted : (d : ℕ) → Named s d → (id : ℕ) → names (stopped s (index_of d) free) id ≡ (not (eqb d id) && names s id)
  deleted d is id =
      let s' = stopped s (index_of d) free in
      cases (eqb d id)
      (λ e. rw e (cases (names s' id)
      (λ f. absurd ((named s' id f).alive (ap (λ (j : ℕ). (slot_at s'.slots j).kind) (ap index_of (sym (eqb-true d id e)))
      ∙ ap (λ (x : Slot). x.kind) (at_same s.slots (index_of d) free is.low is.high))))
      (λ f. f)))
      (λ e. rw e (others-free s s' (index_of d) free refl id (λ same. eqb-false d id e (omega (arith, is.is, is.low, same)))))

-- ---- every call

lasts-step : (words : List ℕ) (s : State) (c : Call) → Accepted words s c → (id : ℕ)
    → names (effect words s c).state id ≡ lasts_after c (first_number (effect words s c).answer) id (names s id)
lasts-step words s (lay_out n t split) p id = none-laid n t split id
lasts-step words s (create party name) p id = created s party name p.1 id
lasts-step words s (ident party name) p id = refl
lasts-step words s (cancel party d) p id =
    let x = slot_at s.slots (index_of d) in
    same_names s (stopped s (index_of d) (idled x)) (put-free s.slots (index_of d) (idled x) (stopped-free x.kind)) id
lasts-step words s (delete party d) p id = deleted s d p.0 id
lasts-step words s (fire_after party d n r u) p id =
    same_names s (started After s (index_of d) n r u) (start-free s After d n r u p.names-one) id
lasts-step words s (fire_when party d w r u) p id =
    same_names s (started When s (index_of d) (seconds_of w) r u) (start-free s When d (seconds_of w) r u p.names-one) id
lasts-step words s (fire_every party d n r u) p id =
    same_names s (started Every s (index_of d) n r u) (start-free s Every d n r u p.names-one) id
lasts-step words s (reset party d) p id =
    let x = slot_at s.slots (index_of d) in
    same_names s (effect words s (reset party d)).state (start-free s (last_mode x.kind) d x.interval x.routine x.user_data p.0) id
lasts-step words s (ticks_left party d) p id = refl
lasts-step words s (tick list) p id = same_names s (ticked_once s) (tick-free s) id
lasts-step words s (set_clock w list) p id =
    same_names s (effect words s (set_clock w list)).state
    (fire-free ByDate (seconds_of w) (with_clock s (clock_at s.clock (seconds_of w) w.ticks))) id
lasts-step words s get_clock p id = refl
lasts-step words s next_due p id = refl
lasts-step words s initiate_server p id = refl
lasts-step words s (server_fire_after party d n r u) p id =
    same_names s (started ServerAfter s (index_of d) n r u) (start-free s ServerAfter d n r u p.1.names-one) id
lasts-step words s (server_fire_when party d w r u) p id =
    same_names s (started ServerWhen s (index_of d) (seconds_of w) r u) (start-free s ServerWhen d (seconds_of w) r u p.1.names-one) id
lasts-step words s (serve party list) p id = same_names s (handed_out s party) (fired-slots (front s party) s.slots) id
lasts-step words s (leap k list) p id =
    leapt-keeps (λ z. names z id ≡ names s id) (λ z e. same_names z (ticked_once z) (tick-free z) id ∙ e) k s refl

module _ (t : List ℕ) (ok : sound t ≡ true) where
  facts : (c : Call) → status_on t c ≡ 0 → Accepted t (read t) c
  facts c e = accepted-facts t (read t) c (sym (status-is t c) ∙ e)

  answer-is : (c : Call) → status_on t c ≡ 0 → (outcome t c).answer ≡ (effect t (read t) c).answer
  answer-is c e = ap (λ (o : Outcome). o.answer) (outcome-accepted t c e)

  pub lasts_on : (c : Call) → status_on t c ≡ 0 → (id : ℕ)
      → names (read (outcome t c).table) id ≡ lasts_after c (first_number (outcome t c).answer) id (names (read t) id)
  lasts_on c e id =
      ap (λ (s : State). names s id) (state-left t ok c e) ∙ lasts-step t (read t) c (facts c e) id
      ∙ ap (λ (a : List ℕ). lasts_after c (first_number a) id (names (read t) id)) (sym (answer-is c e))

  pub anew-on : (party name : ℕ) (c : Call) → c ≡ create party name → status_on t c ≡ 0 → names (read t) (first_number (outcome t c).answer) ≡ false
  anew-on party name c is =
      subst (λ (d : Call). status_on t d ≡ 0 → names (read t) (first_number (outcome t d).answer) ≡ false) (sym is)
      (λ e. ap (λ (a : List ℕ). names (read t) (first_number a)) (answer-is (create party name) e)
      ∙ created-anew (read t) party (facts (create party name) e).1)

  pub cancelled-on : (party id : ℕ) (c : Call) → c ≡ cancel party id → status_on t c ≡ 0
      → sum_of (λ _ l. times_in l (index_of id)) (read (outcome t c).table) ≡ 0
  cancelled-on party id c is =
      subst (λ (d : Call). status_on t d ≡ 0 → sum_of (λ _ l. times_in l (index_of id)) (read (outcome t d).table) ≡ 0) (sym is)
      (λ e.
      ap (sum_of (λ _ l. times_in l (index_of id))) (state-left t ok (cancel party id) e)
      ∙ omega (arith, times-without (index_of id) (read t).ticking, times-without (index_of id) (read t).dated, times-without (index_of id) (read t).queue))
