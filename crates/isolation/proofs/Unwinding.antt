-- What a call is to a party's view of the state. A call of its own or of the bench, but for a leap, does to the view what it does to the state, with
-- a status and an answer that the view determines; any other call leaves the view as it is. One clause a call. Assumes nothing.
use mathlib.Core.Path.{◌≡◌, refl, sym, ap, ap₂, ◌∙◌, subst}
use Prim.Native.Nat.{ℕ, ◌+◌, ◌*◌}
use mathlib.Core.Bool.{Bool, true, false, not, ◌&&◌}
use mathlib.Core.List.{List, [], ◌∷◌}
use lib.ListN.{length}
use lib.Dec.{leb, ltb, eqb}
use borrow.Author.Tests.{eqb-true, eqb-false}
use Rattle.calendar.specs.declared.WallTime.{WallTime}
use Rattle.calendar.specs.Calendar.{all_of, seconds_of}
use Rattle.model.specs.Lists.{keep}
use Rattle.model.specs.declared.Status.TheVariants.{InvalidName, InvalidId, TooMany, InvalidSize, InvalidAddress, InvalidNumber, NotDefined, IncorrectState, InvalidClock, NotSound, ListTooShort}
use Rattle.model.specs.Status.{Refusal, first_of, when}
use Rattle.model.specs.Calls.{Call, lay_out, create, ident, cancel, delete, fire_after, fire_when, fire_every, reset, ticks_left, tick, set_clock, get_clock, next_due, initiate_server, server_fire_after, server_fire_when, serve, leap, is_leap}
use Rattle.model.specs.declared.Chain.{Chain}
use Rattle.model.specs.declared.Chain.TheVariants.{ByTicks, ByDate, Queue}
use Rattle.model.specs.declared.Mode.{Mode}
use Rattle.model.specs.declared.Mode.TheVariants.{After, When, Every, ServerAfter, ServerWhen}
use Rattle.model.specs.Kinds.{chain_for, linked, last_by_ticks, last_mode}
use Rattle.model.specs.Parties.{owns}
use Rattle.model.specs.State.{Slot, Link, State, chain_of, with_clock, free, slot_at, id_base, index_of, names, names_own}
use Rattle.model.specs.Sound.{sound}
use Rattle.model.specs.Directives.{limits, no_party, not_initiated, lowest_free, lowest_named, not_ahead, not_settable, laid_out, stored, never_started, stopped, idled, started, due, fire, without_server, nearer, clock_at, clock_step, ticked_once, due_in_tick, refusals, effect}
use Rattle.laws.proofs.ListLaws.{cases, clash, both}
use Rattle.laws.proofs.PartyLaws.{owns-one}
use Rattle.laws.proofs.Searches.{lowest-free}
use Rattle.laws.proofs.WellFormed.{Chained}
use Rattle.laws.proofs.Steps.{same-state, with-chain-split, fire-split, chained-with-clock}
use Rattle.laws.proofs.AcceptedCalls.{accepted-facts}
use Rattle.laws.proofs.OutcomeLaws.{status-is}
use Rattle.laws.proofs.NextDue.{next-due-accepted}
use Rattle.isolation.specs.Isolation.{Caller, caller_of, answer_to, stays_for}
use Rattle.isolation.proofs.Views.{keep-first, own-length, own-search, own-blank, own-listed-ones, mine, view_by, view, view-slot, view-stored, view-stopped, view-wait, other-stored, other-stopped, view-due, view-fire, view-tick, view-due-in-tick, view-started, other-started, view-front, view-handed, other-handed}

-- the status of a call on words, of which it may read the state, whether they are sound, and how many they are
abbrev pub status_in : List ℕ → State → Call → ℕ
status_in w s c = first_of (refusals w s c)

-- a slot has one owner
not-others : (split p q i : ℕ) → owns split p i ≡ true → eqb p q ≡ false → owns split q i ≡ false
not-others split p q i e f = owns-one split p q i (eqb-false p q f) e

split_started : (m : Mode) (s : State) (i amount r u : ℕ) → (started m s i amount r u).split ≡ s.split
split_started m s i amount r u = simp with-chain-split

-- the call, on other words v than those that hold the state, does to the view what it does to the state
pub record Through (v w : List ℕ) (q : ℕ) (s : State) (by : Caller) (c : Call) : Type 0 where
  pub status : status_in v (view q s) c ≡ status_in w s c
  pub state : status_in w s c ≡ 0 → (effect v (view q s) c).state ≡ view q (effect w s c).state
  pub answer : status_in w s c ≡ 0 → answer_to (caller_of by c) (effect v (view q s) c).answer ≡ answer_to (caller_of by c) (effect w s c).answer
  pub fired : (effect v (view q s) c).fired ≡ keep (mine (owns s.split q)) (effect w s c).fired

module _ (v₀ w : List ℕ) (fit₀ : sound v₀ ≡ true) (fit : sound w ≡ true) (long : length v₀ ≡ length w) (by : Caller) (q : ℕ) (s : State)
    (h : Chained s) where
  abbrev own : ℕ → Bool
  own = owns s.split q

  abbrev v : State
  v = view q s

  -- neither is refused with 100
  both-sound : sound v₀ ≡ sound w
  both-sound = fit₀ ∙ sym fit

  -- the view of a state with the same L
  view-at : (u : State) → u.split ≡ s.split → view q u ≡ view_by own u
  view-at u e = ap (λ (l : ℕ). view_by (owns l q) u) e

  -- ---- an id, and a search

  names-view : (id : ℕ) → names_own v q id ≡ names_own s q id
  names-view id =
      let i = index_of id in
      let test : ℕ → Slot → Bool = λ n x. all_of (ltb id_base id ∷ leb i n ∷ not (eqb x.kind 0) ∷ []) in
      cases (own i)
      (λ e. ap₂ (λ (n : ℕ) (x : Slot). test n x && own i) (own-length own 1 s.slots) (view-slot own s i e))
      (λ e. ap (λ (b : Bool). names v id && b) e ∙ none (names v id) ∙ sym (none (names s id)) ∙ sym (ap (λ (b : Bool). names s id && b) e))
    where
      none : (b : Bool) → (b && false) ≡ false
      none true = refl
      none false = refl

  -- what an id's rule says of its slot, where it names no slot without a look at it
  by-slot : (id : ℕ) (rule : Bool → Bool → Slot → ℕ) → ((b : Bool) (x y : Slot) → rule b false x ≡ rule b false y)
      → rule (sound v₀) (names_own v q id) (slot_at v.slots (index_of id)) ≡ rule (sound w) (names_own s q id) (slot_at s.slots (index_of id))
  by-slot id rule blind =
      let i = index_of id in
      ap₂ (λ (a b : Bool). rule a b (slot_at v.slots i)) both-sound (names-view id) ∙ cases (names_own s q id)
      (λ e. ap (rule (sound w) (names_own s q id)) (view-slot own s i (both (names s id) (own i) e).1))
      (λ e. ap (λ (b : Bool). rule (sound w) b (slot_at v.slots i)) e ∙ blind (sound w) (slot_at v.slots i) (slot_at s.slots i)
      ∙ sym (ap (λ (b : Bool). rule (sound w) b (slot_at s.slots i)) e))

  free-view : lowest_free v q ≡ lowest_free s q
  free-view = own-search own (λ x. eqb x.kind 0) 1 s.slots

  named-view : (name : ℕ) → lowest_named v q name ≡ lowest_named s q name
  named-view name = own-search own (λ x. eqb x.name name) 1 s.slots

  -- ---- its own calls

  -- the rules with which they open, given whether the table is sound
  abbrev as_party : Bool → List Refusal → List Refusal
  as_party b rest = when NotSound (not b) ∷ no_party s q ∷ rest

  through-create : (name : ℕ) → Through v₀ w q s by (create q name)
  through-create name = record {
    status = ap₂ (λ (b : Bool) (i : ℕ). first_of (as_party b (when InvalidName (eqb name 0) ∷ when TooMany (eqb i 0) ∷ []))) both-sound free-view;
    state = λ e.
        let i = lowest_free s q in
        let at = lowest-free s q (accepted-facts w s (create q name) e).1 in
        ap (λ (j : ℕ). stored v j (never_started name)) free-view ∙ sym (view-stored own s i at.own (never_started name));
    answer = λ e. ap {B = List ℕ} (λ (i : ℕ). (id_base + i) ∷ []) free-view;
    fired = refl;
  }

  through-ident : (name : ℕ) → Through v₀ w q s by (ident q name)
  through-ident name = record {
    status = ap₂ (λ (b : Bool) (i : ℕ). first_of (as_party b (when InvalidName (eqb name 0) ∷ when InvalidName (eqb i 0) ∷ [])))
        both-sound (named-view name);
    state = λ e. refl;
    answer = λ e. ap {B = List ℕ} (λ (i : ℕ). (id_base + i) ∷ []) (named-view name);
    fired = refl;
  }

  through-cancel : (id : ℕ) → Through v₀ w q s by (cancel q id)
  through-cancel id = record {
    status = by-slot id (λ a b x. first_of (as_party a (when InvalidId (not b) ∷ when IncorrectState (not (linked x.kind)) ∷ []))) (λ b x y. refl);
    state = λ e.
        let i = index_of id in
        let own-it = (accepted-facts w s (cancel q id) e).2 in
        ap (λ (x : Slot). stopped v i (idled x)) (view-slot own s i own-it) ∙ sym (view-stopped own s i own-it (idled (slot_at s.slots i)));
    answer = λ e. refl;
    fired = refl;
  }

  through-delete : (id : ℕ) → Through v₀ w q s by (delete q id)
  through-delete id = record {
    status = ap₂ (λ (a b : Bool). first_of (as_party a (when InvalidId (not b) ∷ []))) both-sound (names-view id);
    state = λ e. sym (view-stopped own s (index_of id) (accepted-facts w s (delete q id) e).1 free);
    answer = λ e. refl;
    fired = refl;
  }

  -- the rules of a start by ticks, and by date
  abbrev ticks-rules : (n r : ℕ) → Bool → List Refusal
  ticks-rules n r b = when InvalidNumber (eqb n 0) ∷ when InvalidAddress (eqb r 0) ∷ when InvalidId (not b) ∷ []

  abbrev dates-rules : (d : WallTime) (r : ℕ) → Bool → List Refusal
  dates-rules d r b =
      when NotDefined (not s.clock.is_set) ∷ when InvalidAddress (eqb r 0) ∷ when InvalidClock (not_ahead s d) ∷ when InvalidId (not b) ∷ []

  through-fire-after : (id n r u : ℕ) → Through v₀ w q s by (fire_after q id n r u)
  through-fire-after id n r u = record {
    status = ap₂ (λ (a b : Bool). first_of (as_party a (ticks-rules n r b))) both-sound (names-view id);
    state = λ e. sym (view-started own After s (index_of id) n r u (h.rises ByTicks) (accepted-facts w s (fire_after q id n r u) e).own);
    answer = λ e. refl;
    fired = refl;
  }

  through-fire-when : (id : ℕ) (d : WallTime) (r u : ℕ) → Through v₀ w q s by (fire_when q id d r u)
  through-fire-when id d r u = record {
    status = ap₂ (λ (a b : Bool). first_of (as_party a (dates-rules d r b))) both-sound (names-view id);
    state = λ e.
        sym (view-started own When s (index_of id) (seconds_of d) r u (h.rises ByDate) (accepted-facts w s (fire_when q id d r u) e).own);
    answer = λ e. refl;
    fired = refl;
  }

  through-fire-every : (id n r u : ℕ) → Through v₀ w q s by (fire_every q id n r u)
  through-fire-every id n r u = record {
    status = ap₂ (λ (a b : Bool). first_of (as_party a (ticks-rules n r b))) both-sound (names-view id);
    state = λ e. sym (view-started own Every s (index_of id) n r u (h.rises ByTicks) (accepted-facts w s (fire_every q id n r u) e).own);
    answer = λ e. refl;
    fired = refl;
  }

  through-server-after : (id n r u : ℕ) → Through v₀ w q s by (server_fire_after q id n r u)
  through-server-after id n r u = record {
    status = ap₂ (λ (a b : Bool). first_of (as_party a (not_initiated s ∷ ticks-rules n r b))) both-sound (names-view id);
    state = λ e.
        sym (view-started own ServerAfter s (index_of id) n r u (h.rises ByTicks) (accepted-facts w s (server_fire_after q id n r u) e).1.own);
    answer = λ e. refl;
    fired = refl;
  }

  through-server-when : (id : ℕ) (d : WallTime) (r u : ℕ) → Through v₀ w q s by (server_fire_when q id d r u)
  through-server-when id d r u = record {
    status = ap₂ (λ (a b : Bool). first_of (as_party a (not_initiated s ∷ dates-rules d r b))) both-sound (names-view id);
    state = λ e.
        sym (view-started own ServerWhen s (index_of id) (seconds_of d) r u (h.rises ByDate)
        (accepted-facts w s (server_fire_when q id d r u) e).1.own);
    answer = λ e. refl;
    fired = refl;
  }

  through-reset : (id : ℕ) → Through v₀ w q s by (reset q id)
  through-reset id = record {
    status = by-slot id (λ a b x. first_of (as_party a (when InvalidId (not b) ∷ when NotDefined (not (last_by_ticks x.kind)) ∷ []))) (λ b x y. refl);
    state = λ e.
        let i = index_of id in
        let own-it = (accepted-facts w s (reset q id) e).2 in
        let x = slot_at s.slots i in
        let m = last_mode x.kind in
        ap (λ (y : Slot). started (last_mode y.kind) v i y.interval y.routine y.user_data) (view-slot own s i own-it)
        ∙ sym (view-at (started m s i x.interval x.routine x.user_data) (split_started m s i x.interval x.routine x.user_data)
        ∙ view-started own m s i x.interval x.routine x.user_data (h.rises (chain_for m)) own-it);
    answer = λ e. refl;
    fired = refl;
  }

  through-ticks-left : (id : ℕ) → Through v₀ w q s by (ticks_left q id)
  through-ticks-left id = record {
    status = ap₂ (λ (a b : Bool). first_of (as_party a (when InvalidId (not b) ∷ []))) both-sound (names-view id);
    state = λ e. refl;
    answer = λ e. ap {B = List ℕ} (λ (n : ℕ). n ∷ []) (view-wait own s (index_of id) (accepted-facts w s (ticks_left q id) e).1);
    fired = refl;
  }

  through-serve : (list : List ℕ) → Through v₀ w q s by (serve q list)
  through-serve list = record {
    status = ap (λ (b : Bool). first_of (when NotSound (not b) ∷ when ListTooShort (ltb (length list) 3) ∷ no_party s q ∷ not_initiated s ∷ [])) both-sound;
    state = λ e. sym (view-handed q s);
    answer = λ e. ap {B = List ℕ} (λ (l : List Link). length l ∷ []) (view-front q s ∙ own-front);
    fired = view-front q s;
  }
    where
      own-front : keep (mine own) (effect w s (serve q list)).fired ≡ (effect w s (serve q list)).fired
      own-front = keep-first (mine own) s.queue

  -- ---- the bench's calls

  through-lay-out : (n t split : ℕ) → Through v₀ w q s by (lay_out n t split)
  through-lay-out n t split = record {
    status = ap (λ (m : ℕ). first_of (when InvalidNumber (not (all_of (limits n t split))) ∷ when InvalidSize (ltb m (10 + 8 * n)) ∷ [])) long;
    state = λ e. same-state (laid_out n t split) (view q (laid_out n t split)) (sym (own-blank (owns split q) 1 n)) refl refl refl none;
    answer = λ e. refl;
    fired = refl;
  }
    where
      none : (k : Chain) → chain_of k (laid_out n t split) ≡ chain_of k (view q (laid_out n t split))
      none ByTicks = refl
      none ByDate = refl
      none Queue = refl

  through-tick : (list : List ℕ) → Through v₀ w q s by (tick list)
  through-tick list = record {
    status = ap₂ (λ (b : Bool) (n : ℕ). first_of (when NotSound (not b) ∷ when ListTooShort (ltb (length list) (3 * n)) ∷ [])) both-sound
        (own-length own 1 s.slots);
    state = λ e. sym (view-at (ticked_once s) split-tick ∙ view-tick own s h);
    answer = λ e. refl;
    fired = ap (without_server v.slots) (view-due-in-tick own s h) ∙ sym (own-listed-ones own s.slots (due_in_tick s));
  }
    where
      split-tick : (ticked_once s).split ≡ s.split
      split-tick =
          let clock = clock_step s.clock in
          fire-split ByDate clock.second (with_clock (fire ByTicks 0 (nearer s)) clock) ∙ fire-split ByTicks 0 (nearer s)

  through-set-clock : (d : WallTime) (list : List ℕ) → Through v₀ w q s by (set_clock d list)
  through-set-clock d list =
      let second = seconds_of d in
      let now = with_clock s (clock_at s.clock second d.ticks) in
      record {
        status = ap₂ (λ (b : Bool) (n : ℕ).
            first_of (when NotSound (not b) ∷ when ListTooShort (ltb (length list) (3 * n)) ∷ when InvalidClock (not_settable s d) ∷ [])) both-sound
            (own-length own 1 s.slots);
        state = λ e. sym (view-at (fire ByDate second now) (fire-split ByDate second now)
            ∙ view-fire own now (chained-with-clock s (clock_at s.clock second d.ticks) h).rises ByDate second);
        answer = λ e. refl;
        fired = ap (without_server v.slots) (view-due own now ByDate second) ∙ sym (own-listed-ones own s.slots (due ByDate second now));
      }

  through-get-clock : Through v₀ w q s by get_clock
  through-get-clock = record {
    status = ap (λ (b : Bool). first_of (when NotSound (not b) ∷ when NotDefined (not s.clock.is_set) ∷ [])) both-sound;
    state = λ e. refl;
    answer = λ e. refl;
    fired = refl;
  }

  through-next-due : Through v₀ w q s by next_due
  through-next-due = record {
    status = sym (status-is v₀ next_due) ∙ next-due-accepted v₀ fit₀ ∙ sym (sym (status-is w next_due) ∙ next-due-accepted w fit);
    state = λ e. refl;
    answer = λ e. refl;
    fired = refl;
  }

  through-initiate : Through v₀ w q s by initiate_server
  through-initiate = record {
    status = ap (λ (b : Bool). first_of (when NotSound (not b) ∷ when IncorrectState s.server ∷ [])) both-sound;
    state = λ e. refl;
    answer = λ e. refl;
    fired = refl;
  }

  -- ---- any call that stays the same, but for a leap

  pub through : (c : Call) → stays_for q (caller_of by c) ≡ true → is_leap c ≡ false → Through v₀ w q s by c
  through (lay_out n t split) e l = through-lay-out n t split
  through (create p name) e l = subst (λ (a : ℕ). Through v₀ w q s by (create a name)) (sym (eqb-true p q e)) (through-create name)
  through (ident p name) e l = subst (λ (a : ℕ). Through v₀ w q s by (ident a name)) (sym (eqb-true p q e)) (through-ident name)
  through (cancel p id) e l = subst (λ (a : ℕ). Through v₀ w q s by (cancel a id)) (sym (eqb-true p q e)) (through-cancel id)
  through (delete p id) e l = subst (λ (a : ℕ). Through v₀ w q s by (delete a id)) (sym (eqb-true p q e)) (through-delete id)
  through (fire_after p id n r u) e l = subst (λ (a : ℕ). Through v₀ w q s by (fire_after a id n r u)) (sym (eqb-true p q e)) (through-fire-after id n r u)
  through (fire_when p id d r u) e l = subst (λ (a : ℕ). Through v₀ w q s by (fire_when a id d r u)) (sym (eqb-true p q e)) (through-fire-when id d r u)
  through (fire_every p id n r u) e l = subst (λ (a : ℕ). Through v₀ w q s by (fire_every a id n r u)) (sym (eqb-true p q e)) (through-fire-every id n r u)
  through (reset p id) e l = subst (λ (a : ℕ). Through v₀ w q s by (reset a id)) (sym (eqb-true p q e)) (through-reset id)
  through (ticks_left p id) e l = subst (λ (a : ℕ). Through v₀ w q s by (ticks_left a id)) (sym (eqb-true p q e)) (through-ticks-left id)
  through (tick list) e l = through-tick list
  through (set_clock d list) e l = through-set-clock d list
  through get_clock e l = through-get-clock
  through next_due e l = through-next-due
  through initiate_server e l = through-initiate
  through (server_fire_after p id n r u) e l =
      subst (λ (a : ℕ). Through v₀ w q s by (server_fire_after a id n r u)) (sym (eqb-true p q e)) (through-server-after id n r u)
  through (server_fire_when p id d r u) e l =
      subst (λ (a : ℕ). Through v₀ w q s by (server_fire_when a id d r u)) (sym (eqb-true p q e)) (through-server-when id d r u)
  through (serve p list) e l = subst (λ (a : ℕ). Through v₀ w q s by (serve a list)) (sym (eqb-true p q e)) (through-serve list)
  through (leap k list) e l = clash l

  -- ---- any other call

  -- a start by another party
  unseen-start : (m : Mode) (i amount r u : ℕ) → own i ≡ false → view q (started m s i amount r u) ≡ v
  unseen-start m i amount r u e =
      view-at (started m s i amount r u) (split_started m s i amount r u) ∙ other-started own m s i amount r u (h.rises (chain_for m)) e

  pub unseen : (c : Call) → stays_for q (caller_of by c) ≡ false → status_in w s c ≡ 0 → view q (effect w s c).state ≡ v
  unseen (lay_out n t split) f e = clash f
  unseen (create p name) f e =
      let i = lowest_free s p in
      let at = lowest-free s p (accepted-facts w s (create p name) e).1 in
      other-stored own s i (not-others s.split p q i at.own f) (never_started name)
  unseen (ident p name) f e = refl
  unseen (cancel p id) f e =
      let i = index_of id in
      other-stopped own s i (not-others s.split p q i (accepted-facts w s (cancel p id) e).2 f) (idled (slot_at s.slots i))
  unseen (delete p id) f e =
      let i = index_of id in other-stopped own s i (not-others s.split p q i (accepted-facts w s (delete p id) e).1 f) free
  unseen (fire_after p id n r u) f e =
      let i = index_of id in
      unseen-start After i n r u (not-others s.split p q i (accepted-facts w s (fire_after p id n r u) e).own f)
  unseen (fire_when p id d r u) f e =
      let i = index_of id in
      unseen-start When i (seconds_of d) r u (not-others s.split p q i (accepted-facts w s (fire_when p id d r u) e).own f)
  unseen (fire_every p id n r u) f e =
      let i = index_of id in
      unseen-start Every i n r u (not-others s.split p q i (accepted-facts w s (fire_every p id n r u) e).own f)
  unseen (reset p id) f e =
      let i = index_of id in
      let x = slot_at s.slots i in
      unseen-start (last_mode x.kind) i x.interval x.routine x.user_data
      (not-others s.split p q i (accepted-facts w s (reset p id) e).2 f)
  unseen (ticks_left p id) f e = refl
  unseen (tick list) f e = clash f
  unseen (set_clock d list) f e = clash f
  unseen get_clock f e = refl
  unseen next_due f e = clash f
  unseen initiate_server f e = clash f
  unseen (server_fire_after p id n r u) f e =
      let i = index_of id in
      unseen-start ServerAfter i n r u (not-others s.split p q i (accepted-facts w s (server_fire_after p id n r u) e).1.own f)
  unseen (server_fire_when p id d r u) f e =
      let i = index_of id in
      unseen-start ServerWhen i (seconds_of d) r u (not-others s.split p q i (accepted-facts w s (server_fire_when p id d r u) e).1.own f)
  unseen (serve p list) f e = other-handed q s p (λ i own. not-others s.split p q i own f)
  unseen (leap k list) f e = clash f
