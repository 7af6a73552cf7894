-- What an accepted call has passed. No rule's number is 0, so the status is 0 only where no rule applies: each test is false, and is read as
-- a fact. Assumes nothing.
use mathlib.Core.Path.{◌≡◌, refl, sym, ap}
use Prim.Native.Nat.{ℕ, zero, suc, ◌+◌, ◌*◌, ◌≤◌, ◌<◌}
use native.Mathlib.Nat.{pos_of_ne-zero}
use native.Mathlib.Omega.{arith}
use mathlib.Core.Bool.{Bool, true, false, not, ◌&&◌}
use mathlib.Core.List.{List, [], ◌∷◌}
use lib.ListN.{length, get_or, take}
use lib.Dec.{leb, ltb, eqb}
use borrow.Author.Tests.{leb-true, ltb-true, ltb-false, le-leb, lt-ltb, le-ltb, eqb-false, ne_eqb, not-true, not-false}
use Rattle.calendar.specs.declared.WallTime.{WallTime}
use Rattle.calendar.specs.Calendar.{all_of, valid, seconds_of}
use Rattle.model.specs.Lists.{All}
use Rattle.model.specs.declared.Status.TheVariants.{NotSound}
use Rattle.model.specs.Status.{number_of, Refusal, when, first_of}
use Rattle.model.specs.Calls.{Call, lay_out, create, ident, cancel, delete, fire_after, fire_when, fire_every, reset, ticks_left, tick, set_clock, get_clock, next_due, initiate_server, server_fire_after, server_fire_when, serve, leap}
use Rattle.model.specs.Kinds.{linked, last_by_ticks}
use Rattle.model.specs.Parties.{owns, is_party}
use Rattle.model.specs.State.{State, slot_at, id_base, index_of, names, names_own}
use Rattle.model.specs.Directives.{lowest_free, lowest_named, is_short, limits, start_rules, date_rules, first_tests, refusals, most_leap}
use Rattle.model.specs.Sound.{sound}
use Rattle.laws.proofs.StatusLaws.{not-zero}
use Rattle.laws.proofs.ListLaws.{cases, clash, both, and_both, all-at, all_true}
use Rattle.laws.proofs.PartyLaws.{owns-party}
use Rattle.laws.proofs.Searches.{found, lowest-free}

-- ---- any list of rules

-- a rule that never applies
abbrev pub no_rule : Refusal
no_rule = when NotSound false

first_passes : (r : Refusal) (rs : List Refusal) → first_of (r ∷ rs) ≡ 0 → r.given ≡ false
first_passes r rs e = cases r.given (λ f. absurd (not-zero r.status (rw f at e))) (λ f. f)

-- rule k, counted from 0, does not apply
passes : (rs : List Refusal) → first_of rs ≡ 0 → (k : ℕ) → (get_or rs k no_rule).given ≡ false
passes [] e k = refl
passes (r ∷ rs) e zero = first_passes r rs e
passes (r ∷ rs) e (suc k) = passes rs (rw (first_passes r rs e) at e) k

pub none-given : (rs : List Refusal) → All (λ r. r.given ≡ false) rs → first_of rs ≡ 0
none-given [] h = refl
none-given (r ∷ rs) h = rw h.0 (none-given rs h.1)

-- the rules before rule k do not apply, and it does
pub first-given : (rs : List Refusal) (k : ℕ) → All (λ r. r.given ≡ false) (take k rs) → (get_or rs k no_rule).given ≡ true
    → first_of rs ≡ number_of (get_or rs k no_rule).status
first-given [] k h e = clash (sym e)
first-given (r ∷ rs) zero h e = rw e
first-given (r ∷ rs) (suc k) h e = rw h.0 (first-given rs k h.1 e)

-- ---- an id that names a timer

pub record Named (s : State) (id : ℕ) : Type 0 where
  pub is : id ≡ id_base + index_of id
  pub low : 0 < index_of id
  pub high : index_of id ≤ length s.slots
  pub alive : (slot_at s.slots (index_of id)).kind ≡ 0 → ⊥

module _ (s : State) (id : ℕ) where
  -- the tests of `names`
  abbrev tests : List Bool
  tests = ltb id_base id ∷ leb (index_of id) (length s.slots) ∷ not (eqb (slot_at s.slots (index_of id)).kind 0) ∷ []

  pub named : names s id ≡ true → Named s id
  named e =
      let t = all-at tests e in
      let above = ltb-true id_base id (t 0) in
      let kind = (slot_at s.slots (index_of id)).kind in
      record {
        is = omega arith;
        low = omega arith;
        high = leb-true (index_of id) (length s.slots) (t 1);
        alive = eqb-false kind 0 (not-true (eqb kind 0) (t 2));
      }

  pub named-true : Named s id → names s id ≡ true
  named-true h =
      all_true tests (
        lt-ltb id_base id (omega (arith, h.is, h.low)),
        (le-leb (index_of id) (length s.slots) h.high, (rw (ne_eqb (slot_at s.slots (index_of id)).kind 0 h.alive), tt)),
      )

  -- it names one of the party's own
  module _ (party : ℕ) where
    abbrev pub Owned : Type 0
    Owned = owns s.split party (index_of id) ≡ true

    pub known : not (names_own s party id) ≡ false → Named s id × Owned
    known e = let b = both (names s id) (owns s.split party (index_of id)) (not-false (names_own s party id) e) in (named b.0, b.1)

    pub known-own : Named s id → Owned → not (names_own s party id) ≡ false
    known-own h own = ap not (and_both (names s id) (owns s.split party (index_of id)) (named-true h) own)

-- ---- each call's tests, as facts

pub record LaysOut (w : List ℕ) (n t split : ℕ) : Type 0 where
  pub slots-low : 1 ≤ n
  pub slots-high : n ≤ 255
  pub ticks-low : 1 ≤ t
  pub ticks-high : t ≤ 1000
  pub parted : split < n
  pub fits : 10 + 8 * n ≤ length w

pub record StartsByTicks (s : State) (party id n r : ℕ) : Type 0 where
  pub ticks : 0 < n
  pub routine : 0 < r
  pub names-one : Named s id
  pub own : Owned s id party

pub record StartsByDate (s : State) (party id : ℕ) (w : WallTime) (r : ℕ) : Type 0 where
  pub running : s.clock.is_set ≡ true
  pub routine : 0 < r
  pub is-valid : valid w ≡ true
  pub later : s.clock.second < seconds_of w
  pub names-one : Named s id
  pub own : Owned s id party

-- the list has three words for each slot
abbrev pub LongEnough : State → List ℕ → Type 0
LongEnough s list = 3 * length s.slots ≤ length list

-- what each call has passed where it is accepted
abbrev pub Accepted : List ℕ → State → Call → Type 0
Accepted w s (lay_out n t split) = LaysOut w n t split
Accepted w s (create party name) = (0 < name) × (0 < lowest_free s party)
Accepted w s (ident party name) = (0 < name) × (0 < lowest_named s party name)
Accepted w s (cancel party id) = Named s id × (linked (slot_at s.slots (index_of id)).kind ≡ true) × Owned s id party
Accepted w s (delete party id) = Named s id × Owned s id party
Accepted w s (fire_after party id n r u) = StartsByTicks s party id n r
Accepted w s (fire_when party id d r u) = StartsByDate s party id d r
Accepted w s (fire_every party id n r u) = StartsByTicks s party id n r
Accepted w s (reset party id) = Named s id × (last_by_ticks (slot_at s.slots (index_of id)).kind ≡ true) × Owned s id party
Accepted w s (ticks_left party id) = Named s id × Owned s id party
Accepted w s (tick list) = LongEnough s list
Accepted w s (set_clock d list) = LongEnough s list × (valid d ≡ true) × (d.ticks < s.clock.per_second)
Accepted w s get_clock = s.clock.is_set ≡ true
Accepted w s next_due = all_of (first_tests w) ≡ true
Accepted w s initiate_server = s.server ≡ false
Accepted w s (server_fire_after party id n r u) = (s.server ≡ true) × StartsByTicks s party id n r
Accepted w s (server_fire_when party id d r u) = (s.server ≡ true) × StartsByDate s party id d r
Accepted w s (serve party list) = (s.server ≡ true) × (3 ≤ length list) × (is_party s.split party ≡ true)
Accepted w s (leap k list) = LongEnough s list × (k ≤ most_leap)

positive : (n : ℕ) → eqb n 0 ≡ false → 0 < n
positive n e = pos_of_ne-zero (eqb-false n 0 e)

module _ (words : List ℕ) (s : State) where
  -- rule k of the call does not apply
  not-refused : (c : Call) → first_of (refusals words s c) ≡ 0 → (k : ℕ) → (get_or (refusals words s c) k no_rule).given ≡ false
  not-refused c e = passes (refusals words s c) e

  long-enough : (list : List ℕ) → is_short s list ≡ false → LongEnough s list
  long-enough list e = ltb-false (length list) (3 * length s.slots) e

  by-ticks : (party id n r : ℕ) → eqb n 0 ≡ false → eqb r 0 ≡ false → not (names_own s party id) ≡ false → StartsByTicks s party id n r
  by-ticks party id n r a b c =
      let k = known s id party c in record { ticks = positive n a; routine = positive r b; names-one = k.0; own = k.1 }

  by-date : (party id : ℕ) (w : WallTime) (r : ℕ) → not s.clock.is_set ≡ false → eqb r 0 ≡ false
      → not (valid w && ltb s.clock.second (seconds_of w)) ≡ false → not (names_own s party id) ≡ false → StartsByDate s party id w r
  by-date party id w r a b c d =
      let k = known s id party d in
      let date = both (valid w) (ltb s.clock.second (seconds_of w)) (not-false (valid w && ltb s.clock.second (seconds_of w)) c) in
      record {
        running = not-false s.clock.is_set a;
        routine = positive r b;
        is-valid = date.0;
        later = ltb-true s.clock.second (seconds_of w) date.1;
        names-one = k.0;
        own = k.1;
      }

  pub accepted-facts : (c : Call) → first_of (refusals words s c) ≡ 0 → Accepted words s c
  accepted-facts (lay_out n t split) e =
      let p = not-refused (lay_out n t split) e in
      let b = all-at (limits n t split) (not-false (all_of (limits n t split)) (p 0)) in
      record {
        slots-low = leb-true 1 n (b 0);
        slots-high = leb-true n 255 (b 1);
        ticks-low = leb-true 1 t (b 2);
        ticks-high = leb-true t 1000 (b 3);
        parted = ltb-true split n (b 4);
        fits = ltb-false (length words) (10 + 8 * n) (p 1);
      }
  accepted-facts (create party name) e = let p = not-refused (create party name) e in (positive name (p 2), positive (lowest_free s party) (p 3))
  accepted-facts (ident party name) e = let p = not-refused (ident party name) e in (positive name (p 2), positive (lowest_named s party name) (p 3))
  accepted-facts (cancel party id) e =
      let p = not-refused (cancel party id) e in
      let k = known s id party (p 2) in (k.0, not-false (linked (slot_at s.slots (index_of id)).kind) (p 3), k.1)
  accepted-facts (delete party id) e = known s id party (not-refused (delete party id) e 2)
  accepted-facts (fire_after party id n r u) e = let p = not-refused (fire_after party id n r u) e in by-ticks party id n r (p 2) (p 3) (p 4)
  accepted-facts (fire_when party id w r u) e = let p = not-refused (fire_when party id w r u) e in by-date party id w r (p 2) (p 3) (p 4) (p 5)
  accepted-facts (fire_every party id n r u) e = let p = not-refused (fire_every party id n r u) e in by-ticks party id n r (p 2) (p 3) (p 4)
  accepted-facts (reset party id) e =
      let p = not-refused (reset party id) e in
      let k = known s id party (p 2) in (k.0, not-false (last_by_ticks (slot_at s.slots (index_of id)).kind) (p 3), k.1)
  accepted-facts (ticks_left party id) e = known s id party (not-refused (ticks_left party id) e 2)
  accepted-facts (tick list) e = long-enough list (not-refused (tick list) e 1)
  accepted-facts (set_clock w list) e =
      let p = not-refused (set_clock w list) e in
      let T = s.clock.per_second in
      let date = both (valid w) (ltb w.ticks T) (not-false (valid w && ltb w.ticks T) (p 2)) in
      (long-enough list (p 1), date.0, ltb-true w.ticks T date.1)
  accepted-facts get_clock e = not-false s.clock.is_set (not-refused get_clock e 1)
  accepted-facts next_due e = not-false (all_of (first_tests words)) (not-refused next_due e 0)
  accepted-facts initiate_server e = not-refused initiate_server e 1
  accepted-facts (server_fire_after party id n r u) e =
      let p = not-refused (server_fire_after party id n r u) e in (not-false s.server (p 2), by-ticks party id n r (p 3) (p 4) (p 5))
  accepted-facts (server_fire_when party id w r u) e =
      let p = not-refused (server_fire_when party id w r u) e in (not-false s.server (p 2), by-date party id w r (p 3) (p 4) (p 5) (p 6))
  accepted-facts (serve party list) e =
      let p = not-refused (serve party list) e in (not-false s.server (p 3), ltb-false (length list) 3 (p 1), not-false (is_party s.split party) (p 2))
  accepted-facts (leap k list) e = let p = not-refused (leap k list) e in (long-enough list (p 1), ltb-false most_leap k (p 2))

  -- ---- and the other way: on a sound table a call that passes these is accepted, so that no rule is given where none of them says so

  -- whoever has a slot is a party
  is-party : (party i : ℕ) → owns s.split party i ≡ true → not (is_party s.split party) ≡ false
  is-party party i own = ap not (owns-party s.split party i own)

  above : (n : ℕ) → 0 < n → eqb n 0 ≡ false
  above n p = ne_eqb n 0 (λ z. omega arith)

  ticks-rules : (party id n r : ℕ) → StartsByTicks s party id n r → All (λ x. x.given ≡ false) (start_rules s party id n r)
  ticks-rules party id n r h = (above n h.ticks, (above r h.routine, (known-own s id party h.names-one h.own, tt)))

  date-rules : (party id : ℕ) (w : WallTime) (r : ℕ) → StartsByDate s party id w r → All (λ x. x.given ≡ false) (date_rules s party id w r)
  date-rules party id w r h =
      let ahead = and_both (valid w) (ltb s.clock.second (seconds_of w)) h.is-valid (lt-ltb s.clock.second (seconds_of w) h.later) in
      (ap not h.running, (above r h.routine, (ap not ahead, (known-own s id party h.names-one h.own, tt))))

  no-rule : (c : Call) → sound words ≡ true → Accepted words s c → All (λ r. r.given ≡ false) (refusals words s c)
  no-rule (lay_out n t split) ok h = (
    ap not (all_true (limits n t split) (
      le-leb 1 n h.slots-low,
      (
        le-leb n 255 h.slots-high,
        (le-leb 1 t h.ticks-low, (le-leb t 1000 h.ticks-high, (lt-ltb split n h.parted, tt))),
      ),
    )),
    (le-ltb (length words) (10 + 8 * n) h.fits, tt),
  )
  no-rule (create party name) ok h =
      (ap not ok, (is-party party (lowest_free s party) (lowest-free s party h.1).own, (above name h.0, (above (lowest_free s party) h.1, tt))))
  no-rule (ident party name) ok h =
      let i = lowest_named s party name in
      let r = found (λ j x. owns s.split party j && eqb x.name name) s.slots h.1 in
      let own = (both (owns s.split party i) (eqb (slot_at s.slots i).name name) r.passes).0 in
      (ap not ok, (is-party party i own, (above name h.0, (above i h.1, tt))))
  no-rule (cancel party id) ok h = (ap not ok, (is-party party (index_of id) h.2, (known-own s id party h.0 h.2, (ap not h.1, tt))))
  no-rule (delete party id) ok h = (ap not ok, (is-party party (index_of id) h.1, (known-own s id party h.0 h.1, tt)))
  no-rule (fire_after party id n r u) ok h = (ap not ok, (is-party party (index_of id) h.own, ticks-rules party id n r h))
  no-rule (fire_when party id w r u) ok h = (ap not ok, (is-party party (index_of id) h.own, date-rules party id w r h))
  no-rule (fire_every party id n r u) ok h = (ap not ok, (is-party party (index_of id) h.own, ticks-rules party id n r h))
  no-rule (reset party id) ok h = (ap not ok, (is-party party (index_of id) h.2, (known-own s id party h.0 h.2, (ap not h.1, tt))))
  no-rule (ticks_left party id) ok h = (ap not ok, (is-party party (index_of id) h.1, (known-own s id party h.0 h.1, tt)))
  no-rule (tick list) ok h = (ap not ok, (le-ltb (length list) (3 * length s.slots) h, tt))
  no-rule (set_clock w list) ok h = (ap not ok, (le-ltb (length list) (3 * length s.slots) h.0, (ap not (and_both (valid w) (ltb w.ticks s.clock.per_second) h.1 (lt-ltb w.ticks s.clock.per_second h.2)), tt)))
  no-rule get_clock ok h = (ap not ok, (ap not h, tt))
  no-rule next_due ok h = (ap not h, tt)
  no-rule initiate_server ok h = (ap not ok, (h, tt))
  no-rule (server_fire_after party id n r u) ok h =
      (ap not ok, (is-party party (index_of id) h.1.own, (ap not h.0, ticks-rules party id n r h.1)))
  no-rule (server_fire_when party id w r u) ok h =
      (ap not ok, (is-party party (index_of id) h.1.own, (ap not h.0, date-rules party id w r h.1)))
  no-rule (serve party list) ok h = (ap not ok, (le-ltb (length list) 3 h.1, (ap not h.2, (ap not h.0, tt))))
  no-rule (leap k list) ok h = (ap not ok, (le-ltb (length list) (3 * length s.slots) h.0, (le-ltb most_leap k h.1, tt)))

  pub facts-accepted : (c : Call) → sound words ≡ true → Accepted words s c → first_of (refusals words s c) ≡ 0
  facts-accepted c ok h = none-given (refusals words s c) (no-rule c ok h)
