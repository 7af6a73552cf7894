-- The status of each call on any slice of words is that of the table of status numbers: its rules, in their order, are the same tests of the words.
-- What create and ident find is the caller's lowest. Assumes nothing.
use mathlib.Core.Path.{◌≡◌, refl, sym, ap, ◌∙◌, subst}
use Prim.Native.Nat.{ℕ, zero, suc, ◌+◌, ◌*◌, ◌≤◌, ◌<◌}
use native.Mathlib.Omega.{arith}
use mathlib.Core.Bool.{Bool, true, false, cond, not, ◌&&◌}
use mathlib.Core.List.{List, [], ◌∷◌}
use lib.ListN.{length}
use lib.Dec.{leb, ltb, eqb}
use borrow.Author.Tests.{leb-true, ltb-true, ne_eqb}
use Rattle.calendar.specs.declared.WallTime.{WallTime}
use Rattle.calendar.specs.Calendar.{all_of, valid, seconds_of}
use Rattle.model.specs.Lists.{all_from}
use Rattle.model.specs.Status.{first_of}
use Rattle.model.specs.Calls.{Call, lay_out, create, ident, cancel, delete, fire_after, fire_when, fire_every, reset, ticks_left, tick, set_clock, get_clock, next_due, initiate_server, server_fire_after, server_fire_when, serve, leap}
use Rattle.model.specs.Kinds.{linked, last_by_ticks}
use Rattle.model.specs.Parties.{owns, is_party}
use Rattle.model.specs.State.{Slot, slot_at, lowest, id_base, index_of, names_own}
use Rattle.model.specs.Words.{read, slot_from, slots_from, slot_count, party_split, server_initiated, clock_set, seconds, kind_of, name_of}
use Rattle.model.specs.Sound.{sound}
use Rattle.model.specs.Directives.{refusals, lowest_free, lowest_named, start_rules, date_rules, first_tests}
use Rattle.model.specs.Outcome.{Outcome, status_on, outcome}
use Rattle.model.specs.Statuses.{on_sound, as_party, on_timer, times_linked, for_ticks, for_date, status_for, StatusesAre, LowestOwn}
use Rattle.laws.proofs.ListLaws.{cases, both, all-at}
use Rattle.laws.proofs.Chains.{times-all}
use Rattle.laws.proofs.ReadBack.{slots_length, slot_read}
use Rattle.laws.proofs.SoundHolds.{sound-holds}
use Rattle.laws.proofs.Searches.{found}
use Rattle.laws.proofs.AcceptedCalls.{accepted-facts}
use Rattle.laws.proofs.OutcomeLaws.{status-is, outcome-accepted, outcome-status}
use Rattle.laws.proofs.ClockReadings.{set-clock-status}
use Rattle.laws.proofs.LeapWords.{leap-status}

-- ---- the tests, in words

-- a rule that is given where a test fails, and what is behind it; there the test holds
unless-if : (b : Bool) (status rest rest' : ℕ) → (b ≡ true → rest ≡ rest') → cond (not b) status rest ≡ cond b rest' status
unless-if true status rest rest' h = h refl
unless-if false status rest rest' h = refl

unless : (b : Bool) (status : ℕ) {rest rest' : ℕ} → rest ≡ rest' → cond (not b) status rest ≡ cond b rest' status
unless b status {rest} {rest'} is = unless-if b status rest rest' (λ _. is)

accepted : ◌≡◌ {A = ℕ} 0 0
accepted = refl

module _ (t : List ℕ) where
  -- a search that finds none
  none_found : (p : ℕ → Slot → Bool) (i n : ℕ) → eqb (lowest p (suc i) (slots_from t (suc i) n)) 0 ≡ all_from (λ j. not (p j (slot_from t j))) (suc i) n
  none_found p i zero = refl
  none_found p i (suc n) =
      cases (p (suc i) (slot_from t (suc i)))
      (λ e. rw e (ne_eqb (suc i) 0 (λ z. omega arith)))
      (λ e. rw e (none_found p (suc i) n))

  module _ (party id : ℕ) where
    -- the kind of a slot that the id may name
    kind-read : ltb id_base id ≡ true → leb (index_of id) (slot_count t) ≡ true → (slot_at (read t).slots (index_of id)).kind ≡ kind_of t (index_of id)
    kind-read e f =
        ap (λ (x : Slot). x.kind) (slot_read t (index_of id) (omega (arith, ltb-true id_base id e)) (leb-true (index_of id) (slot_count t) f))

    four : (a b c d : Bool) → (all_of (a ∷ b ∷ c ∷ []) && d) ≡ all_of (a ∷ b ∷ c ∷ d ∷ [])
    four false b c d = refl
    four true false c d = refl
    four true true false d = refl
    four true true true true = refl
    four true true true false = refl

    abbrev own : Bool
    own = owns (party_split t) party (index_of id)

    names-timer : names_own (read t) party id
        ≡ all_of (ltb id_base id ∷ leb (index_of id) (slot_count t) ∷ not (eqb (kind_of t (index_of id)) 0) ∷ own ∷ [])
    names-timer =
        cases (ltb id_base id)
        (λ e. cases (leb (index_of id) (slot_count t))
        (λ f. rw (slots_length t, kind-read e f) (four (ltb id_base id) (leb (index_of id) (slot_count t)) (not (eqb (kind_of t (index_of id)) 0)) own))
        (λ f. rw (slots_length t, e, f)))
        (λ e. rw e)

    -- the rule of an id, and what is behind it; there the kind is the slot's
    on-timer-if : (rest rest' : ℕ) → ((slot_at (read t).slots (index_of id)).kind ≡ kind_of t (index_of id) → rest ≡ rest')
        → cond (not (names_own (read t) party id)) 4 rest ≡ on_timer t party id rest'
    on-timer-if rest rest' h =
        unless-if (names_own (read t) party id) 4 rest rest' (λ e.
        let tests = all-at (ltb id_base id ∷ leb (index_of id) (slot_count t) ∷ not (eqb (kind_of t (index_of id)) 0) ∷ own ∷ []) (sym names-timer ∙ e) in
        h (kind-read (tests 0) (tests 1)))
        ∙ ap (λ (b : Bool). cond b rest' 4) names-timer

    on-timer : cond (not (names_own (read t) party id)) 4 0 ≡ on_timer t party id 0
    on-timer = on-timer-if 0 0 (λ _. refl)

    for-ticks : (n r : ℕ) → first_of (start_rules (read t) party id n r) ≡ for_ticks t party id n r
    for-ticks n r = ap (λ (k : ℕ). cond (eqb n 0) 10 (cond (eqb r 0) 9 k)) on-timer

    for-date : (d : WallTime) (r : ℕ) → first_of (date_rules (read t) party id d r) ≡ for_date t party id d r
    for-date d r =
        unless (eqb (clock_set t) 1) 11 (ap (cond (eqb r 0) 9) (unless (valid d && ltb (seconds t) (seconds_of d)) 20 on-timer))

  -- a call of a party on a sound table
  as-party : (party : ℕ) {rest rest' : ℕ} → rest ≡ rest'
      → cond (not (sound t)) 100 (cond (not (is_party (party_split t) party)) 4 rest) ≡ on_sound t (as_party t party rest')
  as-party party is = unless (sound t) 100 (unless (is_party (party_split t) party) 4 is)

  status-for : (c : Call) → first_of (refusals t (read t) c) ≡ status_for t c
  status-for (lay_out n k split) =
      unless (all_of (leb 1 n ∷ leb n 255 ∷ leb 1 k ∷ leb k 1000 ∷ ltb split n ∷ [])) 10 (refl {A = ℕ} {a = cond (ltb (length t) (10 + 8 * n)) 8 0})
  status-for (create party name) =
      as-party party (ap (λ (b : Bool). cond (eqb name 0) 3 (cond b 5 0))
      (none_found (λ i x. owns (party_split t) party i && eqb x.kind 0) 0 (slot_count t)))
  status-for (ident party name) =
      as-party party (ap (λ (b : Bool). cond (eqb name 0) 3 (cond b 3 0))
      (none_found (λ i x. owns (party_split t) party i && eqb x.name name) 0 (slot_count t)))
  status-for (cancel party id) =
      let kind = (slot_at (read t).slots (index_of id)).kind in
      let linked-now : ℕ = cond (not (linked kind)) 14 0 in
      let in-chain : ℕ = cond (eqb (times_linked t (index_of id)) 0) 14 0 in
      unless-if (sound t) 100 (cond (not (is_party (party_split t) party)) 4 (cond (not (names_own (read t) party id)) 4 linked-now))
      (as_party t party (on_timer t party id in-chain)) (λ ok.
      unless (is_party (party_split t) party) 4 (on-timer-if party id linked-now in-chain (λ _.
      once-linked (linked kind) (times-all (read t) (sound-holds t ok).chained (index_of id)))))
    where
      once-linked : (b : Bool) {n : ℕ} → n ≡ cond b 1 0 → ◌≡◌ {A = ℕ} (cond (not b) 14 0) (cond (eqb n 0) 14 0)
      once-linked true is = rw is
      once-linked false is = rw is
  status-for (delete party id) = as-party party (on-timer party id)
  status-for (fire_after party id n r u) = as-party party (for-ticks party id n r)
  status-for (fire_when party id d r u) = as-party party (for-date party id d r)
  status-for (fire_every party id n r u) = as-party party (for-ticks party id n r)
  status-for (reset party id) =
      let i = index_of id in
      as-party party (on-timer-if party id (cond (not (last_by_ticks (slot_at (read t).slots i).kind)) 11 0) (cond (last_by_ticks (kind_of t i)) 0 11)
      (λ same. rw same (unless (last_by_ticks (kind_of t i)) 11 accepted)))
  status-for (ticks_left party id) = as-party party (on-timer party id)
  status-for (tick list) = unless (sound t) 100 (ap (λ (n : ℕ). cond (ltb (length list) (3 * n)) 101 0) (slots_length t))
  status-for (set_clock d list) = sym (status-is t (set_clock d list)) ∙ set-clock-status t d list
  status-for get_clock = unless (sound t) 100 (unless (eqb (clock_set t) 1) 11 accepted)
  status-for next_due = unless (all_of (first_tests t)) 100 accepted
  status-for initiate_server = unless (sound t) 100 (refl {A = ℕ} {a = cond (eqb (server_initiated t) 1) 14 0})
  status-for (server_fire_after party id n r u) = as-party party (unless (eqb (server_initiated t) 1) 14 (for-ticks party id n r))
  status-for (server_fire_when party id d r u) = as-party party (unless (eqb (server_initiated t) 1) 14 (for-date party id d r))
  status-for (serve party list) =
      unless (sound t) 100 (ap (cond (ltb (length list) 3) 101)
      (unless (is_party (party_split t) party) 4 (unless (eqb (server_initiated t) 1) 14 accepted)))
  status-for (leap k list) = sym (status-is t (leap k list)) ∙ leap-status t k list

pub statuses-are : StatusesAre
statuses-are t c = outcome-status t c ∙ status-is t c ∙ status-for t c

-- ---- what create and ident find

module _ (t : List ℕ) (party : ℕ) (p : Slot → Bool) (p' : ℕ → Bool) (same : (j : ℕ) → p (slot_from t j) ≡ p' j) where
  abbrev at : ℕ
  at = lowest (λ i x. owns (party_split t) party i && p x) 1 (read t).slots

  lowest-own : 0 < at → LowestOwn t party p' at
  lowest-own some =
      let r = found (λ i x. owns (party_split t) party i && p x) (read t).slots some in
      let high : at ≤ slot_count t = omega (arith, r.high, slots_length t) in
      let read_at : (j : ℕ) → 1 ≤ j → j ≤ slot_count t → p (slot_at (read t).slots j) ≡ p' j = λ j a b. ap p (slot_read t j a b) ∙ same j in
      let b = both (owns (party_split t) party at) (p (slot_at (read t).slots at)) r.passes in
      record {
        low = r.low;
        high = high;
        own = b.0;
        passes = sym (read_at at r.low high) ∙ b.1;
        least = λ j low below own.
            sym (read_at j low (omega arith)) ∙ sym (ap (λ (c : Bool). c && p (slot_at (read t).slots j)) own) ∙ r.least j low below;
      }

module _ (t : List ℕ) (party name : ℕ) (c : Call) where
  pub creates-on : c ≡ create party name → status_on t c ≡ 0
      → (i : ℕ) × ((outcome t c).answer ≡ (id_base + i) ∷ []) × LowestOwn t party (λ j. eqb (kind_of t j) 0) i
  creates-on is =
      subst (λ (d : Call). status_on t d ≡ 0 → (i : ℕ) × ((outcome t d).answer ≡ (id_base + i) ∷ []) × LowestOwn t party (λ j. eqb (kind_of t j) 0) i) (sym is)
      (λ e. (
        lowest_free (read t) party,
        ap (λ (o : Outcome). o.answer) (outcome-accepted t (create party name) e),
        lowest-own t party (λ x. eqb x.kind 0) (λ j. eqb (kind_of t j) 0) (λ j. refl)
            (accepted-facts t (read t) (create party name) (sym (status-is t (create party name)) ∙ e)).1,
      ))

  pub finds-on : c ≡ ident party name → status_on t c ≡ 0
      → (i : ℕ) × ((outcome t c).answer ≡ (id_base + i) ∷ []) × LowestOwn t party (λ j. eqb (name_of t j) name) i
  finds-on is =
      subst (λ (d : Call). status_on t d ≡ 0 → (i : ℕ) × ((outcome t d).answer ≡ (id_base + i) ∷ []) × LowestOwn t party (λ j. eqb (name_of t j) name) i) (sym is)
      (λ e. (
        lowest_named (read t) party name,
        ap (λ (o : Outcome). o.answer) (outcome-accepted t (ident party name) e),
        lowest-own t party (λ x. eqb x.name name) (λ j. eqb (name_of t j) name) (λ j. refl)
            (accepted-facts t (read t) (ident party name) (sym (status-is t (ident party name)) ∙ e)).1,
      ))
