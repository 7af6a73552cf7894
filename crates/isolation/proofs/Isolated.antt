-- Isolation, for every slice, every accepted lay out on it, every party and every two lists of calls. What a party sees of a list of calls is what
-- its view of the table lets it see of its own and the bench's calls alone; so two lists that agree in those are seen alike. By induction on the
-- list: one call more keeps the table sound and as long, and takes the view as `Unwinding` says. Assumes nothing.
use mathlib.Core.Path.{◌≡◌, refl, sym, ap, ap₂, ◌∙◌}
use Prim.Native.Nat.{ℕ, zero, suc}
use mathlib.Core.Bool.{Bool, true, false, cond, not, ◌&&◌, ◌||◌}
use mathlib.Core.List.{List, [], ◌∷◌, ◌++◌, map}
use lib.ListN.{length, drop, replicate, length-map}
use lib.Dec.{eqb}
use borrow.Author.Tests.{eqb-true, eqb-false, eq-eqb, ne_eqb}
use Rattle.model.specs.Lists.{keep, any}
use Rattle.model.specs.Calls.{Call, lay_out, create, ident, cancel, delete, fire_after, fire_when, fire_every, reset, ticks_left, tick, set_clock, get_clock, next_due, initiate_server, server_fire_after, server_fire_when, serve, leap, is_leap, lent_to, answer_count}
use Rattle.model.specs.Parties.{owns}
use Rattle.model.specs.State.{Slot, Link, State, Fired, listed}
use Rattle.model.specs.Directives.{effect}
use Rattle.model.specs.Words.{read, party_split}
use Rattle.model.specs.Sound.{sound}
use Rattle.model.specs.Outcome.{Outcome, status_on, entry_words, written, outcome, first_number}
use Rattle.laws.proofs.ListLaws.{cases, clash, all, keep-and, keep-on, keep_all, all-passed}
use Rattle.laws.proofs.WellFormed.{WellFormed}
use Rattle.laws.proofs.SoundHolds.{sound-well-formed}
use Rattle.laws.proofs.OutcomeLaws.{status-is, outcome-accepted, outcome-refused, outcome-status}
use Rattle.laws.proofs.CallTables.{laid_table, laid-sound, table-left, state-left, effect-sound}
use Rattle.laws.proofs.ListWords.{table-size}
use Rattle.isolation.specs.Isolation.{Caller, bench, party, Made, caller_of, stays_for, stays, entries_in, answer_to, Seen, seen_of, seen, seen_in, Isolation}
use Rattle.isolation.proofs.Views.{mine, its_entry, own-entries, own-listed, keep-twice, view}
use Rattle.isolation.proofs.Unwinding.{status_in, Through, through, unseen}

-- ---- on states, with words that are sound

-- the state after a call, and what the party q sees of it
abbrev step_in : List ℕ → State → Call → State
step_in w s c = cond (eqb (status_in w s c) 0) (effect w s c).state s

abbrev seen_accepted : List ℕ → ℕ → State → Made → Seen
seen_accepted w q s m = record {
  status = 0;
  answer = answer_to (caller_of m.by m.call) (effect w s m.call).answer;
  entries = keep (its_entry (owns s.split q)) (map (listed s.slots) (effect w s m.call).fired);
}

abbrev seen_refused : ℕ → Made → Seen
seen_refused status m = record { status = status; answer = answer_to (caller_of m.by m.call) (replicate (answer_count m.call) 0); entries = [] }

abbrev seen_on : List ℕ → ℕ → State → Made → Seen
seen_on w q s m = cond (eqb (status_in w s m.call) 0) (seen_accepted w q s m) (seen_refused (status_in w s m.call) m)

abbrev seen_from : List ℕ → ℕ → State → List Made → List Seen
seen_from w q s [] = []
seen_from w q s (m ∷ ms) = seen_on w q s m ∷ seen_from w q (step_in w s m.call) ms

module _ (v w : List ℕ) (fit₀ : sound v ≡ true) (fit : sound w ≡ true) (long : length v ≡ length w) (q : ℕ) (s : State) (f : WellFormed s) (m : Made) where
  abbrev c : Call
  c = m.call

  module _ (e : stays q m ≡ true) (l : is_leap m.call ≡ false) where
    abbrev same : Through v w q s m.by c
    same = through v w fit₀ fit long m.by q s f.chained c e l

    entries-view : keep (its_entry (owns s.split q)) (map (listed (view q s).slots) (effect v (view q s) c).fired)
        ≡ keep (its_entry (owns s.split q)) (map (listed s.slots) (effect w s c).fired)
    entries-view =
        let own = owns s.split q in
        let ws = (effect w s c).fired in
        let sl = (view q s).slots in
        ap (λ (l : List Link). keep (its_entry own) (map (listed sl) l)) same.fired
        ∙ own-entries own sl (keep (mine own) ws) ∙ ap (map (listed sl)) (keep-twice own ws)
        ∙ own-listed own s.slots ws ∙ sym (own-entries own s.slots ws)

    seen-view : seen_on v q (view q s) m ≡ seen_on w q s m
    seen-view =
        ap (λ (n : ℕ). cond (eqb n 0) (seen_accepted v q (view q s) m) (seen_refused n m)) same.status
        ∙ cases (eqb (status_in w s c) 0)
        (λ z. rw z (λ i. record { status = 0; answer = same.answer (eqb-true (status_in w s c) 0 z) i; entries = entries-view i }))
        (λ z. rw z)

    step-view : step_in v (view q s) c ≡ view q (step_in w s c)
    step-view =
        ap (λ (n : ℕ). cond (eqb n 0) (effect v (view q s) c).state (view q s)) same.status
        ∙ cases (eqb (status_in w s c) 0)
        (λ z. rw z (same.state (eqb-true (status_in w s c) 0 z)))
        (λ z. rw z)

  unseen-view : stays q m ≡ false → view q (step_in w s c) ≡ view q s
  unseen-view e =
      cases (eqb (status_in w s c) 0)
      (λ z. rw z (unseen v w fit₀ fit long m.by q s f.chained c e (eqb-true (status_in w s c) 0 z)))
      (λ z. rw z)

-- ---- the words of a fired list

none_in : (n : ℕ) → entries_in n [] ≡ []
none_in zero = refl
none_in (suc n) = refl

entries-back : (fs : List Fired) (rest : List ℕ) → entries_in (length fs) (entry_words fs ++ rest) ≡ fs
entries-back [] rest = refl
entries-back (f ∷ fs) rest = ap {B = List Fired} (λ l. f ∷ l) (entries-back fs rest)

first-zero : (n : ℕ) → ◌≡◌ {A = ℕ} (first_number (replicate n 0)) 0
first-zero zero = refl
first-zero (suc n) = refl

listed_back : (sl : List Slot) (ws : List Link) (list : List ℕ) → entries_in (length ws) (written (map (listed sl) ws) list) ≡ map (listed sl) ws
listed_back sl ws list =
    let fs = map (listed sl) ws in
    ap (λ (n : ℕ). entries_in n (written fs list)) (sym (length-map ws (listed sl))) ∙ entries-back fs (drop (length (entry_words fs)) list)

-- the entries that an accepted call writes are read back
entries-read : (sl : List Slot) (w : List ℕ) (s : State) (c : Call)
    → entries_in (first_number (effect w s c).answer) (written (map (listed sl) (effect w s c).fired) (lent_to c)) ≡ map (listed sl) (effect w s c).fired
entries-read sl w s (lay_out n t split) = refl
entries-read sl w s (create p name) = none_in (first_number (effect w s (create p name)).answer)
entries-read sl w s (ident p name) = none_in (first_number (effect w s (ident p name)).answer)
entries-read sl w s (cancel p id) = refl
entries-read sl w s (delete p id) = refl
entries-read sl w s (fire_after p id n r u) = refl
entries-read sl w s (fire_when p id d r u) = refl
entries-read sl w s (fire_every p id n r u) = refl
entries-read sl w s (reset p id) = refl
entries-read sl w s (ticks_left p id) = none_in (first_number (effect w s (ticks_left p id)).answer)
entries-read sl w s (tick list) = listed_back sl (effect w s (tick list)).fired list
entries-read sl w s (set_clock d list) = listed_back sl (effect w s (set_clock d list)).fired list
entries-read sl w s get_clock = none_in (first_number (effect w s get_clock).answer)
entries-read sl w s next_due = none_in (first_number (effect w s next_due).answer)
entries-read sl w s initiate_server = refl
entries-read sl w s (server_fire_after p id n r u) = refl
entries-read sl w s (server_fire_when p id d r u) = refl
entries-read sl w s (serve p list) = listed_back sl (effect w s (serve p list)).fired list
entries-read sl w s (leap k list) = listed_back sl (effect w s (leap k list)).fired list

-- ---- on the words of a sound table

-- one call more
record Goes (t : List ℕ) (m : Made) (q : ℕ) : Type 0 where
  stays-sound : sound (outcome t m.call).table ≡ true
  as_long : length (outcome t m.call).table ≡ length t
  reads : read (outcome t m.call).table ≡ step_in t (read t) m.call
  sees : seen q t m ≡ seen_on t q (read t) m

module _ (t : List ℕ) (ok : sound t ≡ true) (m : Made) (q : ℕ) where
  abbrev call : Call
  call = m.call

  abbrev caller : Caller
  caller = caller_of m.by m.call

  abbrev own : Fired → Bool
  own = its_entry (owns (party_split t) q)

  goes-accepted : status_on t m.call ≡ 0 → Goes t m q
  goes-accepted z =
      let is : eqb (status_in t (read t) call) 0 ≡ true = eq-eqb (status_in t (read t) call) 0 (sym (status-is t call) ∙ z) in
      record {
        stays-sound = ap sound (table-left t ok call z) ∙ effect-sound t ok call z;
        as_long = table-size t ok call;
        reads = state-left t ok call z ∙ sym (ap (λ (b : Bool). cond b (effect t (read t) call).state (read t)) is);
        sees = ap (seen_of (party_split t) q caller) (outcome-accepted t call z)
            ∙ (λ i. record {
              status = 0;
              answer = answer_to caller (effect t (read t) call).answer;
              entries = ap (keep own) (entries-read (read t).slots t (read t) call) i;
            })
            ∙ sym (ap (λ (b : Bool). cond b (seen_accepted t q (read t) m) (seen_refused (status_in t (read t) call) m)) is);
      }

  goes-refused : (status_on t m.call ≡ 0 → ⊥) → Goes t m q
  goes-refused z =
      let o = outcome-refused t call z in
      let stays-so : (outcome t call).table ≡ t = ap (λ (x : Outcome). x.table) o in
      let is : eqb (status_in t (read t) call) 0 ≡ false = ne_eqb (status_in t (read t) call) 0 (λ y. z (status-is t call ∙ y)) in
      record {
        stays-sound = ap sound stays-so ∙ ok;
        as_long = ap length stays-so;
        reads = ap read stays-so ∙ sym (ap (λ (b : Bool). cond b (effect t (read t) call).state (read t)) is);
        sees = ap (seen_of (party_split t) q caller) o
            ∙ (λ i. record {
              status = status-is t call i;
              answer = answer_to caller (replicate (answer_count call) 0);
              entries = ap (λ (n : ℕ). keep own (entries_in n (lent_to call))) (first-zero (answer_count call)) i;
            })
            ∙ sym (ap (λ (b : Bool). cond b (seen_accepted t q (read t) m) (seen_refused (status_in t (read t) call) m)) is);
      }

  goes : Goes t m q
  goes =
      cases (eqb (status_on t m.call) 0)
      (λ e. goes-accepted (eqb-true (status_on t m.call) 0 e))
      (λ e. goes-refused (eqb-false (status_on t m.call) 0 e))

-- ---- a list of calls

abbrev leaps : Made → Bool
leaps m = is_leap m.call

-- What a party sees of all calls is what it sees, from its view alone, of its own and the bench's, where there is no leap; the words v only lend
-- their length.
module _ (v : List ℕ) (fit₀ : sound v ≡ true) (q : ℕ) where
  alone : (ms : List Made) (t : List ℕ) → sound t ≡ true → length v ≡ length t → any leaps (keep (stays q) ms) ≡ false
      → seen_in q t ms ≡ seen_from v q (view q (read t)) (keep (stays q) ms)
  alone [] t ok long no-leap = refl
  alone (m ∷ ms) t ok long no-leap =
      let s = read t in
      let f = sound-well-formed t ok in
      let g = goes t ok m q in
      let rest = keep (stays q) ms in
      let more : any leaps rest ≡ false → seen_in q (outcome t m.call).table ms ≡ seen_from v q (view q (step_in t s m.call)) rest =
      λ l. alone ms (outcome t m.call).table g.stays-sound (long ∙ sym g.as_long) l ∙ ap (λ (z : State). seen_from v q (view q z) rest) g.reads in
      cases (stays q m)
      (λ e.
      let none = neither (leaps m) (any leaps rest) (rw e at no-leap) in
      rw e (ap₂ {C = List Seen} (λ x l. x ∷ l)
      (g.sees ∙ sym (seen-view v t fit₀ ok long q s f m e none.0))
      (more none.1 ∙ ap (λ (z : State). seen_from v q z rest) (sym (step-view v t fit₀ ok long q s f m e none.0)))))
      (λ e. rw e (more (rw e at no-leap) ∙ ap (λ (z : State). seen_from v q z rest) (unseen-view v t fit₀ ok long q s f m e)))
    where
      neither : (a b : Bool) → (a || b) ≡ false → (a ≡ false) × (b ≡ false)
      neither true b e = clash e
      neither false b e = (refl, e)

-- from any sound table
pub isolated-from : (t : List ℕ) → sound t ≡ true → (q : ℕ) (same ms ms' : List Made) → keep (stays q) ms ≡ same → keep (stays q) ms' ≡ same
    → any (λ m. is_leap m.call) same ≡ false → seen_in q t ms ≡ seen_in q t ms'
isolated-from t ok q same ms ms' is is' no-leap =
    alone t ok q ms t ok refl (ap (any leaps) is ∙ no-leap)
    ∙ ap (seen_from t q (view q (read t))) (is ∙ sym is')
    ∙ sym (alone t ok q ms' t ok refl (ap (any leaps) is' ∙ no-leap))

pub isolation : Isolation
isolation w n t split e q ms ms' is =
    let z = sym (outcome-status w (lay_out n t split)) ∙ e in
    isolated-from (outcome w (lay_out n t split)).table (ap sound (laid_table w n t split z) ∙ laid-sound w n t split z) q (keep (stays q) ms) ms ms'
    refl (sym is)

-- ---- readings

-- What a party sees is as if nobody else had called.
pub as-if-alone : (t : List ℕ) → sound t ≡ true → (q : ℕ) (ms : List Made) → any (λ m. is_leap m.call) (keep (stays q) ms) ≡ false
    → seen_in q t ms ≡ seen_in q t (keep (stays q) ms)
as-if-alone t ok q ms no-leap =
    isolated-from t ok q (keep (stays q) ms) ms (keep (stays q) ms) refl (keep_all (stays q) (keep (stays q) ms) (all-passed (stays q) ms)) no-leap

-- the call is one of the party p
abbrev pub made_by : ℕ → Caller → Bool
made_by p bench = false
made_by p (party a) = eqb a p

abbrev pub is_by : ℕ → Made → Bool
is_by p m = made_by p (caller_of m.by m.call)

-- Two lists that agree in all calls but those of the party p are seen alike by any other party.
pub one-party-changes : (t : List ℕ) → sound t ≡ true → (p q : ℕ) → (q ≡ p → ⊥) → (ms ms' : List Made)
    → keep (λ m. not (is_by p m)) ms ≡ keep (λ m. not (is_by p m)) ms' → any (λ m. is_leap m.call) (keep (stays q) ms) ≡ false → seen_in q t ms ≡ seen_in q t ms'
one-party-changes t ok p q n ms ms' e no-leap =
    isolated-from t ok q (keep (stays q) ms) ms ms' refl (kept_by ms' ∙ ap (keep (stays q)) (sym e) ∙ sym (kept_by ms)) no-leap
  where
    not-both : (a : Caller) → stays_for q a ≡ (not (made_by p a) && stays_for q a)
    not-both bench = refl
    not-both (party a) =
        cases (eqb a q)
        (λ f. rw (f, ne_eqb a p (λ g. n (sym (eqb-true a q f) ∙ g))))
        (λ f. rw f (cases (eqb a p) (λ g. rw g) (λ g. rw g)))

    kept_by : (l : List Made) → keep (stays q) l ≡ keep (stays q) (keep (λ m. not (is_by p m)) l)
    kept_by l =
        keep-on (stays q) (λ m. not (is_by p m) && stays q m) l (all (λ m. not-both (caller_of m.by m.call)) l)
        ∙ sym (keep-and (stays q) (λ m. not (is_by p m)) l)
