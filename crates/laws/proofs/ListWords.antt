-- What an accepted call leaves in the list that it was lent: its entries, three words each, and then what was there; and of the slice the words
-- past the table's. Assumes nothing.
use mathlib.Core.Path.{◌≡◌, refl, sym, ap, ◌∙◌, subst}
use Prim.Native.Nat.{ℕ, ◌+◌, ◌-◌, ◌*◌, ◌≤◌, zero-le}
use native.Mathlib.Omega.{arith}
use mathlib.Core.Bool.{true}
use mathlib.Core.List.{List, [], ◌∷◌, ◌++◌, map, append_assoc}
use lib.ListN.{length, get_or, drop, length-map, length-append, length-take, length-drop}
use lib.Seq.{get_or-drop, get_or-append-add}
use lib.Dec.{eqb}
use borrow.Author.Tests.{eqb-true, eqb-false}
use Rattle.model.specs.Lists.{keep}
use Rattle.model.specs.Calls.{Call, lay_out, create, ident, cancel, delete, fire_after, fire_when, fire_every, reset, ticks_left, tick, set_clock, get_clock, next_due, initiate_server, server_fire_after, server_fire_when, serve, leap, lent_to}
use Rattle.model.specs.State.{State, Fired, listed}
use Rattle.model.specs.Directives.{is_own, effect}
use Rattle.model.specs.Words.{word, read, slot_count}
use Rattle.model.specs.Sound.{sound}
use Rattle.model.specs.Outcome.{Outcome, status_on, entry_words, written, outcome}
use Rattle.model.specs.Entries.{EntryAt, Begins}
use Rattle.laws.proofs.ListLaws.{cases}
use Rattle.laws.proofs.WellFormed.{WellFormed}
use Rattle.laws.proofs.StateWords.{length_over, past-over}
use Rattle.laws.proofs.SoundHolds.{sound-holds, sound-well-formed}
use Rattle.laws.proofs.Steps.{length-laid}
use Rattle.laws.proofs.AcceptedCalls.{Accepted, accepted-facts}
use Rattle.laws.proofs.KeptWellFormed.{slots_kept, bound}
use Rattle.laws.proofs.OutcomeLaws.{each-call, status-is, outcome-accepted, outcome-refused}
use Rattle.laws.proofs.CallTables.{table-left}

-- ---- entries

pub length-entries : (fs : List Fired) → length (entry_words fs) ≡ 3 * length fs
length-entries [] = refl
length-entries (f ∷ fs) = omega (arith, length-entries fs)

pub entries-append : (xs ys : List Fired) → entry_words (xs ++ ys) ≡ entry_words xs ++ entry_words ys
entries-append [] ys = refl
entries-append (x ∷ xs) ys = ap {B = List ℕ} (λ (l : List ℕ). x.id ∷ x.routine ∷ x.user_data ∷ l) (entries-append xs ys)

-- the words of the entry f behind xs
entry-words : (xs ys : List Fired) (f : Fired) (rest : List ℕ) (j : ℕ)
    → word (entry_words (xs ++ (f ∷ ys)) ++ rest) (3 * length xs + j) ≡ get_or (f.id ∷ f.routine ∷ f.user_data ∷ entry_words ys ++ rest) j 0
entry-words xs ys f rest j =
    ap (λ (l : List ℕ). word (l ++ rest) (3 * length xs + j)) (entries-append xs (f ∷ ys))
    ∙ ap (λ (l : List ℕ). word l (3 * length xs + j)) (append_assoc (entry_words xs) (entry_words (f ∷ ys)) rest)
    ∙ ap (word (entry_words xs ++ (entry_words (f ∷ ys) ++ rest))) (omega (arith, length-entries xs))
    ∙ get_or-append-add (entry_words xs) (entry_words (f ∷ ys) ++ rest) j 0

written-begins : (fs : List Fired) (lent : List ℕ) → 3 * length fs ≤ length lent → Begins (written fs lent) lent fs
written-begins fs lent fits = record {
  entry = λ xs ys f is. subst (λ (l : List Fired). EntryAt (entry_words l ++ drop (length (entry_words fs)) lent) (length xs) f) (sym is) (record {
    id = ap (word (entry_words (xs ++ (f ∷ ys)) ++ drop (length (entry_words fs)) lent)) (omega arith)
        ∙ entry-words xs ys f (drop (length (entry_words fs)) lent) 0;
    routine = entry-words xs ys f (drop (length (entry_words fs)) lent) 1;
    user_data = entry-words xs ys f (drop (length (entry_words fs)) lent) 2;
  });
  rest = λ m past.
      let k = length (entry_words fs) in
      ap (word (written fs lent)) (omega (arith, length-entries fs))
      ∙ get_or-append-add (entry_words fs) (drop k lent) (m - k) 0 ∙ get_or-drop k lent (m - k) 0
      ∙ ap (word lent) (omega (arith, length-entries fs));
  as_long = omega (arith, fits, length-entries fs, length-append (entry_words fs) (drop (length (entry_words fs)) lent), length-drop (length (entry_words fs)) lent);
}

-- ---- the list of an accepted call

fits : (words : List ℕ) (s : State) → WellFormed s → (c : Call) → Accepted words s c → 3 * length (effect words s c).fired ≤ length (lent_to c)
fits words s h (lay_out n t split) p = zero-le
fits words s h (create party name) p = zero-le
fits words s h (ident party name) p = zero-le
fits words s h (cancel party id) p = zero-le
fits words s h (delete party id) p = zero-le
fits words s h (fire_after party id n r u) p = zero-le
fits words s h (fire_when party id w r u) p = zero-le
fits words s h (fire_every party id n r u) p = zero-le
fits words s h (reset party id) p = zero-le
fits words s h (ticks_left party id) p = zero-le
fits words s h (tick list) p = omega (arith, p, bound words s h (tick list))
fits words s h (set_clock w list) p = omega (arith, p.0, bound words s h (set_clock w list))
fits words s h get_clock p = zero-le
fits words s h next_due p = zero-le
fits words s h initiate_server p = zero-le
fits words s h (server_fire_after party id n r u) p = zero-le
fits words s h (server_fire_when party id w r u) p = zero-le
fits words s h (serve party list) p = omega (arith, p.1, length-take 1 (keep (is_own s party) s.queue))
fits words s h (leap k list) p = omega (arith, p.0, bound words s h (leap k list))

module _ (t : List ℕ) (ok : sound t ≡ true) (c : Call) where
  pub list-begins : status_on t c ≡ 0 → Begins (outcome t c).list (lent_to c) (map (listed (read t).slots) (effect t (read t) c).fired)
  list-begins e =
      let fired = (effect t (read t) c).fired in
      let p = fits t (read t) (sound-well-formed t ok) c (accepted-facts t (read t) c (sym (status-is t c) ∙ e)) in
      subst (λ (l : List ℕ). Begins l (lent_to c) (map (listed (read t).slots) fired)) (sym (ap (λ (o : Outcome). o.list) (outcome-accepted t c e)))
      (written-begins (map (listed (read t).slots) fired) (lent_to c) (omega (arith, p, length-map fired (listed (read t).slots))))

  -- ---- the slice

  long-enough : status_on t c ≡ 0 → 10 + 8 * length (effect t (read t) c).state.slots ≤ length t
  long-enough = each-call (λ c. status_on t c ≡ 0 → 10 + 8 * length (effect t (read t) c).state.slots ≤ length t)
      (λ n k split e. omega (arith, length-laid n k split, (accepted-facts t (read t) (lay_out n k split) (sym (status-is t (lay_out n k split)) ∙ e)).fits))
      (λ c other e. omega (arith, slots_kept t (read t) c other, (sound-holds t ok).long)) c

  pub table-size : length (outcome t c).table ≡ length t
  table-size =
      cases (eqb (status_on t c) 0)
      (λ e.
      let z = eqb-true (status_on t c) 0 e in
      let s = (effect t (read t) c).state in
      ap length (table-left t ok c z) ∙ length_over s t (long-enough z))
      (λ e. ap (λ (o : Outcome). length o.table) (outcome-refused t c (eqb-false (status_on t c) 0 e)))

  pub words-beyond : (m : ℕ) → 10 + 8 * slot_count (outcome t c).table ≤ m → word (outcome t c).table m ≡ word t m
  words-beyond m =
      cases (eqb (status_on t c) 0)
      (λ e p.
      let z = eqb-true (status_on t c) 0 e in
      let s = (effect t (read t) c).state in
      let is = table-left t ok c z in
      ap (λ (u : List ℕ). word u m) is ∙ past-over s t m (omega (arith, p, ap (λ (u : List ℕ). slot_count u) is)))
      (λ e p. ap (λ (o : Outcome). word o.table m) (outcome-refused t c (eqb-false (status_on t c) 0 e)))
