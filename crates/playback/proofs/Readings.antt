-- A replay read as a person would: where no place is given every call's status is the expected one; else those before that place are, that call's is not,
-- and no call behind it is made. Each call is made on the table and list that those before it left. Assumes nothing.
use mathlib.Core.Path.{◌≡◌, refl, sym, ap, ◌∙◌, subst}
use Prim.Native.Nat.{ℕ, zero, suc, ◌+◌, ◌*◌, ◌<◌}
use native.Mathlib.Omega.{arith}
use mathlib.Core.Bool.{Bool, true, false, cond}
use mathlib.Core.Option.{Option, none, some}
use mathlib.Core.List.{List, [], ◌∷◌, ◌++◌}
use lib.ListN.{length, get_or, take, drop}
use lib.Seq.{drop-drop}
use lib.Dec.{eqb}
use borrow.Author.Tests.{eqb-true, eqb-false}
use Rattle.model.specs.Status.{first_of}
use Rattle.model.specs.Calls.{lay_out}
use Rattle.model.specs.Outcome.{outcome}
use Rattle.laws.proofs.ListLaws.{clash}
use Rattle.recording.specs.Format.{words_of, reading, calls_in, statuses_in}
use Rattle.recorded_timer.specs.RecordedCalls.{Step, step_of, step}
use Rattle.playback.specs.Replay.{Replay, replay_of, played_from, replay_rules, played, replaying}

-- ---- the words of the claim

-- what the first i calls of these words leave, with the status of the last of them
abbrev pub after : List ℕ → List ℕ → List ℕ → ℕ → Step
after table list calls zero = step_of 0 table list
after table list calls (suc i) = let s = after table list calls i in step s.table s.list (take 11 (drop (11 * i) calls))

-- the step of call i, on what those before it left
abbrev pub step_at : List ℕ → List ℕ → List ℕ → ℕ → Step
step_at table list calls i = after table list calls (suc i)

-- every status is the expected one, and table and list are what all calls leave, with the rest of the list behind
pub record Agreed (table list calls statuses rest table' list' : List ℕ) : Type 0 where
  pub each : (i : ℕ) → i < length statuses → (step_at table list calls i).status ≡ get_or statuses i 0
  pub table-left : table' ≡ (after table list calls (length statuses)).table
  pub list_left : list' ≡ (after table list calls (length statuses)).list ++ rest

-- those before j are, that of call j is not, and table and list are what it leaves
pub record Differed (table list calls statuses rest : List ℕ) (j : ℕ) (table' list' : List ℕ) : Type 0 where
  pub one-of-them : j < length statuses
  pub before : (i : ℕ) → i < j → (step_at table list calls i).status ≡ get_or statuses i 0
  pub differs : (step_at table list calls j).status ≡ get_or statuses j 0 → ⊥
  pub table-left : table' ≡ (step_at table list calls j).table
  pub list_left : list' ≡ (step_at table list calls j).list ++ rest

-- ---- a call more at the front

shift : (t l calls : List ℕ) (i : ℕ)
    → let s = step t l (take 11 calls) in step_at t l calls (suc i) ≡ step_at s.table s.list (drop 11 calls) i
shift t l calls zero = refl
shift t l calls (suc i) =
    let s = step t l (take 11 calls) in
    let b = step_at s.table s.list (drop 11 calls) i in
    let z : 11 + 11 * suc i ≡ 11 * suc (suc i) = omega arith in
    let d : drop (11 * suc i) (drop 11 calls) ≡ drop (11 * suc (suc i)) calls =
    drop-drop (11 * suc i) 11 calls ∙ ap (λ (n : ℕ). drop n calls) z in
    ap (λ (x : Step). step x.table x.list (take 11 (drop (11 * suc (suc i)) calls))) (shift t l calls i)
    ∙ sym (ap (λ (w : List ℕ). step b.table b.list (take 11 w)) d)

table_on : (t l calls : List ℕ) (n : ℕ)
    → let s = step t l (take 11 calls) in (after s.table s.list (drop 11 calls) n).table ≡ (after t l calls (suc n)).table
table_on t l calls zero = refl
table_on t l calls (suc i) = sym (ap (λ (x : Step). x.table) (shift t l calls i))

list_on : (t l calls : List ℕ) (n : ℕ)
    → let s = step t l (take 11 calls) in (after s.table s.list (drop 11 calls) n).list ≡ (after t l calls (suc n)).list
list_on t l calls zero = refl
list_on t l calls (suc i) = sym (ap (λ (x : Step). x.list) (shift t l calls i))

each_on : (t l calls : List ℕ) (x : ℕ) (statuses : List ℕ) (n : ℕ) → let s = step t l (take 11 calls) in s.status ≡ x
    → ((i : ℕ) → i < n → (step_at s.table s.list (drop 11 calls) i).status ≡ get_or statuses i 0)
    → (i : ℕ) → i < suc n → (step_at t l calls i).status ≡ get_or (x ∷ statuses) i 0
each_on t l calls x statuses n e h zero g = e
each_on t l calls x statuses n e h (suc i) g = ap (λ (s : Step). s.status) (shift t l calls i) ∙ h i (omega arith)

-- ---- from place k on

abbrev there : Option ℕ → Bool
there none = false
there (some k) = true

abbrev number : Option ℕ → ℕ
number none = 0
number (some k) = k

agreed : (k : ℕ) (t l calls statuses rest : List ℕ) → let r = played_from k t l calls statuses in r.place ≡ none
    → Agreed t l calls statuses rest r.table (r.list ++ rest)
unfolding played_from
agreed k t l calls [] rest e = record { each = λ i h. absurd (omega arith); table-left = refl; list_left = refl }
agreed k t l calls (x ∷ statuses) rest e = by (eqb s.status x) refl e (agreed (suc k) s.table s.list (drop 11 calls) statuses rest)
  where
    s : Step
    s = step t l (take 11 calls)

    next : Replay
    next = played_from (suc k) s.table s.list (drop 11 calls) statuses

    end : Replay
    end = replay_of 0 (some k) s.table s.list

    by : (b : Bool) → eqb s.status x ≡ b → (cond b next end).place ≡ none
        → (next.place ≡ none → Agreed s.table s.list (drop 11 calls) statuses rest next.table (next.list ++ rest))
        → Agreed t l calls (x ∷ statuses) rest (cond b next end).table ((cond b next end).list ++ rest)
    by true b e ih =
        let a = ih e in
        let n = length statuses in
        record {
          each = each_on t l calls x statuses n (eqb-true s.status x b) a.each;
          table-left = a.table-left ∙ table_on t l calls n;
          list_left = a.list_left ∙ ap (λ (w : List ℕ). w ++ rest) (list_on t l calls n);
        }
    by false b e ih = clash (ap there e)

-- the place among those from k on
record Found (k j : ℕ) (table list calls statuses rest table' list' : List ℕ) : Type 0 where
  at : ℕ
  at-is : j ≡ k + at
  is : Differed table list calls statuses rest at table' list'

found : (k : ℕ) (t l calls statuses rest : List ℕ) (j : ℕ) → let r = played_from k t l calls statuses in r.place ≡ some j
    → Found k j t l calls statuses rest r.table (r.list ++ rest)
unfolding played_from
found k t l calls [] rest j e = clash (sym (ap there e))
found k t l calls (x ∷ statuses) rest j e = by (eqb s.status x) refl e (found (suc k) s.table s.list (drop 11 calls) statuses rest j)
  where
    s : Step
    s = step t l (take 11 calls)

    next : Replay
    next = played_from (suc k) s.table s.list (drop 11 calls) statuses

    end : Replay
    end = replay_of 0 (some k) s.table s.list

    by : (b : Bool) → eqb s.status x ≡ b → (cond b next end).place ≡ some j
        → (next.place ≡ some j → Found (suc k) j s.table s.list (drop 11 calls) statuses rest next.table (next.list ++ rest))
        → Found k j t l calls (x ∷ statuses) rest (cond b next end).table ((cond b next end).list ++ rest)
    by true b e ih =
        let f = ih e in
        let m = f.at in
        let d = f.is in
        let z = f.at-is in
        let inside = d.one-of-them in
        record {
          at = suc m;
          at-is = omega arith;
          is = record {
            one-of-them = omega arith;
            before = each_on t l calls x statuses m (eqb-true s.status x b) d.before;
            differs = λ g. d.differs (sym (ap (λ (y : Step). y.status) (shift t l calls m)) ∙ g);
            table-left = d.table-left ∙ table_on t l calls (suc m);
            list_left = d.list_left ∙ ap (λ (w : List ℕ). w ++ rest) (list_on t l calls (suc m));
          };
        }
    by false b e ih =
        let z : k ≡ j = ap number e in
        record {
          at = 0;
          at-is = omega arith;
          is = record {
            one-of-them = omega arith;
            before = λ i h. absurd (omega arith);
            differs = eqb-false s.status x b;
            table-left = refl;
            list_left = refl;
          };
        }

-- ---- of a recording

module _ (bytes table list : List ℕ) where
  -- the table, laid out by N and T; the words of the list that the calls are lent, and the others
  abbrev pub laid_out : List ℕ
  laid_out = (outcome table (lay_out (reading bytes).slots (reading bytes).rate 0)).table

  abbrev pub lent : List ℕ
  lent = take (3 * (reading bytes).slots) list

  abbrev pub others : List ℕ
  others = drop (3 * (reading bytes).slots) list

  played-is : (replaying bytes table list).status ≡ 0 → replaying bytes table list ≡ played (reading bytes) (words_of bytes) table list
  unfolding replaying
  played-is e = by (eqb status 0) refl e
    where
      status : ℕ
      status = first_of (replay_rules (reading bytes) table list)

      all : Replay
      all = played (reading bytes) (words_of bytes) table list

      nothing : Replay
      nothing = replay_of status (some (reading bytes).position) table list

      by : (b : Bool) → eqb status 0 ≡ b → (cond b all nothing).status ≡ 0 → cond b all nothing ≡ all
      by true t e = refl
      by false t e = absurd (eqb-false status 0 t e)

  pub all-agree : let r = replaying bytes table list in r.status ≡ 0 → r.place ≡ none
      → Agreed laid_out lent (calls_in (words_of bytes)) (statuses_in (words_of bytes)) others r.table r.list
  all-agree e f =
      let is = played-is e in
      let calls = calls_in (words_of bytes) in
      let statuses = statuses_in (words_of bytes) in
      subst (λ (r : Replay). Agreed laid_out lent calls statuses others r.table r.list) (sym is)
      (agreed 0 laid_out lent calls statuses others (sym (ap (λ (r : Replay). r.place) is) ∙ f))

  pub first-differs : (j : ℕ) → let r = replaying bytes table list in r.status ≡ 0 → r.place ≡ some j
      → Differed laid_out lent (calls_in (words_of bytes)) (statuses_in (words_of bytes)) others j r.table r.list
  first-differs j e f =
      let is = played-is e in
      let calls = calls_in (words_of bytes) in
      let statuses = statuses_in (words_of bytes) in
      let w = found 0 laid_out lent calls statuses others j (sym (ap (λ (r : Replay). r.place) is) ∙ f) in
      let p : w.at ≡ j = let z = w.at-is in omega arith in
      subst (λ (r : Replay). Differed laid_out lent calls statuses others j r.table r.list) (sym is)
      (subst (λ (n : ℕ). Differed laid_out lent calls statuses others n (played (reading bytes) (words_of bytes) table list).table
      (played (reading bytes) (words_of bytes) table list).list) p w.is)
