-- Along the queue to the party's first: those before it are the other's, and each step leaves one link less to go. And what that first one is: the
-- front of those that are the party's own. Assumes nothing.
use mathlib.Core.Path.{◌≡◌, refl, sym, ap, ◌∙◌}
use mathlib.Core.Logic.{◌≢◌}
use Prim.Native.Nat.{ℕ, suc, ◌+◌, ◌*◌, ◌≤◌, ◌<◌}
use native.Mathlib.Omega.{arith}
use mathlib.Core.Bool.{Bool, true, false, cond}
use mathlib.Core.List.{List, [], ◌∷◌, ◌++◌, append_assoc, append-nil}
use lib.ListN.{length, take}
use lib.Dec.{eqb}
use borrow.Author.Tests.{eqb-true, eqb-false, eq-eqb, ne_eqb}
use Rattle.std.specs.Prelude.{Some, None}
use Rattle.model.specs.declared.Chain.TheVariants.{Queue}
use Rattle.model.specs.Lists.{keep, drop_first, All}
use Rattle.model.specs.Parties.{owner_of}
use Rattle.model.specs.State.{Link, without}
use Rattle.model.specs.Directives.{is_own, front}
use Rattle.model.specs.Words.{first, read, party_split, first_queued, next_of}
use Rattle.laws.proofs.ListLaws.{cases, keep_append, count-append}
use Rattle.laws.proofs.WellFormed.{times_in, Holds}
use Rattle.laws.proofs.Chains.{without-none, met-in-range}
use Rattle.links.proofs.LinkInMiddle.{times-at, mid-stands, mid-own, mid-once}
use Rattle.slots.specs.Search.{some_slot}
use Rattle.slots.proofs.Laws.{slot-some, slot-none}
use Rattle.firing.proofs.Heads.{head_of}

-- ---- lists of links

-- a link passes the test, and none before it does
pub record First (p : Link → Bool) (l : List Link) : Type 0 where
  pub others : List Link
  pub entry : Link
  pub back : List Link
  pub whole : l ≡ others ++ entry ∷ back
  pub not-those : keep p others ≡ []
  pub is : p entry ≡ true

abbrev is_some : List Link → ℕ
is_some [] = 0
is_some (x ∷ xs) = 1

module _ (p : Link → Bool) where
  pub first-kept : (xs : List Link) (e : Link) (ys : List Link) → keep p xs ≡ [] → p e ≡ true → keep p (xs ++ e ∷ ys) ≡ e ∷ keep p ys
  first-kept xs e ys none is = keep_append p xs (e ∷ ys) ∙ rw (none, is)

  pub found : (l : List Link) (w : Link) (ws : List Link) → keep p l ≡ w ∷ ws → First p l
  found [] w ws e = absurd (let z : ◌≡◌ {A = ℕ} 0 1 = ap is_some e in omega arith)
  found (x ∷ xs) w ws e =
      cases (p x)
      (λ f. record { others = []; entry = x; back = xs; whole = refl; not-those = refl; is = f })
      (λ f.
      let r = found xs w ws (rw f at e) in
      record {
        others = x ∷ r.others;
        entry = r.entry;
        back = r.back;
        whole = ap {B = List Link} (λ l. x ∷ l) r.whole;
        not-those = rw f r.not-those;
        is = r.is;
      })

  pub none_kept : (l : List Link) → keep p l ≡ [] → All (λ x. p x ≡ false) l
  none_kept [] e = tt
  none_kept (x ∷ xs) e =
      cases (p x)
      (λ f. absurd (let z : ◌≡◌ {A = ℕ} 1 0 = ap is_some (rw f at e) in omega arith))
      (λ f. (f, none_kept xs (rw f at e)))

  pub dropped : (xs : List Link) (e : Link) (ys : List Link) → keep p xs ≡ [] → p e ≡ true → drop_first p (xs ++ e ∷ ys) ≡ xs ++ ys
  dropped [] e ys none is = rw is
  dropped (x ∷ xs) e ys none is =
      cases (p x)
      (λ f. absurd (let z : ◌≡◌ {A = ℕ} 1 0 = ap is_some (rw f at none) in omega arith))
      (λ f. rw f (ap {B = List Link} (λ l. x ∷ l) (dropped xs e ys (rw f at none) is)))

pub without-mid : (xs : List Link) (e : Link) (ys : List Link) → times_in xs e.slot ≡ 0 → times_in ys e.slot ≡ 0
    → without e.slot (xs ++ e ∷ ys) ≡ xs ++ ys
without-mid [] e ys a b = rw (eq-eqb e.slot e.slot refl) (without-none e.slot ys b)
without-mid (x ∷ xs) e ys a b =
    cases (eqb x.slot e.slot)
    (λ f. absurd (let z = rw f at a in omega arith))
    (λ f. rw f (ap {B = List Link} (λ l. x ∷ l) (without-mid xs e ys (rw f at a) b)))

-- how many links there are from slot i on
abbrev pub from : ℕ → List Link → ℕ
from i [] = 0
from i (w ∷ ws) = cond (eqb w.slot i) (suc (length ws)) (from i ws)

from-none : (i : ℕ) (l : List Link) → times_in l i ≡ 0 → from i l ≡ 0
from-none i [] e = refl
from-none i (w ∷ ws) e = cases (eqb w.slot i) (λ f. absurd (let z = rw f at e in omega arith)) (λ f. rw f (from-none i ws (rw f at e)))

from-mid : (xs : List Link) (e : Link) (ys : List Link) → times_in xs e.slot ≡ 0 → from e.slot (xs ++ e ∷ ys) ≡ suc (length ys)
from-mid [] e ys a = rw (eq-eqb e.slot e.slot refl)
from-mid (x ∷ xs) e ys a =
    cases (eqb x.slot e.slot) (λ f. absurd (let z = rw f at a in omega arith)) (λ f. rw f (from-mid xs e ys (rw f at a)))

-- ---- the walk

module _ {t : List ℕ} (h : Holds t (read t)) where
  -- a link of the queue stands nowhere else in it
  pub ahead_of : (xs : List Link) (e : Link) (ys : List Link) → (read t).queue ≡ xs ++ e ∷ ys → (times_in xs e.slot ≡ 0) × (times_in ys e.slot ≡ 0)
  ahead_of xs e ys whole =
      let one = mid-once Queue t (read t) h xs e ys whole e.slot in
      let at = times-at xs e ys in
      let parts = count-append (λ w. eqb w.slot e.slot) xs ys in
      (omega (arith, one, at, parts), omega (arith, one, at, parts))

  -- where the links `back` follow others, there are so many from the first of them on
  pub left_is : (xs ys : List Link) → (read t).queue ≡ xs ++ ys → from (first ys) (read t).queue ≡ length ys
  left_is xs [] whole = from-none 0 (read t).queue (cases (eqb (times_in (read t).queue 0) 0)
      (λ e. zero_is e)
      (λ e. absurd (let r = (met-in-range (read t) h.chained Queue 0 (some_is e)).0 in omega arith)))
    where
      zero_is : eqb (times_in (read t).queue 0) 0 ≡ true → times_in (read t).queue 0 ≡ 0
      zero_is e = eqb-true (times_in (read t).queue 0) 0 e

      some_is : eqb (times_in (read t).queue 0) 0 ≡ false → 0 < times_in (read t).queue 0
      some_is e = let n = eqb-false (times_in (read t).queue 0) 0 e in omega (arith, n)
  left_is xs (y ∷ ys) whole = ap (from y.slot) whole ∙ from-mid xs y ys (ahead_of xs y ys whole).0

-- slot i is the next to look at, and those before it are not the party's
pub record Passed (t : List ℕ) (party i : ℕ) : Type 0 where
  pub holds : Holds t (read t)
  pub others : List Link
  pub back : List Link
  pub whole : (read t).queue ≡ others ++ back
  pub not-those : keep (is_own (read t) party) others ≡ []
  pub next : i ≡ first back

pub walk_start : {t : List ℕ} (party : ℕ) {i : ℕ} → Holds t (read t) → i ≡ first_queued t → Passed t party i
walk_start {t} party h e = record { holds = h; others = []; back = (read t).queue; whole = refl; not-those = refl; next = e ∙ head_of Queue h }

module _ {t : List ℕ} {party i : ℕ} (a : Passed t party i) where
  pub walk_end : i ≡ 0 → None ≡ some_slot (first (front (read t) party))
  walk_end e = slot-none _ (go a.back refl)
    where
      go : (ys : List Link) → a.back ≡ ys → first (front (read t) party) ≡ 0
      go [] q =
          (ap (λ (l : List Link). first (take 1 (keep (is_own (read t) party) l)))
          (a.whole ∙ ap (λ (l : List Link). a.others ++ l) q ∙ append-nil a.others)
          ∙ ap (λ (l : List Link). first (take 1 l)) a.not-those)
      go (y ∷ ys) q =
          let low = (mid-own Queue t (read t) a.holds a.others y ys (a.whole ∙ ap (λ (l : List Link). a.others ++ l) q)).0 in
          absurd (omega (arith, a.next, ap first q))

  record Here : Type 0 where
    entry : Link
    behind : List Link
    back_is : a.back ≡ entry ∷ behind
    whole_is : (read t).queue ≡ a.others ++ entry ∷ behind
    slot : i ≡ entry.slot

  module _ (some : i ≢ 0) where
    here : Here
    here = go a.back refl
      where
        go : (ys : List Link) → a.back ≡ ys → Here
        go [] q = absurd (some (a.next ∙ ap first q))
        go (y ∷ ys) q =
            record { entry = y; behind = ys; back_is = q; whole_is = a.whole ∙ ap (λ (l : List Link). a.others ++ l) q; slot = a.next ∙ ap first q }

    pub walk_inside : 8 * i + 10 ≤ length t
    walk_inside = omega (arith, (mid-own Queue t (read t) a.holds a.others here.entry here.behind here.whole_is).1, here.slot, a.holds.long)

    owned : is_own (read t) party here.entry ≡ eqb (owner_of (party_split t) i) party
    owned = ap (λ (j : ℕ). eqb (owner_of (party_split t) j) party) (sym here.slot)

    pub walk-found : owner_of (party_split t) i ≡ party → Some i ≡ some_slot (first (front (read t) party))
    walk-found e =
        slot-some _ i (here.slot
        ∙ sym (ap (λ (l : List Link). first (take 1 (keep (is_own (read t) party) l))) here.whole_is
        ∙ ap (λ (l : List Link). first (take 1 l))
        (first-kept (is_own (read t) party) a.others here.entry here.behind a.not-those
        (owned ∙ eq-eqb (owner_of (party_split t) i) party e)))) (omega (arith, some))

    pub walk-on : (owner_of (party_split t) i ≡ party → ⊥) → Passed t party (next_of t i)
    walk-on n =
        let p = is_own (read t) party in
        let e = here.entry in
        record {
          holds = a.holds;
          others = a.others ++ (e ∷ []);
          back = here.behind;
          whole = here.whole_is ∙ sym (append_assoc a.others (e ∷ []) here.behind);
          not-those = keep_append p a.others (e ∷ []) ∙ rw (a.not-those, owned, ne_eqb (owner_of (party_split t) i) party n);
          next = ap (next_of t) here.slot ∙ (mid-stands Queue t (read t) a.holds a.others e here.behind here.whole_is).next;
        }

    pub walk-falls : (n : owner_of (party_split t) i ≡ party → ⊥) → from (next_of t i) (read t).queue < from i (read t).queue
    unfolding walk-on
    walk-falls n =
        let b = walk-on n in
        omega (
          arith,
          ap (λ (j : ℕ). from j (read t).queue) b.next ∙ left_is b.holds b.others b.back b.whole,
          ap (λ (j : ℕ). from j (read t).queue) a.next ∙ left_is a.holds a.others a.back a.whole,
          ap length here.back_is,
        )
