-- A chain with one link in its middle, `xs ++ e ∷ ys`: what the table says of that link, and how often slots stand in it. Assumes nothing.
use mathlib.Core.Path.{◌≡◌, refl, sym, ap, ◌∙◌, subst}
use Prim.Native.Nat.{ℕ, suc, ◌+◌, ◌≤◌, ◌<◌, zero-le}
use native.Mathlib.Omega.{arith}
use mathlib.Core.Bool.{Bool, false, cond}
use mathlib.Core.List.{List, [], ◌∷◌, ◌++◌}
use lib.ListN.{length}
use lib.Dec.{eqb}
use borrow.Author.Tests.{eqb-true, eq-eqb}
use Rattle.model.specs.declared.Chain.{Chain}
use Rattle.model.specs.Lists.{All, Sorted}
use Rattle.model.specs.Kinds.{same_chain}
use Rattle.model.specs.State.{Link, State, chain_of, without}
use Rattle.model.specs.Words.{first}
use Rattle.laws.proofs.ListLaws.{cases, count-append}
use Rattle.laws.proofs.WellFormed.{times_in, Holds}
use Rattle.laws.proofs.Chains.{without-none, once, once-apart, met-in-range}
use Rattle.laws.proofs.StateWords.{Stands, Linked, holds-linked}
use Rattle.links.specs.Places.{last_slot, last_wait}

-- ---- the last link of the front

pub last-slot : (p : ℕ) (xs : List Link) (w : Link) → last_slot p (xs ++ (w ∷ [])) ≡ w.slot
last-slot p [] w = refl
last-slot p (x ∷ xs) w = last-slot x.slot xs w

pub last-wait : (b : ℕ) (xs : List Link) (w : Link) → last_wait b (xs ++ (w ∷ [])) ≡ w.wait
last-wait b [] w = refl
last-wait b (x ∷ xs) w = last-wait x.wait xs w

-- ---- how often a slot stands there

pub times_more : (w : Link) (ws : List Link) (j : ℕ) → times_in ws j ≤ times_in (w ∷ ws) j
times_more w ws j = cases (eqb w.slot j) (λ f. rw f (omega arith)) (λ f. rw f (omega arith))

pub times-mid : (j : ℕ) (xs : List Link) (e : Link) (ys : List Link) → times_in (xs ++ e ∷ ys) j ≡ times_in (xs ++ ys) j + cond (eqb e.slot j) 1 0
times-mid j xs e ys =
    count-append (λ w. eqb w.slot j) xs (e ∷ ys)
    ∙ (cases (eqb e.slot j)
    (λ f. rw f (omega (arith, count-append (λ w. eqb w.slot j) xs ys)))
    (λ f. rw f (omega (arith, count-append (λ w. eqb w.slot j) xs ys))))

pub times-at : (xs : List Link) (e : Link) (ys : List Link) → times_in (xs ++ e ∷ ys) e.slot ≡ suc (times_in (xs ++ ys) e.slot)
times-at xs e ys =
    times-mid e.slot xs e ys ∙ ap (λ (b : Bool). times_in (xs ++ ys) e.slot + cond b 1 0) (eq-eqb e.slot e.slot refl) ∙ omega arith

-- ---- a link found in a chain

pub record Split (i : ℕ) (c : List Link) : Type 0 where
  pub front : List Link
  pub entry : Link
  pub back : List Link
  pub slot : entry.slot ≡ i
  pub whole : c ≡ front ++ entry ∷ back
  pub rest : without i c ≡ front ++ back

pub split : (i : ℕ) (c : List Link) → times_in c i ≡ 1 → Split i c
split i [] e = absurd (omega arith)
split i (w ∷ ws) e =
    cases (eqb w.slot i)
    (λ f.
    let z : suc (times_in ws i) ≡ 1 = rw f at e in
    record { front = []; entry = w; back = ws; slot = eqb-true w.slot i f; whole = refl; rest = rw f (without-none i ws (omega arith)) })
    (λ f.
    let s = split i ws (rw f at e) in
    record {
      front = w ∷ s.front;
      entry = s.entry;
      back = s.back;
      slot = s.slot;
      whole = ap {B = List Link} (λ l. w ∷ l) s.whole;
      rest = rw f (ap {B = List Link} (λ l. w ∷ l) s.rest);
    })

-- ---- waits rise

pub all-mid : (P : Link → Type 0) (xs : List Link) (e : Link) (ys : List Link) → All P (xs ++ e ∷ ys) → P e
all-mid P [] e ys h = h.0
all-mid P (x ∷ xs) e ys h = all-mid P xs e ys h.1

sorted-last : (b : ℕ) (xs : List Link) (e : Link) (ys : List Link) → b ≤ e.wait → Sorted (λ w. w.wait) (xs ++ e ∷ ys) → last_wait b xs ≤ e.wait
sorted-last b [] e ys p h = p
sorted-last b (x ∷ xs) e ys p h = sorted-last x.wait xs e ys (all-mid (λ y. x.wait ≤ y.wait) xs e ys h.0) h.1

pub sorted-next : (xs : List Link) (e y : Link) (ys : List Link) → Sorted (λ w. w.wait) (xs ++ e ∷ y ∷ ys) → e.wait ≤ y.wait
sorted-next [] e y ys h = h.0.0
sorted-next (x ∷ xs) e y ys h = sorted-next xs e y ys h.1

-- ---- what the table says of the link

linked-mid : (k : Chain) (t : List ℕ) (p b : ℕ) (xs : List Link) (e : Link) (ys : List Link)
    → Linked k t p b (xs ++ e ∷ ys) → Stands k t (last_slot p xs) (last_wait b xs) e (first ys)
linked-mid k t p b [] e ys h = h.0
linked-mid k t p b (x ∷ xs) e ys h = linked-mid k t x.slot x.wait xs e ys h.1

pub linked-back : (k : Chain) (t : List ℕ) (p b : ℕ) (xs : List Link) (e : Link) (ys : List Link)
    → Linked k t p b (xs ++ e ∷ ys) → Linked k t e.slot e.wait ys
linked-back k t p b [] e ys h = h.1
linked-back k t p b (x ∷ xs) e ys h = linked-back k t x.slot x.wait xs e ys h.1

module _ (k : Chain) (t : List ℕ) (s : State) (h : Holds t s) (xs : List Link) (e : Link) (ys : List Link) (whole : chain_of k s ≡ xs ++ e ∷ ys) where
  pub mid-stands : Stands k t (last_slot 0 xs) (last_wait 0 xs) e (first ys)
  mid-stands = linked-mid k t 0 0 xs e ys (subst (Linked k t 0 0) whole (holds-linked t s h k))

  pub mid-once : (j : ℕ) → times_in (xs ++ e ∷ ys) j ≤ 1
  mid-once j = subst (λ (c : List Link). times_in c j ≤ 1) whole (once s h.chained k j)

  pub mid-apart : (m : Chain) → same_chain m k ≡ false → (j : ℕ) → times_in (xs ++ e ∷ ys) j + times_in (chain_of m s) j ≤ 1
  mid-apart m away j =
      subst (λ (c : List Link). times_in c j + times_in (chain_of m s) j ≤ 1) whole (omega (arith, once-apart s h.chained m k away j))

  pub mid-within : (j : ℕ) → 0 < times_in (xs ++ e ∷ ys) j → (0 < j) × (j ≤ length s.slots)
  mid-within j p = met-in-range s h.chained k j (subst (λ (c : List Link). 0 < times_in c j) (sym whole) p)

  pub mid-own : (0 < e.slot) × (e.slot ≤ length s.slots)
  mid-own = mid-within e.slot (omega (arith, times-at xs e ys))

  pub mid-sorted : Sorted (λ w. w.wait) (xs ++ e ∷ ys)
  mid-sorted = subst (Sorted (λ w. w.wait)) whole (h.chained.rises k)

  pub last-low : last_wait 0 xs ≤ e.wait
  last-low = sorted-last 0 xs e ys zero-le mid-sorted
