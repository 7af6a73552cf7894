-- Along a chain to the place of a new link: at each slot the chain is a front, all of it due by then, and a back; what is left of the ticks
-- is what the front leaves of them. The walk may start at any slot of the chain that is due by then. Assumes nothing.
use mathlib.Core.Path.{◌≡◌, refl, sym, ap, ap₂, ◌∙◌, subst}
use mathlib.Core.Logic.{◌≢◌}
use Prim.Native.Nat.{ℕ, zero, suc, ◌+◌, ◌-◌, ◌*◌, ◌≤◌, ◌<◌, zero-le}
use native.Mathlib.Omega.{arith}
use mathlib.Core.List.{List, [], ◌∷◌, ◌++◌, append_assoc, append-nil}
use lib.ListN.{length, length-append}
use borrow.Author.Tests.{le-leb, lt-leb}
use Rattle.model.specs.declared.Chain.{Chain}
use Rattle.model.specs.declared.Chain.TheVariants.{ByTicks, ByDate, Queue}
use Rattle.model.specs.Lists.{All, Sorted}
use Rattle.model.specs.State.{Link, chain_of, wait_at}
use Rattle.model.specs.Words.{first, difference, accumulated, word, read, wait_of, next_of}
use Rattle.laws.proofs.ListLaws.{all_map, all_append}
use Rattle.laws.proofs.WellFormed.{Holds}
use Rattle.laws.proofs.Chains.{once, met-in-range}
use Rattle.laws.proofs.StateWords.{link_word, link-field, Stands, holds_parts, difference-total}
use Rattle.links.specs.Places.{At, From, up_to, last_slot, last_wait}
use Rattle.links.proofs.LinkInMiddle.{last-slot, last-wait, Split, split, all-mid, mid-stands, mid-own, mid-sorted, last-low}
use Rattle.links.proofs.Positions.{position, last_of}

-- ---- what is left

differ-less : (k : Chain) (b w n : ℕ) → b ≤ w → b ≤ n → difference k b n < difference k b w → n < w
differ-less ByTicks b w n p q r = omega arith
differ-less ByDate b w n p q r = r
differ-less Queue b w n p q r = r

differ-more : (k : Chain) (b w n : ℕ) → b ≤ w → b ≤ n → difference k b w ≤ difference k b n → w ≤ n
differ-more ByTicks b w n p q r = omega arith
differ-more ByDate b w n p q r = r
differ-more Queue b w n p q r = r

differ-on : (k : Chain) (b w n : ℕ) → b ≤ w → w ≤ n → difference k (difference k b w) (difference k b n) ≡ difference k w n
differ-on ByTicks b w n p q = omega arith
differ-on ByDate b w n p q = refl
differ-on Queue b w n p q = refl

pub differ-zero : (k : Chain) (n : ℕ) → difference k 0 n ≡ n
differ-zero ByTicks n = omega arith
differ-zero ByDate n = refl
differ-zero Queue n = refl

differ-low : (k : Chain) (w n : ℕ) → difference k w n ≤ n
differ-low ByTicks w n = omega arith
differ-low ByDate w n = omega arith
differ-low Queue w n = omega arith

-- ---- a front that is due

due-up : (n : ℕ) (xs ys : List Link) → All (λ w. w.wait ≤ n) xs → up_to n (xs ++ ys) ≡ xs ++ up_to n ys
due-up n [] ys h = refl
due-up n (x ∷ xs) ys h = rw (le-leb x.wait n h.0) (ap {B = List Link} (λ l. x ∷ l) (due-up n xs ys h.1))

due-last : (b n : ℕ) (xs : List Link) → b ≤ n → All (λ w. w.wait ≤ n) xs → last_wait b xs ≤ n
due-last b n [] p h = p
due-last b n (x ∷ xs) p h = due-last x.wait n xs h.0 h.1

-- ---- the walk

-- slot i follows slot p in chain k, all up to p are due by n, and `left` is what is left of n behind p
pub record Walked (k : Chain) (t : List ℕ) (n p left i : ℕ) : Type 0 where
  pub holds : Holds t (read t)
  pub front : List Link
  pub back : List Link
  pub whole : chain_of k (read t) ≡ front ++ back
  pub due : All (λ w. w.wait ≤ n) front
  pub before : p ≡ last_slot 0 front
  pub next : i ≡ first back
  pub rest : left ≡ difference k (last_wait 0 front) n

-- what is left, and the links behind slot p
abbrev pub ahead : Chain → List ℕ → ℕ → ℕ → ℕ
ahead k t p left = left + (length (chain_of k (read t)) - position p (chain_of k (read t)))

-- ---- the start

-- up to a link none is due after it
sorted-up : (xs : List Link) (e : Link) (ys : List Link) → Sorted (λ w. w.wait) (xs ++ e ∷ ys) → All (λ w. w.wait ≤ e.wait) (xs ++ (e ∷ []))
sorted-up [] e ys h = (omega arith, tt)
sorted-up (x ∷ xs) e ys h = (all-mid (λ w. x.wait ≤ w.wait) xs e ys h.0, sorted-up xs e ys h.1)

module _ (k : Chain) (t : List ℕ) where
  -- there is no slot 0
  pub zero-wait : Holds t (read t) → wait_at 0 (chain_of k (read t)) ≡ 0
  zero-wait h = (last_of k (read t) h.chained [] (chain_of k (read t)) refl).wait

  pub from-inside : (p left : ℕ) → From k t p left → 8 * p + 10 ≤ length t
  from-inside zero left h = omega (arith, h.holds.long)
  from-inside (suc p) left h = omega (arith, h.holds.long, (met-in-range (read t) h.holds.chained k (suc p) (h.there (omega arith))).1)

  -- from the chain's start
  pub from_start : (n : ℕ) → Holds t (read t) → From k t 0 n
  from_start n h = record { holds = h; there = λ p. absurd (omega arith); due = omega (arith, zero-wait h) }

  pub at-start : {n p w : ℕ} → Holds t (read t) → At k (read t) (accumulated k (wait_at 0 (chain_of k (read t))) n) p w → At k (read t) n p w
  at-start {n} {p} {w} h = subst (λ (m : ℕ). At k (read t) m p w) (ap (λ (b : ℕ). accumulated k b n) (zero-wait h) ∙ none k)
    where
      none : (k : Chain) → accumulated k 0 n ≡ n
      none ByTicks = omega arith
      none ByDate = refl
      none Queue = refl

  -- from a slot of the chain
  from-slot : (p left i : ℕ) → From k t p left → i ≡ word t (link_word k p) → 0 < p → Split p (chain_of k (read t))
      → Walked k t (accumulated k (wait_at p (chain_of k (read t))) left) p left i
  from-slot p left i h e low f =
      let s = read t in
      let here = f.front ++ (f.entry ∷ []) in
      let n = accumulated k (wait_at p (chain_of k s)) left in
      let whole : chain_of k s ≡ here ++ f.back = f.whole ∙ sym (append_assoc f.front (f.entry ∷ []) f.back) in
      let is : last_slot 0 here ≡ p = last-slot 0 f.front f.entry ∙ f.slot in
      let wait : wait_at p (chain_of k s) ≡ last_wait 0 here =
      ap (λ (j : ℕ). wait_at j (chain_of k s)) (sym is) ∙ (last_of k s h.holds.chained here f.back whole).wait in
      record {
        holds = h.holds;
        front = here;
        back = f.back;
        whole = whole;
        due = all_map (λ w q. omega (arith, q, h.due, wait, last-wait 0 f.front f.entry)) here
            (sorted-up f.front f.entry f.back (mid-sorted k t s h.holds f.front f.entry f.back f.whole));
        before = sym is;
        next = e ∙ link-field k t p low ∙ ap (next_of t) (sym f.slot) ∙ (mid-stands k t s h.holds f.front f.entry f.back f.whole).next;
        rest = sym (difference-total k (wait_at p (chain_of k s)) left) ∙ ap (λ (b : ℕ). difference k b n) wait;
      }

  pub walk_from : (p left i : ℕ) → From k t p left → i ≡ word t (link_word k p) → Walked k t (accumulated k (wait_at p (chain_of k (read t))) left) p left i
  walk_from zero left i h e = record {
    holds = h.holds;
    front = [];
    back = chain_of k (read t);
    whole = refl;
    due = tt;
    before = refl;
    next = e ∙ ((holds_parts t (read t) h.holds).lay k).links 0 (λ p. absurd (omega arith));
    rest = sym (difference-total k 0 left) ∙ ap (λ (b : ℕ). difference k 0 (accumulated k b left)) (sym (zero-wait h.holds));
  }
  walk_from (suc p) left i h e =
      from-slot (suc p) left i h e (omega arith)
      (split (suc p) (chain_of k (read t)) (omega (arith, h.there (omega arith), once (read t) h.holds.chained k (suc p))))

-- ---- on the way

-- the link of slot i, and those behind it
record Here (k : Chain) (t : List ℕ) (front : List Link) (i : ℕ) : Type 0 where
  entry : Link
  behind : List Link
  whole : chain_of k (read t) ≡ front ++ entry ∷ behind
  slot : i ≡ entry.slot

module _ {k : Chain} {t : List ℕ} {n p left i : ℕ} (a : Walked k t n p left i) where
  -- the front is all that is due
  found : up_to n (chain_of k (read t)) ≡ a.front → At k (read t) n p left
  found e = record { slot = a.before ∙ ap (last_slot 0) (sym e); word = a.rest ∙ ap (λ (l : List Link). difference k (last_wait 0 l) n) (sym e) }

  pub walk_end : i ≡ 0 → At k (read t) n p left
  walk_end e = go a.back refl
    where
      go : (ys : List Link) → a.back ≡ ys → At k (read t) n p left
      go [] q = found (ap (up_to n) (a.whole ∙ ap (λ (l : List Link). a.front ++ l) q) ∙ due-up n a.front [] a.due ∙ append-nil a.front)
      go (y ∷ ys) q =
          let low = (mid-own k t (read t) a.holds a.front y ys (a.whole ∙ ap (λ (l : List Link). a.front ++ l) q)).0 in
          absurd (omega (arith, a.next, ap first q))

  module _ (some : i ≢ 0) where
    here : Here k t a.front i
    here = go a.back refl
      where
        go : (ys : List Link) → a.back ≡ ys → Here k t a.front i
        go [] q = absurd (some (a.next ∙ ap first q))
        go (y ∷ ys) q = record { entry = y; behind = ys; whole = a.whole ∙ ap (λ (l : List Link). a.front ++ l) q; slot = a.next ∙ ap first q }

    pub walk_inside : 8 * i + 10 ≤ length t
    walk_inside = omega (arith, (mid-own k t (read t) a.holds a.front here.entry here.behind here.whole).1, here.slot, a.holds.long)

    stands : Stands k t (last_slot 0 a.front) (last_wait 0 a.front) here.entry (first here.behind)
    stands = mid-stands k t (read t) a.holds a.front here.entry here.behind here.whole

    wait-here : wait_of t i ≡ difference k (last_wait 0 a.front) here.entry.wait
    wait-here = ap (wait_of t) here.slot ∙ stands.wait

    low : last_wait 0 a.front ≤ here.entry.wait
    low = last-low k t (read t) a.holds a.front here.entry here.behind here.whole

    high : last_wait 0 a.front ≤ n
    high = due-last 0 n a.front zero-le a.due

    pub walk-stop : left < wait_of t i → At k (read t) n p left
    walk-stop l =
        let late : n < here.entry.wait = differ-less k (last_wait 0 a.front) here.entry.wait n low high (omega (arith, wait-here, a.rest)) in
        found (ap (up_to n) here.whole ∙ due-up n a.front (here.entry ∷ here.behind) a.due
        ∙ rw (lt-leb here.entry.wait n late) (append-nil a.front))

    pub walk-on : wait_of t i ≤ left → Walked k t n i (difference k (wait_of t i) left) (next_of t i)
    walk-on l =
        let due : here.entry.wait ≤ n = differ-more k (last_wait 0 a.front) here.entry.wait n low high (omega (arith, wait-here, a.rest)) in
        record {
          holds = a.holds;
          front = a.front ++ (here.entry ∷ []);
          back = here.behind;
          whole = here.whole ∙ sym (append_assoc a.front (here.entry ∷ []) here.behind);
          due = all_append (λ w. w.wait ≤ n) a.front (here.entry ∷ []) a.due (due, tt);
          before = here.slot ∙ sym (last-slot 0 a.front here.entry);
          next = ap (next_of t) here.slot ∙ stands.next;
          rest = ap₂ (difference k) wait-here a.rest ∙ differ-on k (last_wait 0 a.front) here.entry.wait n low due
              ∙ ap (λ (b : ℕ). difference k b n) (sym (last-wait 0 a.front here.entry));
        }

    pub walk-falls : wait_of t i ≤ left → ahead k t i (difference k (wait_of t i) left) < ahead k t p left
    unfolding walk-on
    walk-falls l =
        let one_more : position i (chain_of k (read t)) ≡ length (a.front ++ (here.entry ∷ [])) = passed (walk-on l) in
        omega (
          arith,
          differ-low k (wait_of t i) left,
          passed a,
          ap length here.whole,
          length-append a.front (here.entry ∷ here.behind),
          length-append a.front (here.entry ∷ []),
        )
      where
        passed : {p left i : ℕ} (a : Walked k t n p left i) → position p (chain_of k (read t)) ≡ length a.front
        passed a = rw a.before (last_of k (read t) a.holds.chained a.front a.back a.whole).at
