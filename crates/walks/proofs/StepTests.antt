-- A step's tests, of the link and of the wait: what they say where they pass. Assumes nothing.
use Prim.Native.Nat.{ℕ, ◌+◌, ◌≤◌}
use mathlib.Core.Path.{◌≡◌}
use mathlib.Core.Bool.{Bool, true}
use mathlib.Core.List.{List}
use lib.Dec.{leb, eqb}
use borrow.Author.Tests.{eqb-true, eq-eqb, le-leb, leb-true}
use Rattle.model.specs.declared.Chain.TheVariants.{ByTicks, ByDate, Queue}
use Rattle.model.specs.Kinds.{waits_in}
use Rattle.model.specs.Words.{kind_of, interval_of, wait_of, previous_of}
use Rattle.laws.proofs.ListLaws.{both, and_both, all-at, all_true}
use Rattle.walks.specs.Walks.{Stand, link_tests, link_tested, wait_tested, step_tested}

pub record InLink (t : List ℕ) (n i p : ℕ) : Type 0 where
  pub low : 1 ≤ i
  pub high : i ≤ n
  pub previous : previous_of t i ≡ p

module _ (t : List ℕ) (n i p : ℕ) where
  pub in-link : link_tested t n i p ≡ true → InLink t n i p
  unfolding link_tested
  in-link e =
      let at = all-at (link_tests t n i p) e in
      record { low = leb-true 1 i (at 0); high = leb-true i n (at 1); previous = eqb-true (previous_of t i) p (at 2) }

  pub link-in : InLink t n i p → link_tested t n i p ≡ true
  unfolding link_tested
  link-in h = all_true (link_tests t n i p) (le-leb 1 i h.low, (le-leb i n h.high, (eq-eqb (previous_of t i) p h.previous, tt)))

module _ (t : List ℕ) (n : ℕ) (x : Stand) where
  abbrev link : Bool
  link = link_tested t n x.slot x.before

  -- ---- along the interval chain

  abbrev left : ℕ
  left = x.reached + wait_of t x.slot

  pub record InTicks : Type 0 where
    pub link : InLink t n x.slot x.before
    pub low : 1 ≤ left
    pub high : left ≤ interval_of t x.slot

  pub in-ticks : step_tested ByTicks t n x ≡ true → InTicks
  unfolding step_tested
  in-ticks e =
      let a = both link (wait_tested ByTicks t x.slot x.reached) e in
      let b = both (leb 1 left) (leb left (interval_of t x.slot)) a.1 in
      record {
        link = in-link t n x.slot x.before a.0;
        low = leb-true 1 left b.0;
        high = leb-true left (interval_of t x.slot) b.1;
      }

  -- ---- along the dated chain

  pub record InDates : Type 0 where
    pub link : InLink t n x.slot x.before
    pub low : x.reached ≤ wait_of t x.slot

  pub in-dates : step_tested ByDate t n x ≡ true → InDates
  unfolding step_tested
  in-dates e =
      let a = both link (wait_tested ByDate t x.slot x.reached) e in
      record { link = in-link t n x.slot x.before a.0; low = leb-true x.reached (wait_of t x.slot) a.1 }

  pub dates-in : InDates → step_tested ByDate t n x ≡ true
  unfolding step_tested
  dates-in h =
      and_both link (wait_tested ByDate t x.slot x.reached) (link-in t n x.slot x.before h.link)
      (le-leb x.reached (wait_of t x.slot) h.low)

  -- ---- along the queue

  pub record InQueue : Type 0 where
    pub link : InLink t n x.slot x.before
    pub kind : waits_in Queue (kind_of t x.slot) ≡ true
    pub none : wait_of t x.slot ≡ 0

  abbrev queued : Bool
  queued = waits_in Queue (kind_of t x.slot)

  pub in-queue : step_tested Queue t n x ≡ true → InQueue
  unfolding step_tested
  in-queue e =
      let a = both link (wait_tested Queue t x.slot x.reached) e in
      let b = both queued (eqb (wait_of t x.slot) 0) a.1 in
      record { link = in-link t n x.slot x.before a.0; kind = b.0; none = eqb-true (wait_of t x.slot) 0 b.1 }
