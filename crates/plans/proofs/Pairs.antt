-- Two jobs at their starts: that they overlap, or do not, as facts. Assumes nothing.
use mathlib.Core.Path.{◌≡◌, sym, ◌∙◌}
use Prim.Native.Nat.{◌≤◌, ◌<◌}
use native.Mathlib.Omega.{arith}
use mathlib.Core.Bool.{true}
use mathlib.Core.List.{[], ◌∷◌}
use lib.Dec.{leb, ltb, eqb}
use borrow.Author.Tests.{leb-true, leb-false, ltb-true, lt-ltb, eqb-true, eq-eqb, not-true}
use Rattle.laws.proofs.ListLaws.{cases, clash, all_true, all-at}
use Rattle.plans.specs.declared.Booking.{Booking}
use Rattle.plans.specs.Plans.{overlap, clear_of}

pub record Overlap (p q : Booking) : Type 0 where
  pub bench : p.bench ≡ q.bench
  pub before : p.from < q.to
  pub after : q.from < p.to

pub overlap-facts : (p q : Booking) → overlap p q ≡ true → Overlap p q
overlap-facts p q e =
    let t = all-at (eqb p.bench q.bench ∷ ltb p.from q.to ∷ ltb q.from p.to ∷ []) e in
    record {
      bench = eqb-true p.bench q.bench (t 0);
      before = ltb-true p.from q.to (t 1);
      after = ltb-true q.from p.to (t 2);
    }

pub facts-overlap : (p q : Booking) → Overlap p q → overlap p q ≡ true
facts-overlap p q o =
    all_true (eqb p.bench q.bench ∷ ltb p.from q.to ∷ ltb q.from p.to ∷ [])
    (eq-eqb p.bench q.bench o.bench, (lt-ltb p.from q.to o.before, (lt-ltb q.from p.to o.after, tt)))

-- two of one bench do not overlap exactly if the one ends by the start of the other
pub clear-facts : (p q : Booking) → clear_of p q ≡ true → p.bench ≡ q.bench → p.from < q.to → p.to ≤ q.from
clear-facts p q e bench before =
    cases (leb p.to q.from)
    (λ f. leb-true p.to q.from f)
    (λ f.
    let meet = facts-overlap p q (record { bench = bench; before = before; after = leb-false p.to q.from f }) in
    clash (sym meet ∙ not-true (overlap p q) e))

pub facts-clear : (p q : Booking) → (p.bench ≡ q.bench → p.from < q.to → p.to ≤ q.from) → clear_of p q ≡ true
facts-clear p q h =
    cases (overlap p q) (λ e. let o = overlap-facts p q e in absurd (omega (arith, h o.bench o.before))) (λ e. rw e)
