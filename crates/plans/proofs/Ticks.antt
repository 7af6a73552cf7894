-- The jobs of a plan tick by tick: no two of one bench overlap exactly if at no tick two of them have it. Assumes nothing.
use mathlib.Core.Path.{◌≡◌, refl, sym, ◌∙◌}
use Prim.Native.Nat.{ℕ, ◌≤◌, ◌<◌}
use native.Mathlib.Omega.{arith}
use mathlib.Core.Bool.{Bool, true}
use mathlib.Core.List.{List, [], ◌∷◌}
use lib.Dec.{leb, ltb, eqb}
use borrow.Author.Tests.{ltb-true, leb-true, leb-false, eqb-true, eq-eqb, le-leb, lt-ltb, not-true}
use Rattle.calendar.specs.Calendar.{all_of}
use Rattle.model.specs.Lists.{every, count, All}
use Rattle.laws.proofs.ListLaws.{cases, clash, both, and_both, all-at, all_true}
use Rattle.plans.specs.declared.Booking.{Booking}
use Rattle.plans.specs.Plans.{overlap, clear_of, apart}
use Rattle.plans.proofs.Pairs.{overlap-facts, facts-overlap}

-- the job has bench b at tick n
abbrev pub has : ℕ → ℕ → Booking → Bool
has b n p = all_of (eqb p.bench b ∷ leb p.from n ∷ ltb n p.to ∷ [])

-- as facts
record Has (b n : ℕ) (p : Booking) : Type 0 where
  bench : p.bench ≡ b
  from : p.from ≤ n
  to : n < p.to

has-facts : {b n : ℕ} (p : Booking) → has b n p ≡ true → Has b n p
has-facts {b} {n} p e =
    let t = all-at (eqb p.bench b ∷ leb p.from n ∷ ltb n p.to ∷ []) e in
    record { bench = eqb-true p.bench b (t 0); from = leb-true p.from n (t 1); to = ltb-true n p.to (t 2) }

facts-has : {b n : ℕ} (p : Booking) → Has b n p → has b n p ≡ true
facts-has {b} {n} p h =
    all_true (eqb p.bench b ∷ leb p.from n ∷ ltb n p.to ∷ [])
    (eq-eqb p.bench b h.bench, (le-leb p.from n h.from, (lt-ltb n p.to h.to, tt)))

-- two jobs that have one bench at one tick overlap
meet : {b n : ℕ} (p q : Booking) → Has b n p → Has b n q → overlap p q ≡ true
meet p q h k = facts-overlap p q (record { bench = h.bench ∙ sym k.bench; before = omega arith; after = omega arith })

none-else : (b n : ℕ) (p : Booking) (ps : List Booking) → has b n p ≡ true → every (clear_of p) ps ≡ true → count (has b n) ps ≡ 0
none-else b n p [] e h = refl
none-else b n p (q ∷ ps) e h =
    let clear = both (clear_of p q) (every (clear_of p) ps) h in
    cases (has b n q)
    (λ f. clash (sym (meet p q (has-facts p e) (has-facts q f)) ∙ not-true (overlap p q) clear.0))
    (λ f. rw f (none-else b n p ps e clear.1))

-- at most one job has a bench at a tick
pub one-at-a-time : (b n : ℕ) (ps : List Booking) → apart ps ≡ true → count (has b n) ps ≤ 1
one-at-a-time b n [] h = omega arith
one-at-a-time b n (p ∷ ps) h =
    let a = both (every (clear_of p) ps) (apart ps) h in
    cases (has b n p) (λ e. rw e (omega (arith, none-else b n p ps e a.0))) (λ e. rw e (one-at-a-time b n ps a.1))

-- two that overlap have their bench at the tick where the later of them starts
record Shared (p q : Booking) : Type 0 where
  tick : ℕ
  first : Has p.bench tick p
  second : Has p.bench tick q

shared : (p q : Booking) → p.from < p.to → q.from < q.to → overlap p q ≡ true → Shared p q
shared p q h k e =
    let o = overlap-facts p q e in
    cases (leb p.from q.from)
    (λ f.
    let order = leb-true p.from q.from f in
    record {
      tick = q.from;
      first = record { bench = refl; from = order; to = o.after };
      second = record { bench = sym o.bench; from = omega arith; to = k };
    })
    (λ f.
    let order = leb-false p.from q.from f in
    record {
      tick = p.from;
      first = record { bench = refl; from = omega arith; to = h };
      second = record { bench = sym o.bench; from = omega arith; to = o.before };
    })

alone-clear : (p : Booking) (ps : List Booking) → p.from < p.to → All (λ q. q.from < q.to) ps
    → ((b n : ℕ) → has b n p ≡ true → count (has b n) ps ≡ 0) → every (clear_of p) ps ≡ true
alone-clear p [] h k alone = refl
alone-clear p (q ∷ ps) h k alone =
    cases (overlap p q)
    (λ e.
    let s = shared p q h k.0 e in
    let none = alone p.bench s.tick (facts-has p s.first) in
    absurd (omega (arith, rw (facts-has q s.second) at none)))
    (λ e. rw e (alone-clear p ps h k.1 later))
  where
    later : (b n : ℕ) → has b n p ≡ true → count (has b n) ps ≡ 0
    later b n e = cases (has b n q) (λ f. absurd (omega (arith, rw f at (alone b n e)))) (λ f. rw f at (alone b n e))

-- and where that holds at every tick, no two of one bench overlap
pub one-each-tick : (ps : List Booking) → All (λ p. p.from < p.to) ps → ((b n : ℕ) → count (has b n) ps ≤ 1) → apart ps ≡ true
one-each-tick [] h most = refl
one-each-tick (p ∷ ps) h most =
    and_both (every (clear_of p) ps) (apart ps)
    (alone-clear p ps h.0 h.1 (λ b n e. omega (arith, rw e at (most b n))))
    (one-each-tick ps h.1 (λ b n. cases (has b n p) (λ e. omega (arith, rw e at (most b n))) (λ e. rw e at (most b n))))
