-- What the checker's loop comes to: the jobs from one on are accepted, and the earliest start of each bench among them is known, so that a job that
-- ends by then is clear of them. Assumes nothing.
use mathlib.Core.Path.{◌≡◌, refl, sym, ap, ◌∙◌}
use Prim.Native.Nat.{ℕ, zero, suc, ◌+◌, ◌*◌, ◌≤◌, ◌<◌}
use native.Mathlib.Numerals.{add-one}
use native.Mathlib.Omega.{arith}
use mathlib.Core.Bool.{true, false, ◌&&◌}
use mathlib.Core.List.{List, [], ◌∷◌}
use lib.Dec.{eqb}
use lib.ListN.{length, get_or, set}
use lib.Seq.{get_or-set_same, get_or-set_other}
use borrow.Author.Tests.{eqb-true, eqb-false}
use Rattle.model.specs.Lists.{All, every}
use Rattle.laws.proofs.ListLaws.{cases, both, and_both, all_map}
use Rattle.plans.specs.declared.Booking.{Booking}
use Rattle.plans.specs.Plans.{jobs_of, booked, ends_by, clear_of, apart, accepts}
use Rattle.plans.specs.Parts.{booked_at, booked_from}
use Rattle.plans.proofs.Pairs.{facts-clear}
use Rattle.plans.proofs.Bookings.{from_start, from-here}

module _ (end : ℕ) where
  pub none-accepted : accepts end [] ≡ true
  unfolding accepts
  none-accepted = refl

  pub one_more : (p : Booking) (ps : List Booking) → ends_by end p ≡ true → every (clear_of p) ps ≡ true → accepts end ps ≡ true → accepts end (p ∷ ps) ≡ true
  unfolding accepts
  one_more p ps e f a = rw (e, f) a

  pub too-late : (p : Booking) (ps : List Booking) → ends_by end p ≡ false → accepts end (p ∷ ps) ≡ false
  unfolding accepts
  too-late p ps e = rw e

  pub not-clear : (p : Booking) (ps : List Booking) → every (clear_of p) ps ≡ false → accepts end (p ∷ ps) ≡ false
  unfolding accepts
  not-clear p ps e = cases (every (ends_by end) (p ∷ ps)) (λ f. rw (f, e)) (λ f. rw f)

  -- what is known of the first of the jobs that are accepted, and of the others
  pub record First (p : Booking) (ps : List Booking) : Type 0 where
    pub timely : ends_by end p ≡ true
    pub clear : every (clear_of p) ps ≡ true
    pub others : accepts end ps ≡ true

  pub first : (p : Booking) (ps : List Booking) → accepts end (p ∷ ps) ≡ true → First p ps
  unfolding accepts
  first p ps e =
      let a = both (ends_by end p && every (ends_by end) ps) (every (clear_of p) ps && apart ps) e in
      let timely = both (ends_by end p) (every (ends_by end) ps) a.0 in
      let clear = both (every (clear_of p) ps) (apart ps) a.1 in
      record { timely = timely.0; clear = clear.0; others = and_both (every (ends_by end) ps) (apart ps) timely.1 clear.1 }

  module _ (words starts : List ℕ) (pairs : length words ≡ 2 * length starts) where
    here : (i : ℕ) → i < length starts → accepts end (booked_from words starts i) ≡ true → First (booked_at words starts i) (booked_from words starts (i + 1))
    here i h e =
        first (booked_at words starts i) (booked_from words starts (i + 1)) (rw (from-here words starts i (omega arith) h) at e)

    -- where all jobs are accepted, those from job i on are
    all_from : (i : ℕ) → i ≤ length starts → accepts end (booked (jobs_of words) starts) ≡ true → accepts end (booked_from words starts i) ≡ true
    all_from zero h e = rw from_start e
    all_from (suc i) h e = rw (sym (add-one i)) (here i (omega arith) (all_from i (omega arith) e)).others

    pub first-from : (i : ℕ) → i < length starts → accepts end (booked (jobs_of words) starts) ≡ true
        → First (booked_at words starts i) (booked_from words starts (i + 1))
    first-from i h e = here i h (all_from i (omega arith) e)

    pub rejected : (i : ℕ) → i ≤ length starts → accepts end (booked_from words starts i) ≡ false → false ≡ accepts end (booked (jobs_of words) starts)
    rejected i h e = cases (accepts end (booked (jobs_of words) starts)) (λ f. sym e ∙ all_from i h f ∙ sym f) (λ f. sym f)

-- a job that ends by tick n is clear of those of its bench that start at n or later
pub clear-of-later : (p : Booking) (n : ℕ) (ps : List Booking) → p.to ≤ n → All (λ q. p.bench ≡ q.bench → n ≤ q.from) ps → every (clear_of p) ps ≡ true
clear-of-later p n [] h a = refl
clear-of-later p n (q ∷ ps) h a =
    and_both (clear_of p q) (every (clear_of p) ps) (facts-clear p q (λ e before. omega (arith, a.0 e))) (clear-of-later p n ps h a.1)

-- no job of a bench starts before the bench's number
abbrev pub Firsts : List ℕ → List Booking → Type 0
Firsts first ps = All (λ q. get_or first q.bench 0 ≤ q.from) ps

pub firsts-of : (first : List ℕ) (p : Booking) (ps : List Booking) → Firsts first ps → All (λ q. p.bench ≡ q.bench → get_or first p.bench 0 ≤ q.from) ps
firsts-of first p ps h = all_map (λ q g e. omega (arith, g, ap (λ (b : ℕ). get_or first b 0) e)) ps h

-- where a job starts earlier, its start takes the number's place
pub lowered : (first : List ℕ) (p : Booking) (ps : List Booking) → p.bench < length first → p.from ≤ get_or first p.bench 0 → Firsts first ps
    → Firsts (set first p.bench p.from) (p ∷ ps)
lowered first p ps in-range low h =
    (omega (arith, get_or-set_same first p.bench p.from 0 in-range), all_map other ps h)
  where
    other : (q : Booking) → get_or first q.bench 0 ≤ q.from → get_or (set first p.bench p.from) q.bench 0 ≤ q.from
    other q g =
        cases (eqb q.bench p.bench)
        (λ e.
        let same = eqb-true q.bench p.bench e in
        rw same (omega (arith, get_or-set_same first p.bench p.from 0 in-range, ap (λ (b : ℕ). get_or first b 0) same)))
        (λ e. omega (arith, g, get_or-set_other first p.bench q.bench p.from 0 (eqb-false q.bench p.bench e)))
