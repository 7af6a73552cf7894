-- The second round of a firing: one slot goes back, and the loop over the entries. The mark is the slot that went back last, whose ticks left are
-- its interval. Assumes nothing.
use mathlib.Core.Path.{◌≡◌, refl, sym, ap, ap₂, ◌∙◌, subst}
use mathlib.Core.Logic.{◌≢◌, ◌⊎◌, inl, inr}
use Prim.Native.Nat.{ℕ, suc, ◌+◌, ◌-◌, ◌*◌, ◌≤◌, ◌<◌}
use native.Mathlib.Omega.{arith}
use mathlib.Core.Bool.{Bool, false, cond}
use mathlib.Core.List.{List, [], ◌∷◌}
use lib.ListN.{length}
use lib.Dec.{leb, eqb}
use borrow.Author.Tests.{eqb-true, eq-eqb, ne_eqb}
use Rattle.model.specs.declared.Chain.{Chain}
use Rattle.model.specs.declared.Chain.TheVariants.{ByTicks, ByDate, Queue}
use Rattle.model.specs.Kinds.{waits_in}
use Rattle.model.specs.Lists.{place}
use Rattle.model.specs.State.{Slot, Link, State, slot_at, wait_at, id_base}
use Rattle.model.specs.Words.{word, read, written_over, slot_count, kind_of, interval_of}
use Rattle.laws.proofs.ListLaws.{cases, count-place}
use Rattle.laws.proofs.WellFormed.{times_in, Chained, Holds}
use Rattle.laws.proofs.StateWords.{absent, length_over}
use Rattle.laws.proofs.ReadBack.{slots_length, slot_read}
use Rattle.links.specs.Places.{InTable}
use Rattle.links.proofs.Extracting.{in-none}
use Rattle.links.proofs.NextState.{Next, next_start, next-read, next-holds, next-then}
use Rattle.links.proofs.Restart.{in_table}
use Rattle.links.proofs.WalkToPlace.{zero-wait}
use Rattle.going_on.proofs.WaitingAgain.{again-chained, again-length}
use Rattle.going_on.specs.GoingBack.{waits_again, Again, went_back, back_all, slots_in, Entries, Marked, Sought, GoesBack, WentBack}

-- ---- one slot

-- the wait of a link that was put into its place
wait-placed : (i n : ℕ) (c : List Link) → times_in c i ≡ 0 → wait_at i (place (λ w. w.wait) (record { slot = i; wait = n }) c) ≡ n
wait-placed i n [] e = rw (eq-eqb i i refl)
wait-placed i n (y ∷ ys) e =
    let a = absent y ys i e in
    cases (leb y.wait n) (λ f. rw (f, a.0) (wait-placed i n ys a.1)) (λ f. rw (f, eq-eqb i i refl))

-- the chain's start is a mark
marks-start : (t : List ℕ) → Holds t (read t) → {slot ticks : ℕ} → slot ≡ 0 → ticks ≡ 0 → Marked t slot ticks
marks-start t h start none = record {
  there = λ p. absurd (omega (arith, p, start));
  left = none ∙ sym (ap (λ (j : ℕ). wait_at j (read t).ticking) start ∙ zero-wait ByTicks t h);
}

module _ {t : List ℕ} {i : ℕ} (at : InTable t i) where
  kind-is : (slot_at (read t).slots i).kind ≡ kind_of t i
  kind-is = ap (λ (x : Slot). x.kind) (slot_read t i at.low at.high)

  -- it is not an idle periodic timer's
  pub stays-where : kind_of t i ≢ 7 → t ≡ written_over (went_back (read t) i) t
  stays-where n =
      sym at.holds.is ∙ ap (λ (b : Bool). written_over (cond b (waits_again (read t) i) (read t)) t)
      (sym (ne_eqb (slot_at (read t).slots i).kind 7 (λ e. n (sym kind-is ∙ e))))

  -- it is
  module _ (seven : kind_of t i ≡ 7) where
    went-is : went_back (read t) i ≡ waits_again (read t) i
    went-is = ap (λ (b : Bool). cond b (waits_again (read t) i) (read t)) (eq-eqb (slot_at (read t).slots i).kind 7 (kind-is ∙ seven))

    idle-here : (k : Chain) → waits_in k (kind_of t i) ≡ false
    idle-here k = ap (waits_in k) seven ∙ nowhere k
      where
        nowhere : (k : Chain) → waits_in k 7 ≡ false
        nowhere ByTicks = refl
        nowhere ByDate = refl
        nowhere Queue = refl

    pub waits-words : {v : List ℕ} → v ≡ written_over (waits_again (read t) i) t → v ≡ written_over (went_back (read t) i) t
    waits-words e = e ∙ ap (λ (s : State). written_over s t) (sym went-is)

    -- the slot is the mark then
    pub marks-own : {v : List ℕ} {slot interval : ℕ} → slot ≡ i → interval ≡ interval_of t i → v ≡ written_over (waits_again (read t) i) t → Marked v slot interval
    marks-own {v} {slot} {interval} own is e =
        let s = read t in
        let n = (slot_at s.slots i).interval in
        let new : Link = record { slot = i; wait = n } in
        let none = in-none t i at idle-here ByTicks in
        let now : (read v).ticking ≡ place (λ w. w.wait) new s.ticking =
        ap (λ (z : State). z.ticking) (next-read (next-then (next_start at.holds) (λ z. waits_again z i) (again-chained t i at idle-here) (again-length t i at idle-here) e)) in
        rw own (record {
          there = λ _. rw now (omega (arith, count-place (λ w. eqb w.slot i) (λ w. w.wait) new s.ticking, ap {B = ℕ} (λ (b : Bool). cond b 1 0) (eq-eqb i i refl)));
          left = is ∙ sym (ap (λ (x : Slot). x.interval) (slot_read t i at.low at.high))
              ∙ sym (ap (wait_at i) now ∙ wait-placed i n s.ticking none);
        })

    pub again-from : {slot ticks interval slot' ticks' : ℕ} → Marked t slot ticks → interval ≡ interval_of t i → Sought slot ticks interval slot' ticks'
        → Again t i slot' (interval - ticks')
    again-from {slot} {ticks} {interval} {slot'} {ticks'} m is f =
        let marked = sought f.from in
        record {
          idle = record { slot = record { low = at.low; high = at.high }; idle = idle-here };
          from = record { holds = at.holds; there = marked.there; due = omega arith };
          sum = omega (arith, marked.left, f.due, is);
        }
      where
        sought : ((slot' ≡ slot) × (ticks' ≡ ticks)) ⊎ ((slot' ≡ 0) × (ticks' ≡ 0)) → Marked t slot' ticks'
        sought (inl e) = record { there = rw e.0 m.there; left = e.1 ∙ m.left ∙ ap (λ (j : ℕ). wait_at j (read t).ticking) (sym e.0) }
        sought (inr e) = marks-start t at.holds e.0 e.1

-- ---- as one of the steps that follow one another

module _ {t : List ℕ} {i : ℕ} (at : InTable t i) where
  went : Chained (went_back (read t) i) × (length (went_back (read t) i).slots ≡ length (read t).slots)
  went =
      cases (eqb (slot_at (read t).slots i).kind 7)
      (λ f.
      let idle = idle-here at (sym (kind-is at) ∙ eqb-true (slot_at (read t).slots i).kind 7 f) in
      rw f (again-chained t i at idle, again-length t i at idle))
      (λ f. rw f (at.holds.chained, refl))

  went-next : {t₀ t' : List ℕ} → Next t₀ (read t) t → t' ≡ written_over (went_back (read t) i) t → Next t₀ (went_back (read t) i) t'
  went-next x e = next-then x (λ s. went_back s i) went.0 went.1 e

-- the chains stay in order
pub went_keeps : {t u : List ℕ} {i : ℕ} → InTable t i → u ≡ written_over (went_back (read t) i) t → Holds u (read u)
went_keeps at e = next-holds (went-next at (next_start at.holds) e)

-- ---- the loop

-- what is left to do from the words t, from entry j on, is what is left from the start; the mark is in the chain of t
pub record Backing (t₀ list : List ℕ) (from n : ℕ) (t : List ℕ) (slot ticks j : ℕ) : Type 0 where
  pub next : Next t₀ (read t) t
  pub size : slot_count t ≡ slot_count t₀
  pub rest : back_all (slots_in list j (n - j)) (read t) ≡ back_all (slots_in list from (n - from)) (read t₀)
  pub mark : Marked t slot ticks
  pub low : from ≤ j
  pub high : j ≤ n

module _ {t₀ list : List ℕ} {from n : ℕ} (o : Holds t₀ (read t₀)) (h : Entries t₀ list from n) where
  pub backing-start : {slot ticks : ℕ} → slot ≡ 0 → ticks ≡ 0 → Backing t₀ list from n t₀ slot ticks from
  backing-start {slot} {ticks} start none = record {
    next = next_start o;
    size = refl;
    rest = refl;
    mark = marks-start t₀ o start none;
    low = omega arith;
    high = h.order;
  }

  module _ {t : List ℕ} {slot ticks j : ℕ} (b : Backing t₀ list from n t slot ticks j) where
    pub backing-length : length t ≡ length t₀
    backing-length =
        ap length b.next.is
        ∙ length_over (read t) t₀ (omega (arith, o.long, slots_length t, slots_length t₀, b.size))

    pub backing-end : n ≤ j → t ≡ written_over (back_all (slots_in list from (n - from)) (read t₀)) t₀
    backing-end p =
        let none : n - j ≡ 0 = omega arith in
        b.next.is ∙ ap (λ (s : State). written_over s t₀) (ap (λ (m : ℕ). back_all (slots_in list j m) (read t)) (sym none) ∙ b.rest)

    module _ (more : j < n) where
      pub backing-entry : (3 * j < length list) × (j < 256) × (id_base ≤ word list (3 * j))
      backing-entry = (omega (arith, h.fits), omega (arith, h.few), omega (arith, (h.named j b.low more).0))

      module _ {i : ℕ} (is : i ≡ word list (3 * j) - id_base) where
        pub backing-back : GoesBack t i slot ticks
        backing-back =
            let named = h.named j b.low more in
            record {
              here = record { low = omega (arith, named.0, is); high = omega (arith, named.1, is, b.size) };
              mark = b.mark;
            }

        pub backing-again : {slot' ticks' : ℕ} {t' : List ℕ} → WentBack t i slot' ticks' t' → Backing t₀ list from n t' slot' ticks' (j + 1)
        backing-again {t' = t'} w =
            let at = in_table (next-holds b.next) backing-back.here in
            let step = went-next at b.next w.table in
            let now : read t' ≡ went_back (read t) i = next-read step in
            let one : j + 1 ≡ suc j = omega arith in
            let fewer : n - j ≡ suc (n - suc j) = omega arith in
            record {
              next = subst (λ (s : State). Next t₀ s t') (sym now) step;
              size = sym (slots_length t') ∙ ap (λ (s : State). length s.slots) now ∙ (went at).1 ∙ slots_length t ∙ b.size;
              rest = ap₂ (λ (m : ℕ) (s : State). back_all (slots_in list m (n - m)) s) one (now ∙ ap (went_back (read t)) is)
                  ∙ ap (λ (m : ℕ). back_all (slots_in list j m) (read t)) (sym fewer) ∙ b.rest;
              mark = w.mark;
              low = omega (arith, b.low);
              high = omega arith;
            }
