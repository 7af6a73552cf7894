-- Both rounds of a firing on a table: after the first the entries name the slots of those that came off, so that the second leaves the state that
-- the model's firing leaves. Assumes nothing.
use mathlib.Core.Path.{◌≡◌, refl, sym, ap, ap₂, ◌∙◌, subst}
use mathlib.Core.Logic.{◌≢◌}
use Prim.Native.Nat.{ℕ, zero, suc, ◌+◌, ◌-◌, ◌*◌, ◌≤◌, ◌<◌}
use native.Mathlib.Omega.{arith}
use mathlib.Core.Bool.{false, not}
use mathlib.Core.List.{List, [], ◌∷◌}
use lib.ListN.{length}
use lib.Seq.{length-sets}
use lib.Dec.{leb, eqb}
use borrow.Author.Tests.{eqb-true, eqb-false}
use Rattle.model.specs.declared.Chain.{Chain}
use Rattle.model.specs.Lists.{All}
use Rattle.model.specs.Kinds.{kind_at, for_server}
use Rattle.model.specs.State.{Link, State, chain_of, slot_at, id_base}
use Rattle.model.specs.Directives.{due, fire}
use Rattle.model.specs.Words.{word, read, written_over, slot_count, wait_of, head_word}
use Rattle.laws.proofs.ListLaws.{cases, all_keep, all-mapped, length-keep}
use Rattle.laws.proofs.Chains.{InSlots, in-slots}
use Rattle.laws.proofs.ReadBack.{slots_length, over-over}
use Rattle.laws.proofs.Steps.{length-fire, chained-fire}
use Rattle.links.proofs.NextState.{Next, next_start, next-read, next-holds, next-then}
use Rattle.firing.specs.Lists.{Tally, off_all, due_listed, TakesOff, Fires}
use Rattle.going_on.specs.GoingBack.{went_back, back_all, slots_in, Entries}
use Rattle.links.specs.Places.{last_slot, IsSlot}
use Rattle.firing.proofs.TwoRounds.{slots_of, length-off_all, chained-between, two-rounds, one-round}
use Rattle.firing.proofs.TakingOff.{Space, taking-start, taking-none, taking-front, taking-later}
use Rattle.firing.proofs.Entries.{slots-written}

-- what holds of all slots that entries name
named-at : (P : ℕ → Type 0) (list : List ℕ) (from m : ℕ) → All P (slots_in list from m) → (j : ℕ) → from ≤ j → j < from + m → P (word list (3 * j) - id_base)
named-at P list from zero h j p q = absurd (omega arith)
named-at P list from (suc m) h j p q =
    cases (eqb from j)
    (λ e. subst (λ (i : ℕ). P (word list (3 * i) - id_base)) (eqb-true from j e) h.0)
    (λ e. let other = eqb-false from j e in named-at P list (suc from) m h.1 j (omega arith) (omega arith))

-- a firing, as one of the steps that follow one another
pub next-fires : {t : List ℕ} {s : State} {u : List ℕ} → Next t s u → {k : Chain} {limit : ℕ} {l l' : List ℕ} {n m end : ℕ} {v : List ℕ}
    → Fires k u l limit n m end v l' → Next t (fire k limit s) v
next-fires {s = s} x {k} {limit} f =
    next-then x (fire k limit) (chained-fire k limit s x.holds.chained) (length-fire k limit s) f.table

-- going back leaves the queue
back-queue : (is : List ℕ) (s : State) → (back_all is s).queue ≡ s.queue
back-queue [] s = refl
back-queue (i ∷ is) s =
    back-queue is (went_back s i) ∙ cases (eqb (slot_at s.slots i).kind 7) (λ e. rw e) (λ e. rw e)

pub fires-list-length : {k : Chain} {t l : List ℕ} {limit from n end : ℕ} {t' l' : List ℕ} → Fires k t l limit from n end t' l' → length l' ≡ length l
fires-list-length f = ap length f.entries ∙ simp length-sets

module _ {k : Chain} {t l : List ℕ} {limit from end : ℕ} (r : Space k t l limit from end) where
  abbrev ws : List Link
  ws = due k limit (read t)

  -- those that are listed
  abbrev ls : List Link
  ls = due_listed k limit (read t)

  fewer : length ls ≤ length ws
  fewer = length-keep (λ w. not (for_server (kind_at (slot_at (read t).slots w.slot).kind).last)) ws

  -- after the first round
  module _ {c : Tally} {t₁ l₁ : List ℕ} (f : TakesOff k t l limit from false c t₁ l₁) where
    abbrev n : ℕ
    n = c.count

    off_next : Next t (off_all (due k limit (read t)) (read t)) t₁
    off_next =
        next-then (next_start r.holds) (λ s. off_all (due k limit s) s)
        (chained-between k r.waits limit (read t) r.holds.chained) (length-off_all ws (read t)) f.table

    slots-are : slots_in l₁ from (n - from) ≡ slots_of ls
    slots-are =
        let number : n - from ≡ length ls = omega (arith, f.count) in
        ap₂ (λ (x : List ℕ) (m : ℕ). slots_in x from m) f.entries number
        ∙ slots-written (read t).slots ls l from (omega (arith, r.fits, fewer))

    in-range : All (λ i. (0 < i) × (i ≤ slot_count t)) (slots_in l₁ from (n - from))
    in-range =
        subst (All (λ i. (0 < i) × (i ≤ slot_count t))) (sym slots-are)
        (all-mapped (λ (w : Link). w.slot) (λ i. (0 < i) × (i ≤ slot_count t)) ls
        (subst (λ (m : ℕ). All (InSlots m) ls) (slots_length t)
        (all_keep (InSlots (length (read t).slots)) (λ w. not (for_server (kind_at (slot_at (read t).slots w.slot).kind).last)) ws
        (all_keep (InSlots (length (read t).slots)) (λ w. leb w.wait limit) (chain_of k (read t)) (in-slots (read t) r.holds.chained k)))))

    pub off-entries : Entries t₁ l₁ from c.count
    off-entries =
        let same : length l₁ ≡ length l = ap length f.entries ∙ simp length-sets in
        let size : slot_count t₁ ≡ slot_count t =
        sym (slots_length t₁) ∙ ap (λ (s : State). length s.slots) (next-read off_next) ∙ length-off_all ws (read t) ∙ slots_length t in
        record {
          order = omega (arith, f.count);
          few = omega (arith, f.count, r.few, fewer);
          fits = omega (arith, f.count, r.fits, same, fewer);
          named = λ j p q.
              let at = named-at (λ i. (0 < i) × (i ≤ slot_count t)) l₁ from (n - from) in-range j p (omega arith) in
              (omega (arith, at.0), omega (arith, at.1, size));
        }

    -- the table after a round that leaves the state s
    leaves : (s : State) → s ≡ fire k limit (read t) → {v : List ℕ} → v ≡ written_over s t₁ → v ≡ written_over (fire k limit (read t)) t
    leaves s is e =
        let between = off_all (due k limit (read t)) (read t) in
        e ∙ ap₂ (λ (z : State) (w : List ℕ). written_over z w) is off_next.is
        ∙ over-over between (fire k limit (read t)) t (length-fire k limit (read t) ∙ sym (length-off_all ws (read t)))

    -- the second round was made; it was not, since none is periodic
    pub fires-both : {t₂ : List ℕ} → t₂ ≡ written_over (back_all (slots_in l₁ from (c.count - from)) (read t₁)) t₁
        → Fires k t l limit from c.count c.end t₂ l₁
    fires-both {t₂} e =
        let is = ap₂ (λ (is : List ℕ) (s : State). back_all is s) slots-are (next-read off_next) ∙ two-rounds k r.waits limit (read t) r.holds.chained in
        let table = leaves (back_all (slots_in l₁ from (n - from)) (read t₁)) is e in
        let now : read t₂ ≡ fire k limit (read t) =
        next-read (next-then (next_start r.holds) (fire k limit) (chained-fire k limit (read t) r.holds.chained) (length-fire k limit (read t)) table) in
        record {
          count = f.count;
          last = f.last ∙ ap (last_slot 0) (sym (ap (λ (s : State). s.queue) (now ∙ sym is) ∙ back-queue (slots_in l₁ from (n - from)) (read t₁)));
          table = table;
          entries = f.entries;
        }

    pub fires-off : c.periodic ≡ false → Fires k t l limit from c.count c.end t₁ l₁
    fires-off none = record {
      count = f.count;
      last = f.last;
      table = leaves (read t₁) (next-read off_next ∙ one-round k r.waits limit (read t) r.holds.chained (sym f.periodic ∙ none))
          (sym (next-holds off_next).is);
      entries = f.entries;
    }

-- none fires where the chain is empty, or its first timer is not due
module _ {k : Chain} {t l : List ℕ} {limit from end : ℕ} (r : Space k t l limit from end) {i : ℕ} (first : i ≡ word t (head_word k)) where
  pub fires-none : i ≡ 0 → Fires k t l limit from from end t l
  fires-none e = fires-off r (taking-none (taking-start r first) e) refl

  pub first-slot : i ≢ 0 → IsSlot t i
  first-slot some =
      let at = taking-front (taking-start r first) some in record { low = at.low; high = omega (arith, at.high, slots_length t) }

  pub fires-later : i ≢ 0 → {w : ℕ} → w ≡ wait_of t i → limit < w → Fires k t l limit from from end t l
  fires-later some is p = fires-off r (taking-later (taking-start r first) some is p) refl
