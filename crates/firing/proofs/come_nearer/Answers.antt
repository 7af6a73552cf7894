-- `firing::come_nearer` meets its contract: there is no interval timer, or the first one's wait falls. Assumes nothing.
use Rattle.std.proofs.Common.{ℕ, ◌≡◌, ◌+◌, ◌-◌, ◌*◌, ◌≢◌, List, set, refl, ap, ◌∙◌, arith}
use Rattle.model.specs.declared.Chain.TheVariants.{ByTicks}
use Rattle.model.specs.Words.{read, first_ticking, wait_of}
use Rattle.laws.proofs.WellFormed.{Holds}
use Rattle.firing.proofs.Heads.{Front, front}
use Rattle.firing.proofs.Nearer.{first-waits, nearer-some, nearer_keeps}
use Rattle.firing.proofs.come_nearer.Goals as goal

-- there is a first interval timer
first : {t : List ℕ} → Holds t (read t) → first_ticking t ≢ 0 → Front ByTicks t (first_ticking t)
first o some = front ByTicks o refl some

-- the words when its wait fell
falls : (t : List ℕ) {u : List ℕ} (n : ℕ) {w : ℕ} → w ≡ wait_of t (first_ticking t) → u ≡ set t (2 + 8 * first_ticking t + 3) (w - n)
    → u ≡ set t (2 + 8 * first_ticking t + 3) (wait_of t (first_ticking t) - n)
falls t n is e = e ∙ ap (λ (w : ℕ). set t (2 + 8 * first_ticking t + 3) (w - n)) is

pub get-w-requires : goal.get-w-requires
get-w-requires c =
    let t = c.args.table.now in
    (omega arith, omega (arith, t.in_order.long, (first t.in_order c.if-i-ne0.true).high))

pub overflow_sub-w : goal.overflow_sub-w
overflow_sub-w c =
    let t = c.args.table.now in
    omega (arith, c.get-w.ensures, first-waits t.words.now c.args.ticks t.in_order c.requires (first t.in_order c.if-i-ne0.true))

pub put-requires : goal.put-requires
put-requires c =
    let t = c.args.table.now in
    (omega arith, omega (arith, t.in_order.long, (first t.in_order c.if-i-ne0.true).high))

pub returns-then-i-ne0 : goal.returns-then-i-ne0
returns-then-i-ne0 c =
    let t = c.args.table.now in
    record {
      same_words = refl;
      is = nearer-some t.words.now c.args.ticks t.in_order c.requires (first t.in_order c.if-i-ne0.true) (falls t.words.now c.args.ticks c.get-w.ensures c.put.ensures);
    }

pub invariant_of-table : goal.invariant_of-table
invariant_of-table c =
    let t = c.args.table.now in
    record {
      in_order = nearer_keeps t.words.now c.args.ticks t.in_order c.requires
          (nearer-some t.words.now c.args.ticks t.in_order c.requires (first t.in_order c.if-i-ne0.true) (falls t.words.now c.args.ticks c.get-w.ensures c.put.ensures));
    }
