-- `server_check::last_queued` meets its contract. Each way through the loop takes one slot, and a step if it stands in a chain, off what is left to
-- check; each early return is a part of it that fails. Assumes nothing.
use Prim.Native.Nat.{ℕ, ◌+◌, ◌*◌}
use mathlib.Core.Path.{◌≡◌, sym, ◌∙◌}
use mathlib.Core.Logic.{◌≢◌}
use mathlib.Core.Bool.{true, false}
use mathlib.Core.List.{List}
use native.Mathlib.Omega.{arith}
use borrow.Author.Tests.{eq-eqb}
use Rattle.model.specs.declared.Chain.{Chain}
use Rattle.model.specs.declared.Chain.TheVariants.{ByTicks, ByDate, Queue}
use Rattle.model.specs.Kinds.{waits_in}
use Rattle.model.specs.Words.{head_word, server_initiated, kind_of}
use Rattle.word_checks.specs.Tested.{slot_tested}
use Rattle.word_checks.proofs.BooleanTests.{or-none}
use Rattle.word_checks.proofs.HeaderTests.{header-ranges}
use Rattle.server_word_checks.specs.Places.{place_of}
use Rattle.server_word_checks.proofs.ServerSlots.{place-wrong, place-right, in-chain, in-no-chain}
use Rattle.walks.proofs.StepTests.{in-ticks, in-dates, in-queue}
use Rattle.walks.proofs.OnePass.{heads-false, begin, open-walk, last-date, slot-fails, pass-other, tick-fails, pass-tick, date-fails, pass-date, queue-fails, pass-queue}
use Rattle.server_check.proofs.LastSlot.{begin-queue, other-slot, next-queued, ended-queue, unsound, sound-until}
use Rattle.server_check.proofs.last_queued.Goals as goal

-- ---- what the slot's place p says

module _ (t : List ℕ) (i p : ℕ) (e : p ≡ place_of t i) (n : p ≢ 1) where
  right : slot_tested true t i ≡ true
  right = place-right t i (λ z. n (e ∙ z))

  stands : (k : Chain) → p ≡ head_word k → waits_in k (kind_of t i) ≡ true
  stands k h = in-chain t i (λ z. n (e ∙ z)) k (sym e ∙ h)

  stands-nowhere : p ≢ 5 → p ≢ 6 → p ≢ 9 → (k : Chain) → waits_in k (kind_of t i) ≡ false
  stands-nowhere f g h = in-no-chain t i (λ z. n (e ∙ z)) no-head
    where
      no-head : (k : Chain) → place_of t i ≢ head_word k
      no-head ByTicks z = f (e ∙ z)
      no-head ByDate z = g (e ∙ z)
      no-head Queue z = h (e ∙ z)

-- ---- before the loop

pub heads_tested-requires : goal.heads_tested-requires
heads_tested-requires c = omega (arith, header-ranges _ c.requires.0)

pub returns-then-not-heads_tested : goal.returns-then-not-heads_tested
returns-then-not-heads_tested c = unsound _ (heads-false _ c.requires.0 (sym c.if-not-heads_tested.ensures))

pub overflow_add-date : goal.overflow_add-date
overflow_add-date c = omega (arith, header-ranges _ c.requires.0)

pub bounds-t-9 : goal.bounds-t-9
bounds-t-9 c = omega (arith, header-ranges _ c.requires.0)

pub loop-i-init : goal.loop-i-init
loop-i-init c =
    let t = c.args.t.now in
    record {
      pass = begin true t c.requires.0 (eq-eqb (server_initiated t) 1 c.requires.1) (sym c.if-not-heads_tested.ensures);
      queue = begin-queue t;
    }

-- ---- a slot

pub returns-then-place-eq-WRONG : goal.returns-then-place-eq-WRONG
returns-then-place-eq-WRONG c =
    unsound _ (slot-fails c.loop-i.invariant.pass (omega arith) (place-wrong _ _ (sym c.slot_place-place.ensures ∙ omega arith)))

-- ---- a step along the interval chain

pub returns-then-not-tick_tested : goal.returns-then-not-tick_tested
returns-then-not-tick_tested c =
    let place = c.slot_place-place.ensures in
    unsound _ (tick-fails c.loop-i.invariant.pass (omega arith) (right _ _ _ place (λ e. omega arith))
    (stands _ _ _ place (λ e. omega arith) ByTicks (omega arith))
    (sym c.if-not-tick_tested.ensures))

pub get-requires : goal.get-requires
get-requires c = let s = in-ticks _ _ _ (sym c.if-not-tick_tested.ensures) in omega (arith, s.link.high, c.loop-i.invariant.pass.long)

pub get-tick_at-requires : goal.get-tick_at-requires
get-tick_at-requires c = let s = in-ticks _ _ _ (sym c.if-not-tick_tested.ensures) in omega (arith, s.link.high, c.loop-i.invariant.pass.long)

pub loop-i-preserved-then-place-eq-FIRST_TICKING : goal.loop-i-preserved-then-place-eq-FIRST_TICKING
loop-i-preserved-then-place-eq-FIRST_TICKING c =
    let place = c.slot_place-place.ensures in
    let inv = c.loop-i.invariant in
    rw (c.get-tick_at.ensures, c.wide-ticks.ensures, c.get.ensures)
    (record {
      pass =
          pass-tick inv.pass (omega arith) (right _ _ _ place (λ e. omega arith)) (stands _ _ _ place (λ e. omega arith) ByTicks (omega arith))
          (sym c.if-not-tick_tested.ensures) (omega (arith, c.type_inv.t (2 + 8 * c.loop-i.tick_at + 2)));
      queue = other-slot inv.queue;
    })

-- ---- a step along the dated chain

pub returns-then-not-date_tested : goal.returns-then-not-date_tested
returns-then-not-date_tested c =
    let place = c.slot_place-place.ensures in
    unsound _ (date-fails c.loop-i.invariant.pass (omega arith) (right _ _ _ place (λ e. omega arith))
    (stands _ _ _ place (λ e. omega arith) ByDate (omega arith))
    (sym c.if-not-date_tested.ensures))

pub get-date-requires : goal.get-date-requires
get-date-requires c = let s = in-dates _ _ _ (sym c.if-not-date_tested.ensures) in omega (arith, s.link.high, c.loop-i.invariant.pass.long)

pub get-date_at-requires : goal.get-date_at-requires
get-date_at-requires c = let s = in-dates _ _ _ (sym c.if-not-date_tested.ensures) in omega (arith, s.link.high, c.loop-i.invariant.pass.long)

pub loop-i-preserved-then-place-eq-FIRST_DATED : goal.loop-i-preserved-then-place-eq-FIRST_DATED
loop-i-preserved-then-place-eq-FIRST_DATED c =
    let place = c.slot_place-place.ensures in
    let inv = c.loop-i.invariant in
    rw (c.get-date_at.ensures, c.get-date.ensures)
    (record {
      pass =
          pass-date inv.pass (omega arith) (right _ _ _ place (λ e. omega arith)) (stands _ _ _ place (λ e. omega arith) ByDate (omega arith))
          (sym c.if-not-date_tested.ensures);
      queue = other-slot inv.queue;
    })

-- ---- a step along the queue

pub returns-then-not-queue_tested : goal.returns-then-not-queue_tested
returns-then-not-queue_tested c =
    let place = c.slot_place-place.ensures in
    unsound _ (queue-fails c.loop-i.invariant.pass (omega arith) (right _ _ _ place (λ e. omega arith))
    (stands _ _ _ place (λ e. omega arith) Queue (omega arith))
    (sym c.if-not-queue_tested.ensures))

pub get-queue_at-requires : goal.get-queue_at-requires
get-queue_at-requires c = let s = in-queue _ _ _ (sym c.if-not-queue_tested.ensures) in omega (arith, s.link.high, c.loop-i.invariant.pass.long)

pub loop-i-preserved-then-place-eq-FIRST_QUEUED : goal.loop-i-preserved-then-place-eq-FIRST_QUEUED
loop-i-preserved-then-place-eq-FIRST_QUEUED c =
    let place = c.slot_place-place.ensures in
    let inv = c.loop-i.invariant in
    let passed = sym c.if-not-queue_tested.ensures in
    let s = in-queue _ _ _ passed in
    rw c.get-queue_at.ensures
    (record {
      pass =
          pass-queue inv.pass (omega arith) (right _ _ _ place (λ e. omega arith)) (stands _ _ _ place (λ e. omega arith) Queue (omega arith)) passed;
      queue = next-queued inv.queue (omega arith) s.link.low s.none;
    })

-- ---- no step

pub loop-i-preserved : goal.loop-i-preserved
loop-i-preserved c =
    let place = c.slot_place-place.ensures in
    let inv = c.loop-i.invariant in
    let none =
    stands-nowhere _ _ _ place (λ e. omega arith) (λ e. omega arith) (λ e. omega arith) (λ e. omega arith) in
    record {
      pass = pass-other inv.pass (omega arith) (right _ _ _ place (λ e. omega arith)) (none ByTicks) (none ByDate) (none Queue);
      queue = other-slot inv.queue;
    }

-- ---- after the loop

pub returns-then-tick_at-queue_at-ne0 : goal.returns-then-tick_at-queue_at-ne0
returns-then-tick_at-queue_at-ne0 c = unsound _ (open-walk c.loop-i.invariant.pass (omega arith) c.if-tick_at-queue_at-ne0.true)

pub returns-then-not-dates_ended : goal.returns-then-not-dates_ended
returns-then-not-dates_ended c =
    unsound _ (c.if-not-dates_ended.ensures ∙ last-date c.loop-i.invariant.pass (omega arith) c.if-tick_at-queue_at-ne0.false)

pub returns : goal.returns
returns c =
    let l = c.loop-i in
    let ended = c.if-tick_at-queue_at-ne0.false in
    sound-until _ _
    (sym (c.if-not-dates_ended.ensures ∙ last-date l.invariant.pass (omega arith) ended))
    (ended-queue l.invariant.queue (or-none l.tick_at l.queue_at ended).1)
