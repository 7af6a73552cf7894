-- `plain_check::is_sound` meets its contract. Each way through the loop takes one slot, and a step if it waits, off what is left to check; each early
-- return is a part of it that fails. Assumes nothing.
use Prim.Native.Nat.{ℕ, ◌+◌, ◌*◌}
use mathlib.Core.Path.{◌≡◌, sym, ap, ◌∙◌}
use mathlib.Core.Bool.{true, false}
use native.Mathlib.Omega.{arith}
use borrow.Author.Tests.{ne_eqb}
use Rattle.model.specs.declared.Chain.TheVariants.{ByDate}
use Rattle.model.specs.Kinds.{waits_in}
use Rattle.model.specs.Words.{server_initiated}
use Rattle.word_checks.proofs.HeaderTests.{header-ranges}
use Rattle.walks.proofs.StepTests.{in-ticks, in-dates}
use Rattle.walks.proofs.OnePass.{heads-false, begin, open-walk, last-date, slot-fails, pass-other, tick-fails, pass-tick, date-fails, pass-date}
use Rattle.plain_check.proofs.PlainKinds.{plain-kind, plain-dated, plain-queued}
use Rattle.plain_check.proofs.is_sound.Goals as goal

-- a slot of kind 5 waits for a date
dated : (k n : ℕ) → k ≡ n → k ≡ 5 → waits_in ByDate n ≡ true
dated k n e h = ap (waits_in ByDate) (sym e ∙ h)

-- ---- before the loop

pub heads_tested-requires : goal.heads_tested-requires
heads_tested-requires c = omega (arith, header-ranges _ c.requires.0)

pub returns-then-not-heads_tested : goal.returns-then-not-heads_tested
returns-then-not-heads_tested c = heads-false _ c.requires.0 (sym c.if-not-heads_tested.ensures)

pub bounds-t-0 : goal.bounds-t-0
bounds-t-0 c = omega (arith, header-ranges _ c.requires.0)

pub bounds-t-5 : goal.bounds-t-5
bounds-t-5 c = omega (arith, header-ranges _ c.requires.0)

pub bounds-t-6 : goal.bounds-t-6
bounds-t-6 c = omega (arith, header-ranges _ c.requires.0)

pub bounds-t-3 : goal.bounds-t-3
bounds-t-3 c = omega (arith, header-ranges _ c.requires.0)

pub overflow_add-date : goal.overflow_add-date
overflow_add-date c = omega (arith, header-ranges _ c.requires.0)

pub loop-i-init : goal.loop-i-init
loop-i-init c =
    let t = c.args.t.now in
    begin false t c.requires.0 (ne_eqb (server_initiated t) 1 (λ e. omega (arith, c.requires.1, e))) (sym c.if-not-heads_tested.ensures)

-- ---- a slot

pub returns-then-not-slot_tested : goal.returns-then-not-slot_tested
returns-then-not-slot_tested c = slot-fails c.loop-i.invariant (omega arith) (sym c.if-not-slot_tested.ensures)

pub plain_waits_for_ticks-requires : goal.plain_waits_for_ticks-requires
plain_waits_for_ticks-requires c = rw c.get-kind.ensures (plain-kind _ _ (sym c.if-not-slot_tested.ensures))

-- ---- a step along the interval chain

pub returns-then-not-tick_tested : goal.returns-then-not-tick_tested
returns-then-not-tick_tested c =
    tick-fails c.loop-i.invariant (omega arith) (sym c.if-not-slot_tested.ensures) (cc) (sym c.if-not-tick_tested.ensures)

pub get-requires : goal.get-requires
get-requires c = omega (arith, in-ticks _ _ _ (sym c.if-not-tick_tested.ensures))

pub get-tick_at-requires : goal.get-tick_at-requires
get-tick_at-requires c = omega (arith, in-ticks _ _ _ (sym c.if-not-tick_tested.ensures))

pub loop-i-preserved-then-plain_waits_for_ticks : goal.loop-i-preserved-then-plain_waits_for_ticks
loop-i-preserved-then-plain_waits_for_ticks c =
    rw (c.get-tick_at.ensures, c.wide-ticks.ensures, c.get.ensures)
    (pass-tick c.loop-i.invariant (omega arith) (sym c.if-not-slot_tested.ensures) (cc) (sym c.if-not-tick_tested.ensures)
    (omega (arith, c.type_inv.t (2 + 8 * c.loop-i.tick_at + 2))))

-- ---- a step along the dated chain

pub returns-then-not-date_tested : goal.returns-then-not-date_tested
returns-then-not-date_tested c =
    date-fails c.loop-i.invariant (omega arith) (sym c.if-not-slot_tested.ensures)
    (dated _ _ c.get-kind.ensures (omega arith))
    (sym c.if-not-date_tested.ensures)

pub get-date-requires : goal.get-date-requires
get-date-requires c = omega (arith, in-dates _ _ _ (sym c.if-not-date_tested.ensures))

pub get-date_at-requires : goal.get-date_at-requires
get-date_at-requires c = omega (arith, in-dates _ _ _ (sym c.if-not-date_tested.ensures))

pub loop-i-preserved-then-kind-eq-WAITING_DATE : goal.loop-i-preserved-then-kind-eq-WAITING_DATE
loop-i-preserved-then-kind-eq-WAITING_DATE c =
    rw (c.get-date_at.ensures, c.get-date.ensures)
    (pass-date c.loop-i.invariant (omega arith) (sym c.if-not-slot_tested.ensures)
    (dated _ _ c.get-kind.ensures (omega arith))
    (sym c.if-not-date_tested.ensures))

-- ---- no step

pub loop-i-preserved : goal.loop-i-preserved
loop-i-preserved c =
    let passed = sym c.if-not-slot_tested.ensures in
    let plain = plain-kind _ _ passed in
    pass-other c.loop-i.invariant (omega arith) passed (cc)
    (plain-dated _ plain ∙ ne_eqb _ 5 (λ e. omega arith))
    (plain-queued _ plain)

-- ---- after the loop

pub returns-then-tick_at-t-ne0 : goal.returns-then-tick_at-t-ne0
returns-then-tick_at-t-ne0 c = open-walk c.loop-i.invariant (omega arith) c.if-tick_at-t-ne0.true

pub returns : goal.returns
returns c = c.dates_ended.ensures ∙ last-date c.loop-i.invariant (omega arith) c.if-tick_at-t-ne0.false
