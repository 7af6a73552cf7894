-- `calendar::month_day` meets its contract: the day lies as many days after the start of the month as are left. The falling number is how many
-- months are left up to the one after the first that is tried, so that it begins at 1. Assumes nothing.
use mathlib.Core.Path.{◌≡◌, sym, ap, ◌∙◌}
use Prim.Native.Nat.{ℕ, ◌+◌, ◌/◌, ◌≤◌, ◌<◌}
use native.Mathlib.Omega.{arith}
use Rattle.calendar.specs.Calendar.{months_of, before}
use Rattle.calendar.proofs.Spans.{before-next, before-is}
use Rattle.calendar.proofs.Years.{twelve}
use Rattle.calendar.proofs.Months.{not-before, not_after}
use Rattle.calendar.proofs.Turns.{Turns}
use Rattle.calendar.proofs.month_day.Code as code
use Rattle.calendar.proofs.month_day.Goals as goal
use Rattle.calendar.proofs.month_day.Goals.{Else-left-length}

pub month_start-start-requires : goal.month_start-start-requires
month_start-start-requires c = omega (arith, (not-before _ _ c.requires).0)

pub overflow_sub-left : goal.overflow_sub-left
overflow_sub-left c = omega (arith, c.month_start-start.ensures, (not-before _ _ c.requires).1)

pub loop-left-init : goal.loop-left-init
loop-left-init c =
    let first = not-before _ _ c.requires in
    (first.0, omega arith, omega (arith, c.month_start-start.ensures, first.1), omega arith)

-- a month that the day has passed is not the last, nor the second that is tried
module _ (c : Else-left-length) where
  abbrev year : ℕ
  year = c.args.year

  abbrev day : ℕ
  day = c.args.day

  abbrev month : ℕ
  month = c.loop-left.month

  next : before (months_of year) (month + 1) ≡ before (months_of year) month + c.month_length-length.result
  next = before-next (months_of year) month ∙ ap (λ (n : ℕ). before (months_of year) month + n) (sym c.month_length-length.ensures)

  not_last : month + 1 < 12
  not_last =
      let more = before-is (months_of year) (month + 1) day (omega (arith, next)) (omega (arith, next)) in
      omega (arith, twelve year)

  first-tried : month ≤ day / 32
  first-tried =
      let apart : month ≡ day / 32 + 1 → ⊥ = λ e.
      omega (arith, next, ap (λ (m : ℕ). before (months_of year) (m + 1)) e, not_after year day (omega (arith, not_last))) in
      omega arith

pub loop-left-smaller : goal.loop-left-smaller
loop-left-smaller c = omega (arith, first-tried (goal.at.loop-left-smaller c).Else-left-length)

pub loop-left-preserved : goal.loop-left-preserved
loop-left-preserved c = (not_last (goal.at.loop-left-preserved c).Else-left-length, omega (arith, first-tried (goal.at.loop-left-preserved c).Else-left-length), omega (arith, next (goal.at.loop-left-preserved c).Else-left-length), omega arith)

turns : Turns 1 "calendar::month_day" code.function
turns = omega arith
