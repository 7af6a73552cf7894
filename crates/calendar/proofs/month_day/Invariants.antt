-- `calendar::month_day` meets its contract: the day lies as many days after the start of the month as are left. The falling number is how many
-- months are left up to the one after the first that is tried, so that it begins at 1. Assumes nothing.
use mathlib.Core.Path.{◌≡◌}
use Prim.Native.Nat.{ℕ, ◌+◌, ◌-◌, ◌/◌, ◌≤◌, ◌<◌}
use Rattle.calendar.specs.Calendar.{months_of, before}
use Rattle.calendar.proofs.month_day.Given as goal

-- how many months are left up to the one after the first that is tried
abbrev pub months_left : ℕ → ℕ → ℕ
months_left day month = day / 32 + 1 - month

-- (it begins at 1 at most)
abbrev pub invariant-loop-left : goal.invariant-loop-left
invariant-loop-left l =
    (l.month < 12) × (l.month ≤ l.day / 32 + 1) × (l.day ≡ before (months_of l.year) l.month + l.left) × (months_left l.day l.initial.month ≤ 1)

abbrev pub decreases-loop-left : goal.decreases-loop-left
decreases-loop-left l = months_left l.day l.month
