-- `clock::open_list` meets its contract: the rules are tried in their order. Assumes nothing.
use mathlib.Core.Bool.{true, not}
use mathlib.Core.List.{List}
use mathlib.Core.Path.{◌≡◌, refl, ap}
use Prim.Native.Nat.{ℕ, ◌*◌, ◌≤◌}
use native.Mathlib.Omega.{arith}
use lib.ListN.{length}
use Rattle.model.specs.declared.Status.TheVariants.{NotSound, ListTooShort}
use Rattle.model.specs.Words.{slot_count}
use Rattle.model.specs.Sound.{sound}
use Rattle.laws.proofs.SoundHolds.{sound-header}
use Rattle.answers.proofs.Openings.{goes_on, stops}
use Rattle.clock.proofs.Lists.{too_short, not_short}
use Rattle.clock.proofs.Verdicts.{says-not, says-ok, says-end}
use Rattle.clock.proofs.open_list.Goals as goal
use Rattle.clock.proofs.open_list.Goals.{In-Some}

-- ---- the table is sound

module _ (b : In-Some) where
  abbrev t : List ℕ
  t = b.args.table.now

  abbrev list : List ℕ
  list = b.args.fired.now

  ok : sound t ≡ true
  ok = says-ok t b.checked.ensures b.in-Some.is

-- ---- the needs

pub returns-in_default : goal.returns-in_default
returns-in_default c = stops NotSound 0 tt (says-not _ c.checked.ensures c.in_default.is) refl

pub bounds-table-0 : goal.bounds-table-0
bounds-table-0 c = let h = sound-header _ (ok (goal.at.bounds-table-0 c).In-Some) in omega arith

pub overflow_cast-table : goal.overflow_cast-table
overflow_cast-table c = let h = sound-header _ (ok (goal.at.overflow_cast-table c).In-Some) in omega arith

pub overflow_mul-table : goal.overflow_mul-table
overflow_mul-table c = let h = sound-header _ (ok (goal.at.overflow_mul-table c).In-Some) in omega arith

pub returns-then-fired-table : goal.returns-then-fired-table
returns-then-fired-table c =
    let b = (goal.at.returns-then-fired-table c).In-Some in
    stops ListTooShort 1 (ap not (ok b), tt) (too_short (t b) (list b) (omega (arith, c.if-fired-table.true))) refl

pub returns : goal.returns
returns c =
    let b = (goal.at.returns c).In-Some in
    let long : 3 * slot_count (t b) ≤ length (list b) = omega (arith, c.if-fired-table.false) in
    goes_on (record {
      ok = ok b;
      tested = ap not (ok b);
      rule = not_short (t b) (list b) long;
      long = long;
      last = says-end (t b) c.checked.ensures c.in-Some.is;
    })
