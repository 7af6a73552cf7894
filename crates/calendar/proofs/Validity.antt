-- `valid` and its tests as facts imply one another: a list of tests holds where each of its members does. Assumes nothing.
use mathlib.Core.Bool.{Bool, true, false}
use mathlib.Core.List.{List, [], ◌∷◌}
use mathlib.Core.Path.{◌≡◌, refl}
use Prim.Native.Nat.{◌≤◌, ℕ, zero, suc}
use lib.ListN.{get_or}
use borrow.Author.Tests.{leb-true, le-leb}
use Rattle.calendar.specs.declared.WallTime.{WallTime}
use Rattle.calendar.specs.Calendar.{month_length, all_of, tests, valid}

pub all-at : (bs : List Bool) → all_of bs ≡ true → (k : ℕ) → get_or bs k true ≡ true
all-at [] e k = refl
all-at (true ∷ bs) e zero = refl
all-at (true ∷ bs) e (suc k) = all-at bs e k
all-at (false ∷ bs) e k = cc

-- a wall time is valid: the tests of `valid`, as facts
pub record Valid (w : WallTime) : Type 0 where
  pub year-from : 1988 ≤ w.year
  pub year-to : w.year ≤ 2099
  pub month-from : 1 ≤ w.month
  pub month-to : w.month ≤ 12
  pub day-from : 1 ≤ w.day
  pub day-to : w.day ≤ month_length w.year w.month
  pub hour-to : w.hour ≤ 23
  pub minute-to : w.minute ≤ 59
  pub second-to : w.second ≤ 59

pub facts-valid : (w : WallTime) → Valid w → valid w ≡ true
unfolding valid
facts-valid w v =
    simp (
      le-leb _ _ v.year-from,
      le-leb _ _ v.year-to,
      le-leb _ _ v.month-from,
      le-leb _ _ v.month-to,
      le-leb _ _ v.day-from,
      le-leb _ _ v.day-to,
      le-leb _ _ v.hour-to,
      le-leb _ _ v.minute-to,
      le-leb _ _ v.second-to,
    )

pub valid-facts : (w : WallTime) → valid w ≡ true → Valid w
unfolding valid
valid-facts w e =
    let t = all-at (tests w) e in
    record {
      year-from = leb-true _ _ (t 0);
      year-to = leb-true _ _ (t 1);
      month-from = leb-true _ _ (t 2);
      month-to = leb-true _ _ (t 3);
      day-from = leb-true _ _ (t 4);
      day-to = leb-true _ _ (t 5);
      hour-to = leb-true _ _ (t 6);
      minute-to = leb-true _ _ (t 7);
      second-to = leb-true _ _ (t 8);
    }

-- a wall time that breaks one of the facts is not valid
pub not_valid : (w : WallTime) → (Valid w → ⊥) → false ≡ valid w
not_valid w n = go (valid w) refl
  where
    go : (b : Bool) → valid w ≡ b → false ≡ b
    go true e = absurd (n (valid-facts w e))
    go false e = refl

pub ruleset facts = (valid-facts)
