-- Starts by a delay may be swapped as the calls that they are: each is a call by T, which no line changes. Assumes nothing.
use mathlib.Core.Path.{◌≡◌, sym, ap, ◌∙◌}
use Prim.Native.Nat.{ℕ}
use mathlib.Core.Bool.{true, false}
use mathlib.Core.List.{List, ◌∷◌, ◌++◌}
use Rattle.model.specs.Outcome.{Outcome}
use Rattle.order.specs.Delays.{by_rate}
use Rattle.order.proofs.Readings.{leaves, script-swaps, order-of-delays, delays-show}
use Rattle.delayed.specs.Lines.{Line, outcome_on, call_by}
use Rattle.delayed.specs.Order.{lines_on_two_ids, lines_same_due, OrderOfStarts, StartsShow}
use Rattle.delayed.proofs.Lines.{line-is-call}

-- two lines in a row
then : (t : List ℕ) (k l : Line) → by_rate (by_rate t (call_by k)).table (call_by l) ≡ outcome_on (outcome_on t k).table l
then t k l = ap (λ (o : Outcome). by_rate o.table (call_by l)) (line-is-call t k) ∙ line-is-call (outcome_on t k).table l

pub order-of-starts : OrderOfStarts
order-of-starts t k l ids except =
    let swap = order-of-delays t (call_by k) (call_by l) ids except in
    record {
      tables = sym (ap (λ (o : Outcome). o.table) (then t k l)) ∙ swap.tables ∙ ap (λ (o : Outcome). o.table) (then t l k);
      first-status = sym (ap (λ (o : Outcome). o.status) (line-is-call t k)) ∙ swap.first-status ∙ ap (λ (o : Outcome). o.status) (then t l k);
      second-status = sym (ap (λ (o : Outcome). o.status) (then t k l)) ∙ swap.second-status ∙ ap (λ (o : Outcome). o.status) (line-is-call t l);
    }

pub starts-show : StartsShow
starts-show t k l ids except tables =
    delays-show t (call_by k) (call_by l) ids except
    (ap (λ (o : Outcome). o.table) (then t k l) ∙ tables ∙ sym (ap (λ (o : Outcome). o.table) (then t l k)))

-- Where two neighbouring lines may be swapped, no later line of the script can tell.
pub script-of-lines : (t : List ℕ) (before later : List Line) (k l : Line) → let u = leaves outcome_on t before in lines_on_two_ids u k l ≡ true
    → lines_same_due u k l ≡ false
    → (m : Line) → outcome_on (leaves outcome_on t (before ++ (k ∷ l ∷ later))) m ≡ outcome_on (leaves outcome_on t (before ++ (l ∷ k ∷ later))) m
script-of-lines t before later k l ids except =
    script-swaps outcome_on t before later k l (order-of-starts (leaves outcome_on t before) k l ids except)
