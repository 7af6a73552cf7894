-- A start by a delay is the call that its definition names, also where it is refused; so a list with such starts is a list of calls, of which demand 3
-- speaks. Assumes nothing.
use mathlib.Core.Path.{◌≡◌, refl, ap}
use Prim.Native.Nat.{ℕ}
use mathlib.Core.List.{List, [], ◌∷◌}
use Rattle.model.specs.Calls.{lay_out}
use Rattle.model.specs.Outcome.{Outcome, outcome}
use Rattle.demand.proofs.Demand3.{demand3}
use Rattle.delay.specs.declared.Delay.TheVariants.{Ticks, Seconds, Date}
use Rattle.delayed.specs.Lines.{Line, calls, starts_by, outcome_on, as_call, as_calls, LinesAreCalls, Demand3OfLines}
use Rattle.delayed.proofs.Seconds.{after-ticks}

pub line-is-call : (t : List ℕ) (l : Line) → outcome t (as_call t l) ≡ outcome_on t l
line-is-call t (calls c) = refl
line-is-call t (starts_by party id (Ticks n) routine user_data) = refl
line-is-call t (starts_by party id (Seconds x) routine user_data) = after-ticks t party id x routine user_data
line-is-call t (starts_by party id (Date w) routine user_data) = refl

pub lines-are-calls : LinesAreCalls
lines-are-calls t [] = refl
lines-are-calls t (l ∷ ls) =
    rw (line-is-call t l) (ap (λ (os : List Outcome). outcome_on t l ∷ os) (lines-are-calls (outcome_on t l).table ls))

pub demand3-of-lines : Demand3OfLines
demand3-of-lines w n t split e ls =
    let laid = (outcome w (lay_out n t split)).table in
    record {
      same = ap (λ (os : List Outcome). outcome w (lay_out n t split) ∷ os) (lines-are-calls laid ls);
      demanded = demand3 w n t split e (as_calls laid ls);
    }
