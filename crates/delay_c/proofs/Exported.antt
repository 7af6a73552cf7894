-- What C gets is what the call answers, with the status as a number; a start answers 0, whether it is accepted or refused. Assumes nothing.
use mathlib.Core.Path.{◌≡◌, refl, sym, ap, ◌∙◌}
use Prim.Native.Nat.{ℕ}
use mathlib.Core.Bool.{Bool, true, false, cond}
use mathlib.Core.List.{List, [], ◌∷◌}
use lib.Dec.{eqb}
use lib.Ieee.{Float}
use Rattle.model.specs.Calls.{fire_after}
use Rattle.model.specs.Words.{ticks_per_second}
use Rattle.model.specs.Outcome.{first_number, Outcome, outcome_of, status_on, refused, accepted, outcome}
use Rattle.std.specs.Prelude.{Result}
use Rattle.model.specs.declared.Status.{Status}
use Rattle.answers.specs.Answers.{status_of, answer_of}
use Rattle.delay.specs.declared.Delay.TheVariants.{Seconds}
use Rattle.delay.specs.Seconds.{conversion, conversion_of, converted}
use Rattle.delay.specs.Exact.{Exact}
use Rattle.delayed.specs.Starts.{started}
use Rattle.delayed.proofs.Seconds.{after-ticks}

-- the numbers of a conversion
pub numbered : (x : Float) (rate : ℕ) (a : Result ℕ Status) (status ticks : ℕ) → status ≡ status_of a → ticks ∷ [] ≡ answer_of a
    → (conversion_of a ≡ converted x rate) × Exact x rate (conversion_of a)
    → (conversion status ticks ≡ converted x rate) × Exact x rate (conversion status ticks)
numbered x rate a status ticks s n h = rw (s, ap first_number n) h

-- a start for ticks answers 0
silent : (b : Bool) (status : ℕ) (t : List ℕ) (party id n routine user_data : ℕ) → let c = fire_after party id n routine user_data in
    (cond b (accepted t c) (refused status t c)).answer ≡ 0 ∷ []
silent true status t party id n routine user_data = refl
silent false status t party id n routine user_data = refl

outcome-silent : (t : List ℕ) (party id n routine user_data : ℕ) → (outcome t (fire_after party id n routine user_data)).answer ≡ 0 ∷ []
unfolding outcome
outcome-silent t party id n routine user_data =
    let status = status_on t (fire_after party id n routine user_data) in silent (eqb status 0) status t party id n routine user_data

start-silent : (t : List ℕ) (party id : ℕ) (x : Float) (routine user_data : ℕ) → (started t party id (Seconds x) routine user_data).answer ≡ 0 ∷ []
start-silent t party id x routine user_data =
    ap (λ (o : Outcome). o.answer) (sym (after-ticks t party id x routine user_data))
    ∙ outcome-silent t party id (converted x (ticks_per_second t)).ticks routine user_data

-- the numbers of a start
pub starts : (t : List ℕ) (party id : ℕ) (x : Float) (routine user_data : ℕ) {table list a : List ℕ} {s status : ℕ} → status ≡ s
    → outcome_of s a table list ≡ started t party id (Seconds x) routine user_data
    → outcome_of status (0 ∷ []) table list ≡ started t party id (Seconds x) routine user_data
starts t party id x routine user_data {table} {list} {a} {s} {status} p e =
    let none : 0 ∷ [] ≡ a = sym (ap (λ (o : Outcome). o.answer) e ∙ start-silent t party id x routine user_data) in
    (λ j. outcome_of (p j) (none j) table list) ∙ e
