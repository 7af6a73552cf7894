-- The single calls that a list of calls comes to, where an accepted leap is its ticks and any other accepted call itself; and their events.
-- Assumes nothing.
use mathlib.Core.Path.{◌≡◌, refl, sym, ap, ◌∙◌}
use Prim.Native.Nat.{ℕ, zero, suc}
use mathlib.Core.Bool.{false}
use mathlib.Core.List.{List, [], ◌∷◌, ◌++◌, append_assoc}
use lib.ListN.{replicate}
use lib.Dec.{eqb}
use Rattle.model.specs.Calls.{Call, tick, is_leap}
use Rattle.model.specs.Outcome.{outcome, after}
use Rattle.demand.specs.History.{Event, one_tick, event_of, events_on}
use Rattle.demand.specs.Demand.{singly, accepted_in}
use Rattle.laws.proofs.ListLaws.{cases}

-- a call that is no leap
pub alone : (t : List ℕ) (c : Call) → is_leap c ≡ false → singly t c ≡ c ∷ []
alone t c one = rw one

pub accepted-append : (t : List ℕ) (xs ys : List Call) → accepted_in t (xs ++ ys) ≡ accepted_in t xs ++ accepted_in (after t xs) ys
accepted-append t [] ys = refl
accepted-append t (c ∷ xs) ys =
    let u = (outcome t c).table in
    let rest = accepted-append u xs ys in
    cases (eqb (outcome t c).status 0)
    (λ e. rw e (ap {B = List Call} (λ l. singly t c ++ l) rest ∙ sym (append_assoc (singly t c) (accepted_in u xs) (accepted_in (after u xs) ys))))
    (λ e. rw e rest)

pub events-append : (h : List Event) (xs ys : List Call) → events_on h (xs ++ ys) ≡ events_on (events_on h xs) ys
events-append h [] ys = refl
events-append h (c ∷ xs) ys = events-append (event_of h c ∷ h) xs ys

-- so many ticks
pub events-ticks : (list : List ℕ) (m : ℕ) (h : List Event) → events_on h (replicate m (tick list)) ≡ replicate m one_tick ++ h
events-ticks list zero h = refl
events-ticks list (suc m) h = events-ticks list m (one_tick ∷ h) ∙ one_more m h
  where
    one_more : (m : ℕ) (h : List Event) → replicate m one_tick ++ (one_tick ∷ h) ≡ one_tick ∷ (replicate m one_tick ++ h)
    one_more zero h = refl
    one_more (suc m) h = ap {B = List Event} (λ l. one_tick ∷ l) (one_more m h)
