-- Document 02, item 11: a macro's steps one after the other on one record, whatever becomes of the table between them, and what is claimed of them.
-- Assumes nothing: these are definitions.
use Rattle.std.specs.Prelude.{ℕ, zero, suc, ◌≡◌, Bool, true, cond, not, ◌&&◌, ◌||◌, List, [], ◌∷◌, ◌++◌, map, length, get_or, eqb}
use Rattle.model.specs.Lists.{All}
use Rattle.model.specs.Outcome.{outcome}
use Rattle.macro_steps.specs.declared.Step.TheVariants.{Sign}
use Rattle.macro_steps.specs.Steps.{step_at, kind_at}
use Rattle.macro_check.specs.Passed.{passed}
use Rattle.macro_record.specs.declared.Runner.{Runner}
use Rattle.macro_record.specs.Record.{fresh, ready}
use Rattle.macros.specs.Stepping.{calls_of, Taken, taken_as, stepped}

-- the party as which a step is made, and the table that it finds
pub record Turn : Type 0 where
  pub party : ℕ
  pub table : List ℕ

abbrev pub turn_of : ℕ → List ℕ → Turn
turn_of party table = record { party = party; table = table }

module _ (ws : List ℕ) where
  -- a step of the macro so made
  abbrev pub stepped_in : Runner → Turn → Taken
  stepped_in r u = stepped u.party ws r u.table

  -- the record after a step in each of these turns: "touched only by that macro's own steps"
  abbrev pub ran : Runner → List Turn → Runner
  ran r [] = r
  ran r (u ∷ us) = ran (stepped_in r u).runner us

  -- the status that the manager gave to an arm, cancel or wait, and those "on the way"
  abbrev pub given : Runner → Turn → List ℕ
  given r u = cond (ready ws r) (map (λ c. (outcome u.table c).status) (calls_of u.party (step_at ws r.place))) []

  abbrev pub statuses : Runner → List Turn → List ℕ
  statuses r [] = []
  statuses r (u ∷ us) = given r u ++ statuses (stepped_in r u).runner us

-- What is claimed of every macro and every list of turns.
pub record Claimed : Type 0 where
  -- "A passed macro that reaches sign from a fresh record, touched only by that macro's own steps, had status 0 from every arm, cancel and wait on the
  -- way."
  pub no-blind-sign : (ws : List ℕ) (us : List Turn) → passed ws ≡ true → step_at ws (ran ws fresh us).place ≡ Sign
      → All (λ s. s ≡ 0) (statuses ws fresh us)
  -- An answer of 1 is a sign's, of any record;
  pub one-is-sign : (ws : List ℕ) (r : Runner) (u : Turn) → get_or (stepped_in ws r u).answer 0 0 ≡ 1 → step_at ws r.place ≡ Sign
  -- so whoever gets it from a fresh record knows that of every status.
  pub one-is-earned : (ws : List ℕ) (us : List Turn) (u : Turn) → get_or (stepped_in ws (ran ws fresh us) u).answer 0 0 ≡ 1
      → All (λ s. s ≡ 0) (statuses ws fresh us)
  -- A fresh record that only a passed macro's own steps touch is never refused;
  pub never-refused : (ws : List ℕ) (us : List Turn) (u : Turn) → passed ws ≡ true → (stepped_in ws (ran ws fresh us) u).status ≡ 0
  -- nor is any other, of eight counts, once a step on it was made.
  pub then-never-refused : (ws : List ℕ) (r : Runner) (u : Turn) (us : List Turn) (v : Turn) → length r.counts ≡ 8 → (stepped_in ws r u).status ≡ 0
      → (stepped_in ws (ran ws r us) v).status ≡ 0

-- ---- steps in one call

-- a run stops after a step that is refused, that answers 1, or that leaves the record as it was: a wait that is not done, or the end of the macro. Then the
-- place is as it was and the step is no end, which counts one more where it goes back to its own place; `StopsAsItWas` says that this is all
abbrev pub stops : List ℕ → Runner → Taken → Bool
stops ws r k = not (eqb k.status 0) || (eqb (get_or k.answer 0 0) 1 || (eqb k.runner.place r.place && not (eqb (kind_at ws r.place) 6)))

-- of a record of eight counts, and a step that was made and is no sign
abbrev pub StopsAsItWas : Type 0
StopsAsItWas = (ws : List ℕ) (r : Runner) (u : Turn) → length r.counts ≡ 8 → let k = stepped_in ws r u in k.status ≡ 0
    → (get_or k.answer 0 0 ≡ 1 → ⊥) → (stops ws r k ≡ true → k.runner ≡ r) × (k.runner ≡ r → stops ws r k ≡ true)

-- so many steps at most, each on the table that the last one left; status and answer are the last step's
unfoldable pub ran_for : ℕ → List ℕ → ℕ → Runner → List ℕ → Taken
ran_for party ws zero r t = taken_as 0 (0 ∷ []) r t
ran_for party ws (suc n) r t =
    let k = stepped party ws r t in cond (stops ws r k) k (ran_for party ws n k.runner k.table)

-- the party as which a run is made, how many steps at most, and the table that it finds
pub record RunCall : Type 0 where
  pub party : ℕ
  pub budget : ℕ
  pub table : List ℕ

abbrev pub run_of : ℕ → ℕ → List ℕ → RunCall
run_of party budget table = record { party = party; budget = budget; table = table }

module _ (ws : List ℕ) where
  -- a run so made
  abbrev pub ran_in : Runner → RunCall → Taken
  ran_in r c = ran_for c.party ws c.budget r c.table

  -- the turns of its steps
  abbrev pub turns_for : ℕ → ℕ → Runner → List ℕ → List Turn
  turns_for party zero r t = []
  turns_for party (suc n) r t =
      let k = stepped party ws r t in turn_of party t ∷ cond (stops ws r k) [] (turns_for party n k.runner k.table)

  -- the record after these runs, one after the other, and the turns of all their steps
  abbrev pub ran_over : Runner → List RunCall → Runner
  ran_over r [] = r
  ran_over r (c ∷ cs) = ran_over (ran_in r c).runner cs

  abbrev pub turns_over : Runner → List RunCall → List Turn
  turns_over r [] = []
  turns_over r (c ∷ cs) = turns_for c.party c.budget r c.table ++ turns_over (ran_in r c).runner cs

-- Of runs from a fresh record, one after the other, whatever becomes of the table between them: if the last answers 1, then every arm, cancel and wait
-- on the way had status 0.
abbrev pub RunEarned : Type 0
RunEarned = (ws : List ℕ) (cs : List RunCall) (c : RunCall) → get_or (ran_in ws (ran_over ws fresh cs) c).answer 0 0 ≡ 1
    → All (λ s. s ≡ 0) (statuses ws fresh (turns_over ws fresh (cs ++ c ∷ [])))
