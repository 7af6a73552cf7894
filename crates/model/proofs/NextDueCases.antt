-- What next due answers between other calls, computed from the definitions. Assumes nothing.
use mathlib.Core.Path.{◌≡◌, refl}
use Prim.Native.Nat.{ℕ}
use native.Mathlib.Omega.{arith}
use mathlib.Core.Bool.{true}
use mathlib.Core.List.{List, [], ◌∷◌, ◌++◌, map}
use lib.ListN.{replicate}
use Rattle.calendar.specs.Calendar.{months_of, years, valid, seconds_of}
use Rattle.model.specs.Lists.{least}
use Rattle.model.specs.Calls.{lay_out, create, cancel, fire_after, fire_when, fire_every, tick, set_clock, next_due, initiate_server, server_fire_after}
use Rattle.model.specs.Sound.{header_sound, slot_sound, chain_sound, ticks_sound, dates_sound, queue_sound, sound}
use Rattle.model.specs.Outcome.{outcome_of, status_on, outcome}
use Rattle.model.specs.NextDue.{waiting_for_ticks, ticks_left_of, NextDueIsLeast, SameFirst}
use Rattle.model.proofs.Cases.{Case, calls, computed, date, nine, unlent}
use Rattle.model.proofs.WorkedCases.{one, two, yes}
use Rattle.model.proofs.EveryKind.{every_kind}

abbrev pub next_due_cases : List Case
next_due_cases =
    -- None waits; the first of one and of two; a tick later; where the first was cancelled; where it fired and goes back behind.
    calls (replicate 26 0)
    (lay_out 2 10 0 ∷ next_due ∷ create 1 1 ∷ create 1 2 ∷ next_due ∷ fire_after 1 one 5 7 70 ∷ next_due ∷ fire_every 1 two 3 8 80 ∷ next_due ∷ tick nine ∷ next_due
    ∷ cancel 1 two ∷ next_due ∷ fire_every 1 two 2 8 80 ∷ tick nine ∷ next_due ∷ tick nine ∷ next_due ∷ cancel 1 two ∷ next_due ∷ cancel 1 one ∷ next_due ∷ [])
    (yes 0 ∷ yes 0 ∷ yes one ∷ yes two ∷ yes 0 ∷ yes 0 ∷ yes 5 ∷ yes 0 ∷ yes 3 ∷ yes 0 ∷ yes 2
    ∷ yes 0 ∷ yes 4 ∷ yes 0 ∷ yes 0 ∷ yes 1 ∷ yes 1 ∷ yes 2 ∷ yes 0 ∷ yes 2 ∷ yes 0 ∷ yes 0 ∷ [])
    (unlent 9 ++ (nine ∷ unlent 4 ++ (nine ∷ [] ∷ (two ∷ 8 ∷ 80 ∷ replicate 6 99) ∷ unlent 5)))
    (2 ∷ 10 ∷ replicate 8 0 ++ (2 ∷ 1 ∷ 5 ∷ 0 ∷ 7 ∷ 70 ∷ 0 ∷ 0 ∷ 7 ∷ 2 ∷ 2 ∷ 0 ∷ 8 ∷ 80 ∷ 0 ∷ 0 ∷ []))
    -- A date does not count, nor a queued timer; a server timer that waits for ticks does.
    ∷ calls (replicate 26 0)
    (lay_out 2 10 0 ∷ create 1 1 ∷ create 1 2 ∷ set_clock (date 2000 1 1 0 0 0) nine ∷ fire_when 1 one (date 2000 1 1 0 0 5) 7 70 ∷ next_due ∷ initiate_server
    ∷ server_fire_after 1 two 2 8 80 ∷ next_due ∷ tick nine ∷ next_due ∷ tick nine ∷ next_due ∷ [])
    (yes 0 ∷ yes one ∷ yes two ∷ yes 0 ∷ yes 0 ∷ yes 0 ∷ yes 0 ∷ yes 0 ∷ yes 2 ∷ yes 0 ∷ yes 1 ∷ yes 0 ∷ yes 0 ∷ [])
    (unlent 3 ++ (nine ∷ unlent 5 ++ (nine ∷ [] ∷ nine ∷ [] ∷ [])))
    (2 ∷ 10 ∷ 1 ∷ 378691200 ∷ 2 ∷ 0 ∷ 1 ∷ 0 ∷ 1 ∷ 2 ∷ 5 ∷ 1 ∷ 0 ∷ 378691205 ∷ 7 ∷ 70 ∷ 0 ∷ 0 ∷ 12 ∷ 2 ∷ 2 ∷ 0 ∷ 8 ∷ 80 ∷ 0 ∷ 0 ∷ [])
    ∷ []

pub next-dues : map computed next_due_cases ≡ next_due_cases
unfolding months_of years valid seconds_of header_sound slot_sound chain_sound ticks_sound dates_sound queue_sound sound status_on outcome
next-dues = refl

-- ---- a table with every kind

pub on-every-kind : outcome every_kind next_due ≡ outcome_of 0 (1 ∷ []) every_kind []
unfolding status_on outcome
on-every-kind = refl

-- the slots that wait for ticks, of a table with every kind; and the least of some numbers
pub waiting-slots : waiting_for_ticks every_kind ≡ 4 ∷ 6 ∷ 10 ∷ []
waiting-slots = refl

pub leasts : map least ([] ∷ (5 ∷ []) ∷ (5 ∷ 3 ∷ []) ∷ (3 ∷ 5 ∷ []) ∷ (4 ∷ 2 ∷ 3 ∷ []) ∷ []) ≡ 0 ∷ 5 ∷ 3 ∷ 3 ∷ 2 ∷ []
leasts = refl

-- ---- slices that differ in all that it does not read

abbrev named : List ℕ
named = 2 ∷ 10 ∷ 0 ∷ 0 ∷ 0 ∷ 2 ∷ 0 ∷ 0 ∷ 0 ∷ 0 ∷ replicate 8 0 ++ (4 ∷ 1 ∷ 9 ∷ 3 ∷ 7 ∷ 70 ∷ 0 ∷ 0 ∷ 0 ∷ [])

abbrev elsewhere : List ℕ
elsewhere = 2 ∷ 11 ∷ 5 ∷ 6 ∷ 7 ∷ 2 ∷ 8 ∷ 9 ∷ 10 ∷ 11 ∷ replicate 8 5 ++ (4 ∷ 2 ∷ 8 ∷ 3 ∷ 9 ∷ 99 ∷ 5 ∷ 6 ∷ 1 ∷ [])

pub only-these : SameFirst named elsewhere
only-these = record { long = refl; count = refl; head = refl; kind = λ _ _. refl; wait = λ _ _. refl }

abbrev none_first : ℕ → List ℕ
none_first x = 1 ∷ x ∷ x ∷ x ∷ x ∷ 0 ∷ replicate 12 x

pub not-even-a-slot : SameFirst (none_first 0) (none_first 6)
not-even-a-slot = record { long = refl; count = refl; head = refl; kind = λ l _. absurd (omega (arith, l)); wait = λ l _. absurd (omega (arith, l)) }

-- It is said of every sound table, of one party or of two.
pub least-told : NextDueIsLeast → (t : List ℕ) → sound t ≡ true → outcome t next_due ≡ outcome_of 0 (least (map (ticks_left_of t) (waiting_for_ticks t)) ∷ []) t []
least-told h t ok = h t ok
