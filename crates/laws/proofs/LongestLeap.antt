-- Document 02, item 7: the longest leap, by 1,000,000, stops as a short one does. It is not computed tick by tick: a leap that stopped is the same by any
-- longer one. Assumes nothing.
use mathlib.Core.Path.{◌≡◌, refl}
use Prim.Native.Nat.{ℕ}
use native.Mathlib.Omega.{arith}
use mathlib.Core.List.{List, [], ◌∷◌, ◌++◌, cons≢nil}
use lib.ListN.{replicate}
use Rattle.model.specs.Calls.{leap}
use Rattle.model.specs.Sound.{header_sound, slot_sound, chain_sound, ticks_sound, dates_sound, queue_sound, sound}
use Rattle.model.specs.Outcome.{outcome_of, status_on, outcome}
use Rattle.model.proofs.WorkedCases.{one, three}
use Rattle.laws.proofs.LeapWords.{leap-longer}

-- one timer waits for 3 ticks, by word 8 and its kind
abbrev one_waits : ℕ → ℕ → List ℕ
one_waits server kind = 1 ∷ 10 ∷ 0 ∷ 0 ∷ 0 ∷ 1 ∷ 0 ∷ 0 ∷ server ∷ 0 ∷ kind ∷ 1 ∷ 3 ∷ 3 ∷ 7 ∷ 70 ∷ 0 ∷ 0 ∷ []

-- the one timer that fired
abbrev fired : List ℕ
fired = one ∷ 7 ∷ 70 ∷ []

-- By 1,000,000 too it stops after the tick that fires, or queues: it is the leap by 3.
pub longest : outcome (one_waits 0 4) (leap 1000000 three)
    ≡ outcome_of 0 (1 ∷ 3 ∷ []) (1 ∷ 10 ∷ replicate 8 0 ++ (2 ∷ 1 ∷ 3 ∷ 0 ∷ 7 ∷ 70 ∷ 0 ∷ 0 ∷ [])) fired
unfolding header_sound slot_sound chain_sound ticks_sound dates_sound queue_sound sound status_on outcome
longest = leap-longer (one_waits 0 4) three 3 999997 (omega arith) refl (λ none same. absurd (omega (arith, none)))

pub longest-queues : outcome (one_waits 1 10) (leap 1000000 three)
    ≡ outcome_of 0 (0 ∷ 3 ∷ []) (1 ∷ 10 ∷ replicate 6 0 ++ (1 ∷ 1 ∷ 12 ∷ 1 ∷ 3 ∷ 0 ∷ 7 ∷ 70 ∷ 0 ∷ 0 ∷ [])) three
unfolding header_sound slot_sound chain_sound ticks_sound dates_sound queue_sound sound status_on outcome
longest-queues = leap-longer (one_waits 1 10) three 3 999997 (omega arith) refl (λ none same. absurd (cons≢nil same))
