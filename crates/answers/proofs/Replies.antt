-- Each `return` of a call in one line: where the rules before hold off and one applies, the outcome is that refusal; where none applies it
-- is what the call does. Assumes nothing.
use mathlib.Core.Path.{◌≡◌, sym, ap, ◌∙◌}
use mathlib.Core.Logic.{◌≢◌}
use Prim.Native.Nat.{ℕ}
use mathlib.Core.Bool.{Bool, true, false, not}
use mathlib.Core.List.{List, map}
use borrow.Author.Tests.{eq-eqb, ne_eqb, not-false}
use lib.ListN.{get_or, take}
use Rattle.model.specs.declared.Status.{Status}
use Rattle.model.specs.Lists.{All}
use Rattle.model.specs.Status.{Refusal, number_of}
use Rattle.model.specs.Calls.{Call, lent_to}
use Rattle.model.specs.State.{listed}
use Rattle.model.specs.Directives.{refusals, effect}
use Rattle.model.specs.Words.{written_over, read, clock_set}
use Rattle.model.specs.Sound.{sound}
use Rattle.model.specs.Outcome.{outcome_of, refused, written, accepted, outcome}
use Rattle.laws.proofs.SoundHolds.{sound-holds}
use Rattle.laws.proofs.AcceptedCalls.{no_rule, none-given, first-given}
use Rattle.laws.proofs.OutcomeLaws.{status-is, outcome-accepted, refused-by}

-- the rules of a call on a table
abbrev pub rules : List ℕ → Call → List Refusal
rules t c = refusals t (read t) c

module _ (t : List ℕ) (c : Call) where
  pub refuses : (s : Status) (k : ℕ) → All (λ r. r.given ≡ false) (take k (rules t c)) → (get_or (rules t c) k no_rule).given ≡ true
      → (get_or (rules t c) k no_rule).status ≡ s → refused (number_of s) t c ≡ outcome t c
  refuses s k before now number = sym (refused-by t c s (status-is t c ∙ first-given (rules t c) k before now ∙ ap number_of number))

  accepts : All (λ r. r.given ≡ false) (rules t c) → accepted t c ≡ outcome t c
  accepts none = sym (outcome-accepted t c (status-is t c ∙ none-given (rules t c) none))

  -- answer, table and list as the call leaves them
  pub done : (answer table list : List ℕ) → All (λ r. r.given ≡ false) (rules t c) → answer ≡ (effect t (read t) c).answer
      → table ≡ (accepted t c).table → list ≡ written (map (listed (read t).slots) (effect t (read t) c).fired) (lent_to c)
      → outcome_of 0 answer table list ≡ outcome t c
  done answer table list none a u l = (λ j. outcome_of 0 (a j) (u j) (l j)) ∙ accepts none

-- a test, and what it tests for
pub not_same : {r b x : Bool} → r ≡ b → not r ≡ x → not b ≡ x
not_same e n = ap not (sym e) ∙ n

-- the table was tested, and is sound
pub record Tested (t : List ℕ) : Type 0 where
  pub ok : sound t ≡ true
  pub rule : not (sound t) ≡ false

pub tested : {t : List ℕ} {r : Bool} → r ≡ sound t → not r ≡ false → Tested t
tested {t} {r} e n = record { ok = sym e ∙ not-false r n; rule = not_same e n }

-- a table that a call only looks at
pub same-table : (t : List ℕ) → sound t ≡ true → t ≡ written_over (read t) t
same-table t ok = sym (sound-holds t ok).is

-- ---- the clock is set, or not

pub clock-unset : (t : List ℕ) → clock_set t ≢ 1 → not (read t).clock.is_set ≡ true
clock-unset t n = ap not (ne_eqb (clock_set t) 1 n)

pub clock-running : (t : List ℕ) → clock_set t ≡ 1 → not (read t).clock.is_set ≡ false
clock-running t e = ap not (eq-eqb (clock_set t) 1 e)
