-- The number of a call is the number of one, and the word of one is there. Assumes nothing.
use mathlib.Core.Path.{◌≡◌, refl, sym, ap, ◌∙◌}
use Prim.Native.Nat.{ℕ, ◌<◌}
use mathlib.Core.Bool.{true, false, ◌&&◌}
use mathlib.Core.List.{List}
use lib.ListN.{length, get_or}
use lib.Dec.{ltb}
use borrow.Author.Tests.{ltb-true, ltb-false}
use Rattle.std.proofs.lemmas.List.{get_or_past}
use Rattle.laws.proofs.ListLaws.{cases, clash}
use Rattle.recording.specs.Format.{within}
use Rattle.recording.specs.CallNumbers.{word_of}
use Rattle.recording.specs.declared.call_number.CallNumber.{CallNumber}
use Rattle.recording.specs.declared.call_number.CallNumber.TheVariants.{Create, Ident, Cancel, Delete, FireAfter, FireWhen, Reset, TicksLeft, Tick, SetClock, GetClock, FireEvery, NextDue, InitiateServer, ServerFireAfter, ServerFireWhen, Serve, Leap}

pub within-calls : (call : CallNumber) → within 2 19 (word_of call) ≡ true
within-calls Create = refl
within-calls Ident = refl
within-calls Cancel = refl
within-calls Delete = refl
within-calls FireAfter = refl
within-calls FireWhen = refl
within-calls Reset = refl
within-calls TicksLeft = refl
within-calls Tick = refl
within-calls SetClock = refl
within-calls GetClock = refl
within-calls FireEvery = refl
within-calls NextDue = refl
within-calls InitiateServer = refl
within-calls ServerFireAfter = refl
within-calls ServerFireWhen = refl
within-calls Serve = refl
within-calls Leap = refl

-- a word that is the number of a call is there
pub record Known (ws : List ℕ) (at : ℕ) : Type 0 where
  pub there : at < length ws
  pub tested : (ltb at (length ws) && within 2 19 (get_or ws at 0)) ≡ true

pub known : (ws : List ℕ) (at : ℕ) → within 2 19 (get_or ws at 0) ≡ true → Known ws at
known ws at e =
    cases (ltb at (length ws))
    (λ t. record { there = ltb-true at (length ws) t; tested = ap (λ b. b && within 2 19 (get_or ws at 0)) t ∙ e })
    (λ t. clash (sym e ∙ ap (within 2 19) (get_or_past ws at 0 (ltb-false at (length ws) t))))

pub of-call : (ws : List ℕ) (at : ℕ) (call : CallNumber) → word_of call ≡ get_or ws at 0 → Known ws at
of-call ws at call e = known ws at (sym (ap (within 2 19) e) ∙ within-calls call)

pub not-known : (ws : List ℕ) (at : ℕ) → within 2 19 (get_or ws at 0) ≡ false → (ltb at (length ws) && within 2 19 (get_or ws at 0)) ≡ false
not-known ws at e = cases (ltb at (length ws)) (λ t. ap (λ b. b && within 2 19 (get_or ws at 0)) t ∙ e) (λ t. ap (λ b. b && within 2 19 (get_or ws at 0)) t)
