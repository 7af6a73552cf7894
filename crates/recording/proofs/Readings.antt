-- `right` read as a person would: every word before that position is as its rule says, and the word at it, where there is a rule, is missing or is not.
-- And the answer by it: 10 with that position; or 0, where every rule has its word and the bytes end there, with words 1 to 3. Assumes nothing.
use mathlib.Core.Path.{◌≡◌, refl, sym, ap, ◌∙◌}
use Prim.Native.Nat.{ℕ, zero, suc, ◌*◌, ◌<◌}
use native.Mathlib.Omega.{arith}
use mathlib.Core.Bool.{Bool, true, false, cond, ◌&&◌}
use mathlib.Core.List.{List, [], ◌∷◌}
use lib.ListN.{length, get_or}
use lib.Dec.{eqb}
use Rattle.laws.proofs.ListLaws.{cases}
use Rattle.recording.specs.Format.{Rule, anything, layout, right, Read, taken_with, reading_of}
use Rattle.recording.proofs.Answers.{by-test}
use Rattle.recording.proofs.TakenFacts.{all_right}

-- ---- how far words are right

first-true : (b : Bool) (r : ℕ) → 0 < cond b (suc r) 0 → b ≡ true
first-true true r h = refl
first-true false r h = absurd (omega arith)

later : (b : Bool) {r : ℕ} (i : ℕ) → suc i < cond b (suc r) 0 → i < r
later true i h = omega arith
later false i h = absurd (omega arith)

pub before : (rules : List Rule) (ws : List ℕ) (i : ℕ) → i < right rules ws → get_or rules i anything (get_or ws i 0) ≡ true
unfolding right
before [] ws i h = absurd (omega arith)
before (rule ∷ rules) [] i h = absurd (omega arith)
before (rule ∷ rules) (w ∷ ws) zero h = first-true (rule w) (right rules ws) h
before (rule ∷ rules) (w ∷ ws) (suc i) h = before rules ws i (later (rule w) i h)

pub there : (rules : List Rule) (ws : List ℕ) → right rules ws < length rules → right rules ws < length ws
    → get_or rules (right rules ws) anything (get_or ws (right rules ws) 0) ≡ false
unfolding right
there [] ws h k = absurd (omega arith)
there (rule ∷ rules) [] h k = absurd (omega arith)
there (rule ∷ rules) (w ∷ ws) h k = at (rule w) refl h k (there rules ws)
  where
    at : (b : Bool) → rule w ≡ b → cond b (suc (right rules ws)) 0 < suc (length rules) → cond b (suc (right rules ws)) 0 < suc (length ws)
        → (right rules ws < length rules → right rules ws < length ws → get_or rules (right rules ws) anything (get_or ws (right rules ws) 0) ≡ false)
        → get_or (rule ∷ rules) (cond b (suc (right rules ws)) 0) anything (get_or (w ∷ ws) (cond b (suc (right rules ws)) 0) 0) ≡ false
    at true e p q ih = ih (omega arith) (omega arith)
    at false e p q ih = e

-- ---- the answer

pub record Whole (size : ℕ) (ws : List ℕ) (r : Read) : Type 0 where
  pub each_right : right (layout ws) ws ≡ length (layout ws)
  pub ends_there : size ≡ 4 * length (layout ws)
  pub position-none : r.position ≡ 0
  pub slots-is : r.slots ≡ get_or ws 1 0
  pub rate-is : r.rate ≡ get_or ws 2 0
  pub calls_is : r.calls ≡ get_or ws 3 0

module _ (size : ℕ) (ws : List ℕ) where
  abbrev p : ℕ
  p = right (layout ws) ws

  abbrev whole : Bool
  whole = eqb p (length (layout ws)) && eqb size (4 * p)

  abbrev r : Read
  r = reading_of size ws

  pub refused-there : r.status ≡ 10 → r.position ≡ p
  refused-there e =
      cases whole
      (λ t. let z : 0 ≡ 10 = sym (ap (λ (x : Read). x.status) (by-test size ws true p refl t)) ∙ e in absurd (omega arith))
      (λ t. ap (λ (x : Read). x.position) (by-test size ws false p refl t))

  pub taken-whole : r.status ≡ 0 → Whole size ws r
  taken-whole e =
      let all = all_right size ws e in
      let is : r ≡ taken_with (get_or ws 1 0) (get_or ws 2 0) (get_or ws 3 0) =
      cases whole
      (λ t. by-test size ws true p refl t)
      (λ t. let z : 10 ≡ 0 = sym (ap (λ (x : Read). x.status) (by-test size ws false p refl t)) ∙ e in absurd (omega arith)) in
      record {
        each_right = all.0;
        ends_there = all.1 ∙ ap (λ (n : ℕ). 4 * n) all.0;
        position-none = ap (λ (x : Read). x.position) is;
        slots-is = ap (λ (x : Read). x.slots) is;
        rate-is = ap (λ (x : Read). x.rate) is;
        calls_is = ap (λ (x : Read). x.calls) is;
      }
