-- Calls to be written, one after the other. Assumes nothing.
use mathlib.Core.Path.{◌≡◌, ap, ◌∙◌}
use mathlib.Core.List.{List, ◌++◌}
use Prim.Native.Nat.{ℕ, suc, ◌+◌, ◌/◌, ◌<◌, ◌≤◌}
use native.Mathlib.Omega.{arith}
use lib.ListN.{length, get_or, drop, drop_of_length-le, length-append, get_or-append}
use lib.Seq.{drop-append-le}
use Rattle.recording.specs.Format.{call_rules, calls_rules, right}
use Rattle.recording.proofs.Right.{right-rules, right-front}
use Rattle.recording.proofs.Reach.{call_length, calls-on, calls-off}

-- how many words of a call, and of so many calls as there are eleven words for, are right
abbrev pub in-call : List ℕ → ℕ
in-call ws = right (call_rules (get_or ws 0 0)) ws

abbrev pub in-calls : List ℕ → ℕ
in-calls ws = right (calls_rules (length ws / 11) ws) ws

module _ (all call rest : List ℕ) (is : all ≡ call ++ rest) (e : length call ≡ 11) where
  pub one-more : length all / 11 ≡ suc (length rest / 11)
  one-more = let l = ap length is ∙ length-append call rest in omega arith

  first : in-call all ≡ in-call call
  first =
      let l = call_length (get_or call 0 0) in
      ap in-call is ∙ ap (λ (n : ℕ). right (call_rules n) (call ++ rest)) (get_or-append call rest 0 0 (omega arith))
      ∙ right-front (call_rules (get_or call 0 0)) call rest (omega arith)

  behind : drop 11 all ≡ rest
  behind =
      ap (drop 11) is ∙ drop-append-le 11 call rest (omega arith)
      ∙ ap (λ (l : List ℕ). l ++ rest) (drop_of_length-le call (let z : length call ≤ 11 = omega arith in z))

  pub right-call : in-call call ≡ 11 → in-calls all ≡ 11 + in-calls rest
  right-call h =
      ap (λ (m : ℕ). right (calls_rules m all) all) one-more ∙ calls-on (length rest / 11) all (first ∙ h)
      ∙ ap (λ (l : List ℕ). 11 + right (calls_rules (length rest / 11) l) l) behind

  pub wrong-call : (in-call call ≡ 11 → ⊥) → in-calls all < 11
  wrong-call h =
      let l = call_length (get_or all 0 0) in
      let m = right-rules (call_rules (get_or all 0 0)) all in
      let f = first in
      let less : in-call all < 11 = grind arith in
      let e = ap (λ (n : ℕ). right (calls_rules n all) all) one-more ∙ calls-off (length rest / 11) all less in
      omega arith
