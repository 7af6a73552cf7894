-- What the step checker returns, at each kind of step, is what it promises: a step that stands drops out of the check, with its check or its whole
-- block. Assumes nothing.
use Prim.Native.Nat.{ℕ, ◌+◌, ◌≤◌, ◌<◌}
use mathlib.Core.Path.{◌≡◌, refl, sym, ap, ◌∙◌, subst}
use mathlib.Core.Bool.{Bool, true, false, cond, not, ◌||◌}
use mathlib.Core.List.{List}
use lib.ListN.{set}
use lib.Dec.{eqb, ltb}
use native.Mathlib.Omega.{arith}
use borrow.Author.Tests.{eq-eqb, ne_eqb}
use Rattle.laws.proofs.ListLaws.{clash}
use Rattle.macro_steps.specs.Steps.{count, kind_at}
use Rattle.macro_check.specs.Passed.{asks_check, followed, fine}
use Rattle.macro_check.specs.Parts.{from, Scanning, Checked, AtEnd}
use Rattle.std.specs.Prelude.{Some}
use Rattle.macro_check.proofs.BlockLaws.{inside, from_first, at_plain, at_open, at-deep, at_none, at-unchecked, at-end, open-at-last}
use Rattle.macro_check.proofs.ScanLaws.{scan-plain, scan-open, scan-close}

asked : (k : ℕ) → asks_check k ≡ true → ((k ≡ 0 → ⊥) × ((k ≡ 5 → ⊥) × (k ≡ 6 → ⊥)))
asked k e = (λ z. other 0 refl z, (λ z. other 5 refl z, λ z. other 6 refl z))
  where
    other : (n : ℕ) → asks_check n ≡ false → k ≡ n → ⊥
    other n f z = clash (sym e ∙ ap asks_check z ∙ f)

module _ {ws : List ℕ} {at kind depth place : ℕ} {blocks : List ℕ} (h : at < count ws) (is : kind ≡ kind_at ws at)
    (s : Scanning ws at depth place blocks) where
  pub no-form : kind ≡ 0 → fine depth (from ws at) ≡ false
  no-form e = at_none ws at depth h (sym is ∙ e)

  asked_here : asks_check kind ≡ true → asks_check (kind_at ws at) ≡ true
  asked_here e = sym (ap asks_check is) ∙ e

  follows : (b : Bool) → asks_check kind ≡ b → followed (kind_at ws at) (from ws (at + 1)) ≡ (not b || eqb (kind_at ws (at + 1)) 4)
  follows b e = ap (λ (k : ℕ). followed k (from ws (at + 1))) (sym is) ∙ rw (e, from_first ws (at + 1)) refl

  -- an arm or cancel, with its check
  pub with-check : asks_check kind ≡ true → kind_at ws (at + 1) ≡ 4 → Checked (at + 1) at depth place ws blocks (Some (at + 2))
  with-check e c =
      let n = asked (kind_at ws at) (asked_here e) in
      let i : at + 1 < count ws = inside ws (at + 1) (λ z. omega arith) in
      let f : followed (kind_at ws at) (from ws (at + 1)) ≡ true = follows true e ∙ eq-eqb (kind_at ws (at + 1)) 4 c in
      let g : followed (kind_at ws (at + 1)) (from ws (at + 1 + 1)) ≡ true = rw c refl in
      let two : at + 1 + 1 ≡ at + 2 = omega arith in
      let t = scan-plain s h n.1.0 n.1.1 in
      let n0 : kind_at ws (at + 1) ≡ 0 → ⊥ = λ z. omega arith in
      let n5 : kind_at ws (at + 1) ≡ 5 → ⊥ = λ z. omega arith in
      let n6 : kind_at ws (at + 1) ≡ 6 → ⊥ = λ z. omega arith in (
        omega arith,
        (
          subst (λ (k : ℕ). Scanning ws k depth place blocks) two (scan-plain t i n5 n6),
          at_plain ws at depth h n.0 f n.1.0 n.1.1
              ∙ at_plain ws (at + 1) depth i n0 g n5 n6
              ∙ ap (λ (k : ℕ). fine depth (from ws k)) two,
        ),
      )

  pub without-check : asks_check kind ≡ true → (kind_at ws (at + 1) ≡ 4 → ⊥) → fine depth (from ws at) ≡ false
  without-check e c = at-unchecked ws at depth h (follows true e ∙ ne_eqb (kind_at ws (at + 1)) 4 c)

  -- a wait, check or sign
  pub plain : asks_check kind ≡ false → (kind ≡ 0 → ⊥) → (kind ≡ 5 → ⊥) → (kind ≡ 6 → ⊥) → Checked (at + 1) at depth place ws blocks (Some (at + 1))
  plain e n0 n5 n6 = (
    omega arith,
    (
      scan-plain s h (λ z. n5 (is ∙ z)) (λ z. n6 (is ∙ z)),
      at_plain ws at depth h (λ z. n0 (is ∙ z)) (follows false e) (λ z. n5 (is ∙ z)) (λ z. n6 (is ∙ z)),
    ),
  )

  pub too-deep : kind ≡ 5 → 8 ≤ depth → fine depth (from ws at) ≡ false
  too-deep e l = at-deep ws at depth h (sym is ∙ e) l

  -- a repeat
  module _ (e : asks_check kind ≡ false) (k : kind ≡ 5) (l : depth < 8) where
    pub block-open : (bs : List ℕ) → bs ≡ cond (ltb at place) (set blocks depth (at + 1)) blocks → Scanning ws (at + 1) (depth + 1) place bs
    block-open bs f = scan-open s h (sym is ∙ k) l bs f

    pub block-is : fine depth (from ws at) ≡ fine (depth + 1) (from ws (at + 1))
    block-is = at_open ws at depth h (follows false e) (sym is ∙ k) l

    pub never-ended : (j : ℕ) (bs : List ℕ) → Checked (at + 1) (at + 1) (depth + 1) place ws bs (Some j) → j ≡ count ws → fine depth (from ws at) ≡ false
    never-ended j bs w g = block-is ∙ w.1.1 ∙ open-at-last ws j (depth + 1) (omega arith) (λ z. omega arith)

    pub block-ended : (j : ℕ) (bs cs : List ℕ) → Checked (at + 1) (at + 1) (depth + 1) place ws bs (Some j) → AtEnd ws (Some j) → (j ≡ count ws → ⊥)
        → cs ≡ cond (ltb j place) (set bs depth 0) bs → Checked (at + 1) at depth place ws cs (Some (j + 1))
    block-ended j bs cs w a n f =
        let m = w.0 in
        let v = w.1.0.within in
        let i : j < count ws = omega (arith, v) in
        (omega arith, (scan-close w.1.0 i (a i) cs f, block-is ∙ w.1.1 ∙ at-end ws j depth i (a i)))
