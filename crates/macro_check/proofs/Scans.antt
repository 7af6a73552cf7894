-- What a pass returns is what it promises: the block that is the whole macro ends where the macro does, or the macro is not passed. Assumes nothing.
use Prim.Native.Nat.{ℕ, ◌≤◌, ◌<◌}
use mathlib.Core.Path.{◌≡◌, refl, sym, ap, ◌∙◌}
use mathlib.Core.Bool.{true, false}
use mathlib.Core.List.{List}
use lib.Dec.{eqb}
use native.Mathlib.Omega.{arith}
use borrow.Author.Tests.{eq-eqb, ne_eqb, le-leb, lt-leb}
use Rattle.laws.proofs.ListLaws.{cases}
use Rattle.macro_steps.specs.Steps.{count}
use Rattle.macro_check.specs.Passed.{fine, whole, passed}
use Rattle.macro_check.specs.Blocks.{opened, blocks_of, scanned_at}
use Rattle.macro_check.specs.Parts.{from, Checked, AtEnd}
use Rattle.std.specs.Prelude.{Option, Some, None, is_some}
use Rattle.macro_check.proofs.BlockLaws.{top, whole_is}

abbrev pub nothing : Option (List ℕ)
nothing = None

pub scan-refused : (ws : List ℕ) (place : ℕ) → passed ws ≡ false → nothing ≡ scanned_at ws place
scan-refused ws place e = sym (rw e refl)

pub scan-past : (ws : List ℕ) (place : ℕ) → count ws < place → nothing ≡ scanned_at ws place
scan-past ws place h = cases (passed ws) (λ e. sym (rw (e, lt-leb place (count ws) h) refl)) (λ e. scan-refused ws place e)

module _ (ws : List ℕ) (place : ℕ) (w : whole ws ≡ true) where
  module _ (k : ℕ) (bs : List ℕ) (c : Checked 0 0 0 place ws bs (Some k)) (a : AtEnd ws (Some k)) where
    passed-at : passed ws ≡ eqb k (count ws)
    passed-at = whole_is ws w ∙ c.1.1 ∙ sym (top ws k c.1.0.within a)

    pub scan-done : place ≤ count ws → k ≡ count ws → Some bs ≡ scanned_at ws place
    scan-done l e =
        let b : bs ≡ blocks_of (opened ws place) = c.1.0.behind (omega arith) in
        ap Some b ∙ sym (rw (passed-at, eq-eqb k (count ws) e, le-leb place (count ws) l) refl)

    pub scan-short : (k ≡ count ws → ⊥) → nothing ≡ scanned_at ws place
    scan-short n = scan-refused ws place (passed-at ∙ ne_eqb k (count ws) n)

  pub scan-failed : fine 0 (from ws 0) ≡ false → nothing ≡ scanned_at ws place
  scan-failed e = scan-refused ws place (whole_is ws w ∙ e)

pub stands-is : (ws : List ℕ) → is_some (scanned_at ws 0) ≡ passed ws
stands-is ws = cases (passed ws) (λ e. rw (e, le-leb 0 (count ws) (omega arith)) refl) (λ e. rw e refl)
