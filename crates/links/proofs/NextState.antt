-- A state written over a table is read back from it, so that steps of the code, each of which leaves one, follow one another: the last is
-- written over the table of the start. Assumes nothing.
use mathlib.Core.Path.{◌≡◌, sym, ap, ◌∙◌, subst}
use Prim.Native.Nat.{ℕ}
use mathlib.Core.List.{List}
use lib.ListN.{length}
use Rattle.model.specs.State.{State}
use Rattle.model.specs.Words.{read, written_over}
use Rattle.laws.proofs.WellFormed.{Chained, Holds}
use Rattle.laws.proofs.ReadBack.{read_back, over-over, over-holds}

-- the words u are those of s written over t
pub record Next (t : List ℕ) (s : State) (u : List ℕ) : Type 0 where
  pub is : u ≡ written_over s t
  pub holds : Holds u s

pub next_start : {t : List ℕ} → Holds t (read t) → Next t (read t) t
next_start h = record { is = sym h.is; holds = h }

module _ {t : List ℕ} {s : State} {u : List ℕ} (x : Next t s u) where
  pub next-read : read u ≡ s
  next-read = read_back u s x.holds

  pub next-holds : Holds u (read u)
  next-holds = subst (Holds u) (sym next-read) x.holds

  -- one step more, which leaves f of the state: the chains stay in order, and there are as many slots
  pub next-then : (f : State → State) → Chained (f s) → length (f s).slots ≡ length s.slots
      → {v : List ℕ} → v ≡ written_over (f (read u)) u → Next t (f s) v
  next-then f c e {v} is =
      let at : v ≡ written_over (f s) u = is ∙ ap (λ (z : State). written_over (f z) u) next-read in
      record {
        is = at ∙ ap (written_over (f s)) x.is ∙ over-over s (f s) t e;
        holds = subst (λ (w : List ℕ). Holds w (f s)) (sym at) (over-holds u s (f s) x.holds c e);
      }
