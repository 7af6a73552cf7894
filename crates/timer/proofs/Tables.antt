-- What the calls do to a table, from what the steps below them did to it: a slot stored, a timer deleted, a slice laid out. Assumes nothing.
use mathlib.Core.Path.{◌≡◌, refl, sym, ap, ap₂, ◌∙◌}
use Prim.Native.Nat.{ℕ, zero, suc, ◌+◌, ◌*◌}
use native.Mathlib.Omega.{arith}
use mathlib.Core.Bool.{true}
use mathlib.Core.List.{List, ◌∷◌, ◌++◌}
use lib.ListN.{set, drop, replicate, length-replicate}
use Rattle.std.specs.Prelude.{Option, Some}
use Rattle.model.specs.declared.Chain.TheVariants.{ByTicks}
use Rattle.model.specs.State.{Slot, State, with_chain, free, slot_at}
use Rattle.model.specs.Directives.{laid_out, lowest_free, stored, never_started, stopped, idled}
use Rattle.model.specs.Words.{all_slots, write, written_over, read}
use Rattle.model.specs.Sound.{sound}
use Rattle.laws.proofs.Slots.{put-put}
use Rattle.laws.proofs.Searches.{lowest-free}
use Rattle.laws.proofs.ReadBack.{slots_length, over-over}
use Rattle.laws.proofs.SoundHolds.{sound-holds}
use Rattle.laws.proofs.Steps.{length-stored}
use Rattle.slots.specs.Search.{some_slot}
use Rattle.slots.proofs.Laws.{is_slot}
use Rattle.links.specs.Places.{InTable}
use Rattle.links.proofs.NextState.{next-read}
use Rattle.links.proofs.Restart.{stopped_at, stop-next, still-in}

-- ---- create

module _ (t : List ℕ) (ok : sound t ≡ true) (party : ℕ) {r : Option ℕ} {i : ℕ} (answer : r ≡ some_slot (lowest_free (read t) party)) (found-at : r ≡ Some i) where
  pub free-in-table : InTable t i
  free-in-table =
      let at = is_slot answer found-at in
      let f = lowest-free (read t) party (omega (arith, at.0, at.1)) in
      record { holds = sound-holds t ok; low = omega (arith, at.1); high = omega (arith, f.high, slots_length t, at.0) }

  pub created-is : {u : List ℕ} (name : ℕ) → u ≡ written_over (stored (read t) i (never_started name)) t
      → u ≡ written_over (stored (read t) (lowest_free (read t) party) (never_started name)) t
  created-is name h = h ∙ ap (λ (k : ℕ). written_over (stored (read t) k (never_started name)) t) (is_slot answer found-at).0

-- ---- delete: u is the table after the stop

module _ {t : List ℕ} {i : ℕ} (at : InTable t i) {u : List ℕ} (e : u ≡ written_over (stopped_at t i) t) where
  pub still-in-table : InTable u i
  still-in-table = still-in t i at u e

  pub deleted-is : {v : List ℕ} → v ≡ written_over (stored (read u) i free) u → v ≡ written_over (stopped (read t) i free) t
  deleted-is h =
      let s = stopped_at t i in
      h ∙ ap₂ (λ (r : State) (w : List ℕ). written_over (stored r i free) w) (next-read (stop-next t i at u e)) e
      ∙ over-over s (stored s i free) t (length-stored s i free)
      ∙ ap (λ (l : List Slot). written_over (with_chain ByTicks s l s.ticking) t) (put-put (read t).slots i (idled (slot_at (read t).slots i)) free)

-- ---- lay out

module _ (n t split : ℕ) (rest : List ℕ) where
  free-words : (i m : ℕ) → all_slots (laid_out n t split) i (replicate m free) rest ≡ replicate (8 * m) 0 ++ rest
  free-words i zero = refl
  free-words i (suc m) =
      ap {B = List ℕ} (λ (l : List ℕ). 0 ∷ 0 ∷ 0 ∷ 0 ∷ 0 ∷ 0 ∷ 0 ∷ 0 ∷ l) (free-words (suc i) m)
      ∙ ap (λ (k : ℕ). replicate k 0 ++ rest) eight
    where
      eight : suc (suc (suc (suc (suc (suc (suc (suc (8 * m)))))))) ≡ 8 * suc m
      eight = omega arith

  laid-words : write (laid_out n t split) rest ≡ set (set (set (replicate (10 + 8 * n) 0 ++ rest) 0 n) 1 t) 7 split
  laid-words =
      ap₂ {C = List ℕ} (λ (k : ℕ) (l : List ℕ). k ∷ t ∷ 0 ∷ 0 ∷ 0 ∷ 0 ∷ 0 ∷ split ∷ 0 ∷ 0 ∷ l) (length-replicate n free)
      (free-words 1 n)
      ∙ ap (λ (k : ℕ). set (set (set (replicate k 0 ++ rest) 0 n) 1 t) 7 split) ten
    where
      ten : suc (suc (suc (suc (suc (suc (suc (suc (suc (suc (8 * n)))))))))) ≡ 10 + 8 * n
      ten = omega arith

pub laid-is : (w u : List ℕ) (n t split : ℕ) → u ≡ replicate (10 + 8 * n) 0 ++ drop (10 + 8 * n) w
    → set (set (set u 0 n) 1 t) 7 split ≡ written_over (laid_out n t split) w
laid-is w u n t split e =
    ap (λ (l : List ℕ). set (set (set l 0 n) 1 t) 7 split) e
    ∙ sym (laid-words n t split (drop (10 + 8 * n) w))
    ∙ ap (λ (k : ℕ). write (laid_out n t split) (drop (10 + 8 * k) w)) (sym (length-replicate n free))
