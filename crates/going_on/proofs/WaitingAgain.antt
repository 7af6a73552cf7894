-- An idle periodic timer waits again: it is inserted where its interval has it, and its kind is written; all else that a start would write is
-- there. Assumes nothing.
use mathlib.Core.Path.{◌≡◌, refl, sym, ap, ◌∙◌, subst}
use Prim.Native.Nat.{ℕ}
use mathlib.Core.Bool.{false}
use mathlib.Core.List.{List}
use lib.ListN.{length, set}
use Rattle.model.specs.declared.Chain.{Chain}
use Rattle.model.specs.declared.Chain.TheVariants.{ByTicks}
use Rattle.model.specs.declared.Mode.TheVariants.{Every}
use Rattle.model.specs.Kinds.{waiting_kind, waits_in}
use Rattle.model.specs.Lists.{place}
use Rattle.model.specs.State.{Slot, State, slot_at, wait_at}
use Rattle.model.specs.Directives.{became, started}
use Rattle.model.specs.Words.{accumulated, written_over, read, kind_of}
use Rattle.laws.proofs.WellFormed.{Chained, Holds}
use Rattle.laws.proofs.ReadBack.{slot_read}
use Rattle.laws.proofs.Slots.{length-put}
use Rattle.laws.proofs.Steps.{chained-started}
use Rattle.chains.specs.EditedWords.{field_word, inserted_words, Insertable}
use Rattle.links.specs.Places.{At, InTable}
use Rattle.going_on.specs.GoingBack.{waits_again, Again}
use Rattle.links.proofs.Extracting.{in-slots, in-none}
use Rattle.links.proofs.Inserting.{started-as, insertable, kind-words}
use Rattle.links.proofs.NextState.{next_start, next-holds, next-then}
use Rattle.links.proofs.Restart.{in_table}

-- a timer that does not wait
module _ (t : List ℕ) (i : ℕ) (h : InTable t i) (idle : (m : Chain) → waits_in m (kind_of t i) ≡ false) where
  abbrev x : Slot
  x = slot_at (read t).slots i

  -- to wait again is to start as before
  again-starts : waits_again (read t) i ≡ started Every (read t) i x.interval x.routine x.user_data
  again-starts =
      started-as ByTicks (read t) i x.interval (became (waiting_kind Every) x)
      (place (λ w. w.wait) (record { slot = i; wait = x.interval }) (read t).ticking) (in-none t i h idle) refl

  starts-chained : Chained (started Every (read t) i x.interval x.routine x.user_data)
  starts-chained =
      chained-started Every (read t) h.holds.chained i x.interval x.routine x.user_data h.low (in-slots t i h)

  pub again-chained : Chained (waits_again (read t) i)
  again-chained = subst Chained (sym again-starts) starts-chained

  pub again-length : length (waits_again (read t) i).slots ≡ length (read t).slots
  again-length = length-put (read t).slots i (became (waiting_kind Every) x)

module _ (t : List ℕ) (i p left : ℕ) (o : Holds t (read t)) (h : Again t i p left) {before wait : ℕ}
    (found : At ByTicks (read t) (accumulated ByTicks (wait_at p (read t).ticking) left) before wait) where
  here : InTable t i
  here = in_table o h.idle.slot

  at : At ByTicks (read t) (x t i here h.idle.idle).interval before wait
  at = subst (λ (n : ℕ). At ByTicks (read t) n before wait)
      (h.sum ∙ sym (ap (λ (z : Slot). z.interval) (slot_read t i here.low here.high))) found

  pub again-insertable : Insertable ByTicks t before i wait
  again-insertable = insertable ByTicks t i here h.idle.idle (x t i here h.idle.idle).interval before wait at

  -- the words after its steps
  pub again-words : {t₁ t₂ : List ℕ} → t₁ ≡ inserted_words ByTicks t before i wait → t₂ ≡ set t₁ (field_word i 0) (waiting_kind Every)
      → t₂ ≡ written_over (waits_again (read t) i) t
  again-words put store =
      kind-words ByTicks t i here h.idle.idle (x t i here h.idle.idle).interval before wait at (waiting_kind Every) (starts-chained t i here h.idle.idle) put store
      ∙ ap (λ (s : State). written_over s t) (sym (again-starts t i here h.idle.idle))

  pub again_keeps : {t₁ t₂ : List ℕ} → t₁ ≡ inserted_words ByTicks t before i wait → t₂ ≡ set t₁ (field_word i 0) (waiting_kind Every)
      → Holds t₂ (read t₂)
  again_keeps put store =
      next-holds (next-then (next_start o) (λ s. waits_again s i) (again-chained t i here h.idle.idle) (again-length t i here h.idle.idle)
      (again-words put store))
