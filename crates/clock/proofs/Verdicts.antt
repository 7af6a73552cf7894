-- What the check's verdict says: the table is not sound; or it is, and its queue ends at that slot. Assumes nothing.
use mathlib.Core.Path.{◌≡◌, refl, sym, ap, ◌∙◌}
use Prim.Native.Nat.{ℕ}
use mathlib.Core.Bool.{Bool, true, false, cond, not}
use mathlib.Core.List.{List, [], ◌∷◌}
use Rattle.model.specs.State.{Link}
use Rattle.model.specs.Words.{read}
use Rattle.model.specs.Sound.{sound}
use Rattle.laws.proofs.ListLaws.{cases}
use Rattle.links.specs.Places.{last_slot}
use Rattle.firing.specs.Lists.{EndsAt}
use Rattle.server_check.specs.LastSlots.{last_after, last_queued}
use Rattle.std.specs.Prelude.{Option, Some, None}
use Rattle.soundness.specs.Verdicts.{verdict}

abbrev says_sound : Option ℕ → Bool
says_sound None = false
says_sound (Some n) = true

abbrev says_end : Option ℕ → ℕ
says_end None = 0
says_end (Some n) = n

says-sound : (t : List ℕ) → says_sound (verdict t) ≡ sound t
says-sound t = cases (sound t) (λ e. rw e) (λ e. rw e)

same-last : (p : ℕ) (l : List Link) → last_after p l ≡ last_slot p l
same-last p [] = refl
same-last p (w ∷ ws) = same-last w.slot ws

module _ (t : List ℕ) {r : Option ℕ} (e : r ≡ verdict t) where
  pub says-not : r ≡ None → not (sound t) ≡ true
  says-not is = ap not (sym (ap says_sound (sym is ∙ e) ∙ says-sound t))

  module _ {n : ℕ} (is : r ≡ Some n) where
    pub says-ok : sound t ≡ true
    says-ok = sym (ap says_sound (sym is ∙ e) ∙ says-sound t)

    pub says-end : EndsAt t n
    says-end =
        ap says_end (sym is ∙ e ∙ ap (λ (b : Bool). cond b (Some (last_queued t)) None) says-ok) ∙ same-last 0 (read t).queue
