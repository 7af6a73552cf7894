-- The table that an accepted call leaves: it holds the state that the call leaves, and is sound. Assumes nothing.
use mathlib.Core.Path.{◌≡◌, sym, ap, ◌∙◌}
use Prim.Native.Nat.{ℕ}
use native.Mathlib.Omega.{arith}
use mathlib.Core.Bool.{true, cond}
use mathlib.Core.List.{List}
use Rattle.model.specs.Status.{first_of}
use Rattle.model.specs.Calls.{Call, lay_out, is_next_due}
use Rattle.model.specs.Directives.{laid_out, refusals, effect}
use Rattle.model.specs.Words.{written_over, read}
use Rattle.model.specs.Sound.{sound}
use Rattle.model.specs.Outcome.{Outcome, status_on, outcome}
use Rattle.laws.proofs.ListLaws.{cases}
use Rattle.laws.proofs.WellFormed.{Holds}
use Rattle.laws.proofs.ReadBack.{read_back, over-holds, written-holds}
use Rattle.laws.proofs.SoundHolds.{sound-holds, sound-well-formed}
use Rattle.laws.proofs.HoldsSound.{well-formed-sound}
use Rattle.laws.proofs.Steps.{chained-laid, length-laid}
use Rattle.laws.proofs.AcceptedCalls.{accepted-facts}
use Rattle.laws.proofs.KeptWellFormed.{laid-well-formed, kept, slots_kept}
use Rattle.laws.proofs.OutcomeLaws.{each-call, next-due-is, status-is, outcome-accepted}

-- ---- a lay out, on any slice

module _ (w : List ℕ) (n t split : ℕ) (e : status_on w (lay_out n t split) ≡ 0) where
  accepted : first_of (refusals w (read w) (lay_out n t split)) ≡ 0
  accepted = sym (status-is w (lay_out n t split)) ∙ e

  laid-holds : Holds (written_over (laid_out n t split) w) (laid_out n t split)
  laid-holds =
      let p = accepted-facts w (read w) (lay_out n t split) accepted in
      written-holds w (laid_out n t split) (chained-laid n t split p.slots-high) (omega (arith, length-laid n t split, p.fits))

  pub laid_table : (outcome w (lay_out n t split)).table ≡ written_over (laid_out n t split) w
  laid_table = ap (λ (x : Outcome). x.table) (outcome-accepted w (lay_out n t split) e)

  pub laid-sound : sound (written_over (laid_out n t split) w) ≡ true
  laid-sound =
      let p = accepted-facts w (read w) (lay_out n t split) accepted in
      well-formed-sound (written_over (laid_out n t split) w) (laid_out n t split) laid-holds
      (laid-well-formed n t split p.parted p.slots-high p.ticks-low p.ticks-high)

  pub laid-read : read (written_over (laid_out n t split) w) ≡ laid_out n t split
  laid-read = read_back (written_over (laid_out n t split) w) (laid_out n t split) laid-holds

-- ---- any call, on a sound table

module _ (t : List ℕ) (ok : sound t ≡ true) where
  pub effect-holds : (c : Call) → status_on t c ≡ 0 → Holds (written_over (effect t (read t) c).state t) (effect t (read t) c).state
  effect-holds = each-call (λ c. status_on t c ≡ 0 → Holds (written_over (effect t (read t) c).state t) (effect t (read t) c).state)
      (λ n k split e. laid-holds t n k split e)
      (λ c other e.
      let formed = kept (read t) (sound-well-formed t ok) t c (sym (status-is t c) ∙ e) in
      over-holds t (read t) (effect t (read t) c).state (sound-holds t ok) formed.chained (slots_kept t (read t) c other))

  module _ (c : Call) (e : status_on t c ≡ 0) where
    pub effect-sound : sound (written_over (effect t (read t) c).state t) ≡ true
    effect-sound =
        well-formed-sound (written_over (effect t (read t) c).state t) (effect t (read t) c).state (effect-holds c e)
        (kept (read t) (sound-well-formed t ok) t c (sym (status-is t c) ∙ e))

    pub effect-read : read (written_over (effect t (read t) c).state t) ≡ (effect t (read t) c).state
    effect-read = read_back (written_over (effect t (read t) c).state t) (effect t (read t) c).state (effect-holds c e)

    -- the table that the call leaves, and the state that it holds
    pub table-left : (outcome t c).table ≡ written_over (effect t (read t) c).state t
    table-left = ap (λ (x : Outcome). x.table) (outcome-accepted t c e) ∙ over-words
      where
        -- next due leaves the words as they are, which on a sound table are those of its state
        over-words : cond (is_next_due c) t (written_over (effect t (read t) c).state t) ≡ written_over (effect t (read t) c).state t
        over-words =
            cases (is_next_due c)
            (λ is. rw is (sym (sound-holds t ok).is ∙ ap (λ (d : Call). written_over (effect t (read t) d).state t) (sym (next-due-is c is))))
            (λ is. rw is)

    pub state-left : read (outcome t c).table ≡ (effect t (read t) c).state
    state-left = ap read table-left ∙ effect-read
