-- The first 48,024 bytes decide what comes of a replay, so that a program need read no more. Assumes nothing.
use mathlib.Core.Path.{◌≡◌, sym, ap, ◌∙◌}
use Prim.Native.Nat.{ℕ, ◌+◌, ◌*◌, ◌<◌}
use native.Mathlib.Omega.{arith}
use mathlib.Core.Bool.{Bool, cond, not}
use mathlib.Core.Option.{some}
use mathlib.Core.List.{List, [], ◌∷◌}
use lib.ListN.{length, take}
use lib.Seq.{take_all}
use lib.Dec.{ltb, leb, eqb}
use borrow.Author.Tests.{leb-true, leb-false, ne_eqb}
use Rattle.model.specs.declared.Status.TheVariants.{InvalidNumber, InvalidSize, ListTooShort}
use Rattle.model.specs.Status.{Refusal, when, first_of}
use Rattle.laws.proofs.ListLaws.{cases}
use Rattle.recording.specs.Format.{words_of, Read, reading}
use Rattle.recording.proofs.TakenFacts.{took, held}
use Rattle.recording.proofs.LongInput.{front-decides}
use Rattle.playback.specs.Replay.{Replay, replay_of, played, replaying}

module _ (table list : List ℕ) where
  -- the reader's refusal, passed on
  abbrev passed_on : Read → Replay
  passed_on r = replay_of 10 (some r.position) table list

  not-played : (bytes : List ℕ) → ((reading bytes).status ≡ 0 → ⊥) → replaying bytes table list ≡ passed_on (reading bytes)
  unfolding replaying
  not-played bytes h = ap (λ (b : Bool). from (first_of (when InvalidNumber (not b) ∷ rules))) (ne_eqb (reading bytes).status 0 h)
    where
      rules : List Refusal
      rules = when InvalidSize (ltb (length table) (10 + 8 * (reading bytes).slots)) ∷ when ListTooShort (ltb (length list) (3 * (reading bytes).slots)) ∷ []

      from : ℕ → Replay
      from status = cond (eqb status 0) (played (reading bytes) (words_of bytes) table list) (replay_of status (some (reading bytes).position) table list)

  pub long-input : (bytes : List ℕ) → replaying (take 48024 bytes) table list ≡ replaying bytes table list
  long-input bytes =
      cases (leb (length bytes) 48024)
      (λ t. ap (λ (b : List ℕ). replaying b table list) (take_all 48024 bytes (leb-true (length bytes) 48024 t)))
      (λ t. let n = too_long (leb-false (length bytes) 48024 t) in
      let same = front-decides bytes in
      not-played (take 48024 bytes) (λ e. n (sym (ap (λ (r : Read). r.status) same) ∙ e)) ∙ ap passed_on same ∙ sym (not-played bytes n))
    where
      too_long : 48024 < length bytes → (reading bytes).status ≡ 0 → ⊥
      too_long h e = let t = took (length bytes) (words_of bytes) e in let s = t.sized in let f = (held bytes e).few in omega arith
