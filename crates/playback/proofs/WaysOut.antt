-- Each way out of the replay in one law: what the reader refuses, a short table, a short list, and what is played. Assumes nothing.
use mathlib.Core.Path.{◌≡◌, refl, sym, ap, ◌∙◌}
use Prim.Native.Nat.{ℕ, ◌+◌, ◌*◌, ◌≤◌, ◌<◌}
use mathlib.Core.Bool.{Bool, true, false, cond}
use mathlib.Core.Option.{some}
use mathlib.Core.List.{List, [], ◌∷◌}
use lib.ListN.{length}
use lib.Dec.{ltb, eqb}
use borrow.Author.Tests.{lt-ltb, le-ltb}
use Rattle.model.specs.declared.Status.TheVariants.{InvalidNumber, InvalidSize, ListTooShort}
use Rattle.model.specs.Status.{when, first_of}
use Rattle.recording.specs.declared.Recording.{Recording}
use Rattle.recording.specs.declared.WrongWord.{WrongWord}
use Rattle.std.specs.Prelude.{Ok, Err}
use Rattle.recording.specs.Format.{words_of, Read, taken_with, reading, given}
use Rattle.playback.specs.Replay.{Replay, replay_of, replay_rules, played, replaying}

module _ (bytes table list : List ℕ) where
  abbrev by-reading : Read → Replay
  by-reading r =
      let status = first_of (replay_rules r table list) in
      cond (eqb status 0) (played r (words_of bytes) table list) (replay_of status (some r.position) table list)

  is : (r : Read) → r ≡ reading bytes → by-reading r ≡ replaying bytes table list
  unfolding replaying
  is r e = ap by-reading e

  pub not_taken : (w : WrongWord) → given (Err w) ≡ reading bytes → replay_of 10 (some w.position) table list ≡ replaying bytes table list
  not_taken w e = is (given (Err w)) e

  module _ (r : Recording) (e : given (Ok r) ≡ reading bytes) where
    -- by the two tests
    by_tests : (b c : Bool) → ltb (length table) (10 + 8 * r.slots) ≡ b → ltb (length list) (3 * r.slots) ≡ c
        → cond b (replay_of 8 (some 0) table list) (cond c (replay_of 101 (some 0) table list) (played (given (Ok r)) (words_of bytes) table list))
        ≡ replaying bytes table list
    by_tests b c p q = by b c ∙ sym (λ j. from (first_of (when InvalidNumber false ∷ when InvalidSize (p j) ∷ when ListTooShort (q j) ∷ []))) ∙ is (given (Ok r)) e
      where
        from : ℕ → Replay
        from status = cond (eqb status 0) (played (given (Ok r)) (words_of bytes) table list) (replay_of status (some 0) table list)

        by : (b c : Bool)
            → cond b (replay_of 8 (some 0) table list) (cond c (replay_of 101 (some 0) table list) (played (given (Ok r)) (words_of bytes) table list))
            ≡ from (first_of (when InvalidNumber false ∷ when InvalidSize b ∷ when ListTooShort c ∷ []))
        by true c = refl
        by false true = refl
        by false false = refl

    pub short-table : length table < 10 + 8 * r.slots → replay_of 8 (some 0) table list ≡ replaying bytes table list
    short-table h = by_tests true (ltb (length list) (3 * r.slots)) (lt-ltb (length table) (10 + 8 * r.slots) h) refl

    pub short-list : 10 + 8 * r.slots ≤ length table → length list < 3 * r.slots → replay_of 101 (some 0) table list ≡ replaying bytes table list
    short-list g h = by_tests false true (le-ltb (length table) (10 + 8 * r.slots) g) (lt-ltb (length list) (3 * r.slots) h)

    pub plays-through : 10 + 8 * r.slots ≤ length table → 3 * r.slots ≤ length list
        → played (taken_with r.slots r.rate r.calls) (words_of bytes) table list ≡ replaying bytes table list
    plays-through g h = by_tests false false (le-ltb (length table) (10 + 8 * r.slots) g) (le-ltb (length list) (3 * r.slots) h)
