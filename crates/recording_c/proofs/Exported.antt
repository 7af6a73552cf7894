-- A call's equation holds of what C gets, whose status and answer are those of the call's answer. Assumes nothing.
use mathlib.Core.Path.{◌≡◌, ap, ◌∙◌}
use Prim.Native.Nat.{ℕ}
use mathlib.Core.Option.{Option}
use mathlib.Core.List.{List, [], ◌∷◌}
use lib.ListN.{get_or}
use Rattle.model.specs.declared.Status.{Status}
use Rattle.std.specs.declared.result.Result.{Result}
use Rattle.answers.specs.Answers.{status_of, answer_of}
use Rattle.playback.specs.Replay.{Replay, replay_of}
use Rattle.recording_writer.specs.Writing.{Output, output, output_of}
use Rattle.recording_c.specs.Exports.{place_number, exported, in_c}

pub replays : {s status number : ℕ} {place : Option ℕ} {table list : List ℕ} {r : Replay} → replay_of s place table list ≡ r → status ≡ s
    → number ≡ place_number place → exported status number table list ≡ in_c r
replays {table = table} {list = list} e p q = (λ j. exported (p j) (q j) table list) ∙ ap in_c e

pub writes : (r : Result ℕ Status) {status answer : ℕ} {buffer : List ℕ} {o : Output} → output_of r buffer ≡ o → status ≡ status_of r → answer ∷ [] ≡ answer_of r
    → output status answer buffer ≡ o
writes r {buffer = buffer} e p q = (λ j. output (p j) (get_or (q j) 0 0) buffer) ∙ e
