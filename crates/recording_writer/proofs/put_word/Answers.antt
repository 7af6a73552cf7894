-- `recording_writer::put_word` meets its contract: four bytes are stored in one go. Assumes nothing.
use Rattle.std.proofs.Common.{ℕ, ◌≡◌, ◌+◌, ◌-◌, List, ◌++◌, take, drop, drop-drop, append_assoc, sym, ap, ◌∙◌, ◌∷◌, [], arith}
use lib.Seq.{sets-eq}
use Rattle.recording.specs.Format.{bytes_of}
use Rattle.recording_writer.proofs.Stores.{le-bytes}
use Rattle.recording_writer.proofs.put_word.Goals as goal

pub returns : goal.returns
unfolding bytes_of
returns c =
    let a = c.args in
    let b = a.buffer.now in
    let bs = bytes_of (a.w ∷ []) in
    let same = c.copy_from_slice.ensures.after ∙ c.to_le_bytes.ensures ∙ le-bytes a.w c.ranges.w.fits in
    let four : a.at + 4 - a.at ≡ 4 = omega arith in
    (λ j. take a.at b ++ (same j ++ drop (four j) (drop a.at b))) ∙ ap (λ (l : List ℕ). take a.at b ++ (bs ++ l)) (drop-drop 4 a.at b)
    ∙ sym (append_assoc (take a.at b) bs (drop (a.at + 4) b)) ∙ sym (sets-eq bs b a.at (omega arith))
