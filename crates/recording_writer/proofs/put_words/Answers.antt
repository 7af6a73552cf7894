-- `recording_writer::put_words` meets its contract: after i turns the first i words are stored. Assumes nothing.
use Prim.Native.Nat.{ℕ, ◌+◌, ◌*◌}
use lib.ListN.{length, get_or, take}
use lib.Seq.{sets, length-sets, length-take-le, take-suc}
use mathlib.Core.List.{List, [], ◌∷◌}
use mathlib.Core.Path.{◌≡◌, ap, ◌∙◌, sym}
use native.Mathlib.Numerals.{add-one}
use native.Mathlib.Omega.{arith}
use Rattle.recording.specs.Format.{bytes_of}
use Rattle.recording_writer.proofs.Stores.{stored_on, stored-none}
use Rattle.recording_writer.proofs.put_words.Goals as goal
use Rattle.recording_writer.proofs.put_words.Goals.{At-loop-i}

long : (c : At-loop-i) → length c.loop-i.buffer ≡ length c.args.buffer.now
long c =
    let a = c.args in
    ap length c.loop-i.invariant ∙ length-sets a.buffer.now a.at (bytes_of (take c.loop-i.i a.ws.now))

pub loop-i-init : goal.loop-i-init
loop-i-init c = stored-none _ _

pub loop-i-preserved : goal.loop-i-preserved
loop-i-preserved c = let a = c.args in
    let i = c.loop-i.i in
    let ws = a.ws.now in
    let n = length-take-le i ws (omega arith) in
    stored_on a.buffer.now _ _ a.at (a.at + 4 * i) (take i ws) (get_or ws i 0 ∷ []) c.loop-i.invariant c.put_word.ensures (omega arith)
    ∙ ap (λ (xs : List ℕ). sets a.buffer.now a.at (bytes_of xs)) (sym (take-suc ws i 0 (omega arith)) ∙ ap (λ (m : ℕ). take m ws) (sym (add-one i)))
