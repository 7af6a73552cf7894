-- `replay::replay_any` meets its contract: its table and its list are long enough for any recording. Assumes nothing.
use mathlib.Core.Path.{◌≡◌, ap, ◌∙◌}
use mathlib.Core.Logic.{◌⊎◌, inl, inr}
use Prim.Native.Nat.{ℕ}
use lib.ListN.{replicate, length-replicate}
use native.Mathlib.Omega.{arith}
use Rattle.playback.specs.Replay.{Replay}
use Rattle.playback.proofs.Bounds.{long-enough}
use Rattle.replay.proofs.replay_any.Goals as goal

of-same : {m n : ℕ} → m ≡ n → (n ≡ 0) ⊎ (n ≡ 10) → (m ≡ 0) ⊎ (m ≡ 10)
of-same e (inl z) = inl (e ∙ z)
of-same e (inr z) = inr (e ∙ z)

pub returns : goal.returns
returns c =
    let table = length-replicate {A = ℕ} 2050 0 in
    let list = length-replicate {A = ℕ} 765 0 in
    of-same (ap (λ (r : Replay). r.status) c.replay.ensures)
    (long-enough c.args.bytes.now (replicate 2050 0) (replicate 765 0) (omega arith) (omega arith))
