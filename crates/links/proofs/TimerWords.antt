-- The words of a table after the slot that went into a chain also got its kind, interval, routine and user data. Assumes nothing.
use mathlib.Core.Path.{◌≡◌}
use Prim.Native.Nat.{ℕ}
use native.Mathlib.Omega.{arith}
use mathlib.Core.List.{List}
use lib.ListN.{length, set, length-set}
use Rattle.model.specs.declared.Chain.{Chain}
use Rattle.chains.proofs.EditedWords.{Edit, edit-set}
use Rattle.links.specs.TimerWords.{timer_put}

-- kind, interval, routine and user data of the slot
pub timer-put-edit : {k : Chain} {t u : List ℕ} {p l n q v i : ℕ} {ws : List ℕ} (a b c d : ℕ) → length ws ≡ 8 → Edit k t u p l n q v i ws
    → Edit k t (timer_put u i a b c d) p l n q v i (set (set (set (set ws 0 a) 2 b) 4 c) 5 d)
unfolding timer_put
timer-put-edit {ws = ws} a b c d e h =
    let l0 = length-set ws 0 a in
    let l2 = length-set (set ws 0 a) 2 b in
    let l4 = length-set (set (set ws 0 a) 2 b) 4 c in
    edit-set 5 d (omega arith) (omega arith) (edit-set 4 c (omega arith) (omega arith)
    (edit-set 2 b (omega arith) (omega arith) (edit-set 0 a (omega arith) (omega arith) h)))
