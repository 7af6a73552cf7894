-- `server::initiate_server` meets its contract: word 8 becomes 1 where it was not. Assumes nothing.
use mathlib.Core.List.{[], ◌∷◌}
use mathlib.Core.Path.{refl, sym}
use native.Mathlib.Omega.{arith}
use Rattle.model.specs.declared.Status.TheVariants.{IncorrectState, NotSound}
use Rattle.laws.proofs.SoundHolds.{sound-header}
use Rattle.answers.proofs.Replies.{tested, not_same, refuses, done}
use Rattle.server.proofs.Serving.{server-up, server-down, initiated-is}
use Rattle.server.proofs.initiate_server.Goals as goal

pub returns-then-not-is_sound : goal.returns-then-not-is_sound
returns-then-not-is_sound c = refuses _ _ NotSound 0 tt (not_same c.if-not-is_sound.ensures refl) refl

pub bounds-table-8 : goal.bounds-table-8
bounds-table-8 c = let h = sound-header c.args.table.now (sym c.if-not-is_sound.ensures) in omega arith

pub returns-then-table-eq1 : goal.returns-then-table-eq1
returns-then-table-eq1 c =
    refuses _ _ IncorrectState 1 ((tested c.if-not-is_sound.ensures refl).rule, tt) (server-up c.args.table.now c.if-table-eq1.true) refl

pub bounds-table-8-2 : goal.bounds-table-8-2
bounds-table-8-2 c = let h = sound-header c.args.table.now (sym c.if-not-is_sound.ensures) in omega arith

pub returns : goal.returns
returns c =
    let t = c.args.table.now in
    let sure = tested c.if-not-is_sound.ensures refl in
    done _ _ (0 ∷ []) _ [] (sure.rule, (server-down t c.if-table-eq1.false, tt)) refl (initiated-is t sure.ok) refl
