-- `server::serve` meets its contract: the rules are tried in their order, and the party's first in the queue, if it has one, is handed out. Assumes
-- nothing.
use mathlib.Core.Bool.{not}
use mathlib.Core.List.{[], ◌∷◌}
use mathlib.Core.Path.{refl, sym, ap}
use native.Mathlib.Omega.{arith}
use Rattle.std.proofs.Common.{rules}
use borrow.Author.Tests.{lt-ltb, le-ltb}
use Rattle.model.specs.declared.Status.TheVariants.{InvalidId, IncorrectState, NotSound, ListTooShort}
use Rattle.laws.proofs.SoundHolds.{sound-header, sound-holds}
use Rattle.answers.proofs.Replies.{tested, not_same, refuses, done}
use Rattle.links.proofs.Restart.{is_slot}
use Rattle.server.proofs.Serving.{server-up, server-down, serve-none, serve-place, serve-some}
use Rattle.server.proofs.serve.Goals as goal

pub returns-then-not-is_sound : goal.returns-then-not-is_sound
returns-then-not-is_sound c = refuses _ _ NotSound 0 tt (not_same c.if-not-is_sound.ensures refl) refl

pub returns-then-served-lt-ENTRY : goal.returns-then-served-lt-ENTRY
returns-then-served-lt-ENTRY c =
    refuses _ _ ListTooShort 1 ((tested c.if-not-is_sound.ensures refl).rule, tt) (lt-ltb _ 3 (omega (arith, c.if-served-lt-ENTRY.true))) refl

pub bounds-table-7 : goal.bounds-table-7
bounds-table-7 c = let h = sound-header c.args.table.now (sym c.if-not-is_sound.ensures) in omega arith

pub returns-then-not-is_party : goal.returns-then-not-is_party
returns-then-not-is_party c =
    refuses _ _ InvalidId 2 ((tested c.if-not-is_sound.ensures refl).rule, (le-ltb _ 3 c.if-served-lt-ENTRY.false, tt))
    (not_same c.if-not-is_party.ensures refl) refl

pub bounds-table-8 : goal.bounds-table-8
bounds-table-8 c = let h = sound-header c.args.table.now (sym c.if-not-is_sound.ensures) in omega arith

pub returns-then-initiated-ne1 : goal.returns-then-initiated-ne1
returns-then-initiated-ne1 c =
    refuses _ _ IncorrectState 3
    ((tested c.if-not-is_sound.ensures refl).rule, (le-ltb _ 3 c.if-served-lt-ENTRY.false, (not_same c.if-not-is_party.ensures refl, tt)))
    (ap not (server-down c.args.table.now c.if-initiated-ne1.true)) refl

pub returns-in_default : goal.returns-in_default
returns-in_default c =
    let t = c.args.table.now in
    let sure = tested c.if-not-is_sound.ensures refl in
    let s = serve-none (sound-holds t sure.ok) _ c.first_queued.ensures c.args.served.now c.in_default.is in
    done _ _ (0 ∷ []) _ _
    (sure.rule, (le-ltb _ 3 c.if-served-lt-ENTRY.false, (not_same c.if-not-is_party.ensures refl, (ap not (server-up t (omega arith)), tt))))
    s.answer s.table s.entries

pub invariant_of-timers : goal.invariant_of-timers
invariant_of-timers c = record { in_order = sound-holds c.args.table.now (sym c.if-not-is_sound.ensures) }

pub hand_out-requires-clause-slot : goal.hand_out-requires-clause-slot
hand_out-requires-clause-slot c =
    is_slot (serve-place (sound-holds c.args.table.now (sym c.if-not-is_sound.ensures)) _ c.first_queued.ensures c.in-Some.is)

pub returns : goal.returns
returns c =
    let t = c.args.table.now in
    let sure = tested c.if-not-is_sound.ensures refl in
    let s =
    serve-some (sound-holds t sure.ok) _ c.first_queued.ensures c.in-Some.is c.args.served.now c.if-served-lt-ENTRY.false (search rules) in
    done _ _ (1 ∷ []) _ _
    (sure.rule, (le-ltb _ 3 c.if-served-lt-ENTRY.false, (not_same c.if-not-is_party.ensures refl, (ap not (server-up t (omega arith)), tt))))
    s.answer s.table s.entries
