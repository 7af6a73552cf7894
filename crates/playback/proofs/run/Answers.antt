-- `playback::run` meets its contract: the table is the one that the lay out left, and the list's front is lent to the calls. Assumes nothing.
use Prim.Native.Nat.{ℕ, ◌*◌}
use lib.ListN.{take, drop}
use lib.Seq.{length-take-le}
use mathlib.Core.List.{List, ◌++◌}
use mathlib.Core.Path.{sym, ap, ◌∙◌}
use native.Mathlib.Omega.{arith}
use Rattle.model.specs.Outcome.{Outcome}
use Rattle.playback.proofs.WaysOut.{short-table, short-list, plays-through}
use Rattle.playback.specs.Replay.{Replay, replay_of, played_from}
use Rattle.recording.proofs.TakenFacts.{status-taken, numbers-taken}
use Rattle.recording.specs.Format.{words_of, calls_in, statuses_in}
use Rattle.playback.proofs.run.Goals as goal

pub returns-then-table-slots : goal.returns-then-table-slots
returns-then-table-slots c = short-table c.args.bytes.now c.args.table.now c.args.list.now c.args.recorded c.requires c.if-table-slots.true

pub returns-then-list-lent : goal.returns-then-list-lent
returns-then-list-lent c = short-list c.args.bytes.now c.args.table.now c.args.list.now c.args.recorded c.requires c.if-table-slots.false c.if-list-lent.true

pub slice_bounds-play_all-end-2 : goal.slice_bounds-play_all-end-2
slice_bounds-play_all-end-2 c = let a = c.args in sym (length-take-le (3 * a.recorded.slots) a.list.now (omega arith))

pub play_all-requires : goal.play_all-requires
play_all-requires c = let b = c.args.bytes.now in
    (status-taken b c.args.recorded c.requires, (numbers-taken b c.args.recorded c.requires).calls_is)

pub returns : goal.returns
returns c = let a = c.args in
    let ws = words_of a.bytes.now in
    let lent = 3 * a.recorded.slots in
    let whole : Replay → Replay = λ r. replay_of r.status r.place r.table (r.list ++ drop lent a.list.now) in
    let laid = ap (λ (o : Outcome). o.table) c.lay_out.ensures in
    ap whole c.play_all.ensures
    ∙ ap (λ (t : List ℕ). whole (played_from 0 t (take lent a.list.now) (calls_in ws) (statuses_in ws))) laid
    ∙ plays-through a.bytes.now a.table.now a.list.now a.recorded c.requires (omega arith) (omega arith)
