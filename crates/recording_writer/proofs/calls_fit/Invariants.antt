-- `recording_writer::calls_fit` meets its contract: the calls before those that are left are right. Assumes nothing.
use Rattle.std.proofs.Common.{◌≡◌, ◌+◌, ◌-◌, ◌*◌, ◌/◌, ◌≤◌, length}
use Rattle.std.specs.Slice.Iter.{chunks_exact_rest, chunks_exact_size}
use Rattle.recording.specs.Format.{calls_rules, right}
use Rattle.recording_writer.proofs.calls_fit.Given as goal

abbrev pub invariant-loop-call : goal.invariant-loop-call
invariant-loop-call l =
    let rest = chunks_exact_rest l.call-iterator in
    (goal.iterator-loop-call).can_next l.call-iterator × (goal.iterator-loop-call).is_finite l.call-iterator
    × (chunks_exact_size l.call-iterator ≡ 11) × (length rest / 11 ≤ length l.calls / 11)
    × (right (calls_rules (length l.calls / 11) l.calls) l.calls ≡ 11 * (length l.calls / 11 - length rest / 11) + right (calls_rules (length rest / 11) rest) rest)
