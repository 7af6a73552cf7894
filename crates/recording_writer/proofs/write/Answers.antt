-- `recording_writer::write` meets its contract: the words go into the buffer one section behind another. Assumes nothing.
use Rattle.std.proofs.Common.{sym, arith}
use Rattle.recording_writer.proofs.Files.{fitting-facts, file-length, refuses, too_short, writes, stored}
use Rattle.recording_writer.proofs.write.Goals as goal

pub returns-then-not-is_recording : goal.returns-then-not-is_recording
returns-then-not-is_recording c =
    let a = c.args in
    refuses a.slots a.rate a.calls.now a.statuses.now a.buffer.now (sym c.if-not-is_recording.ensures)

pub returns-then-buffer-size : goal.returns-then-buffer-size
returns-then-buffer-size c =
    let a = c.args in
    let fit = sym c.if-not-is_recording.ensures in
    let l = file-length a.slots a.rate a.calls.now a.statuses.now (fitting-facts a.slots a.rate a.calls.now a.statuses.now fit).eleven in
    too_short a.slots a.rate a.calls.now a.statuses.now a.buffer.now fit (omega arith)

pub returns : goal.returns
returns c =
    let a = c.args in
    let fit = sym c.if-not-is_recording.ensures in
    let eleven = (fitting-facts a.slots a.rate a.calls.now a.statuses.now fit).eleven in
    let l = file-length a.slots a.rate a.calls.now a.statuses.now eleven in
    let fills = stored a.slots a.rate a.calls.now a.statuses.now a.buffer.now _ _ _ _ eleven (omega arith) c.put_words.ensures c.put_words-2.ensures
    c.put_words-3.ensures c.put_words-4.ensures in
    writes a.slots a.rate a.calls.now a.statuses.now a.buffer.now _ _ fit (omega arith) (omega arith) fills
