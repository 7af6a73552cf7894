-- `recording::numbers_end` meets its contract: each way out is the first of four tests that fails, or past them. Assumes nothing.
use Rattle.std.proofs.Common.{sym}
use Rattle.recording.proofs.Reach.{numbers-0, numbers-1, numbers-2, numbers-3, numbers-4}
use Rattle.recording.specs.Format.{words_of}
use Rattle.recording.proofs.numbers_end.Goals as goal

pub returns-then-not-is_right : goal.returns-then-not-is_right
returns-then-not-is_right c = numbers-0 (words_of c.args.bytes.now) (sym c.if-not-is_right.ensures)

pub returns-then-not-is_right-2 : goal.returns-then-not-is_right-2
returns-then-not-is_right-2 c = numbers-1 (words_of c.args.bytes.now) (sym c.if-not-is_right.ensures) (sym c.if-not-is_right-2.ensures)

pub returns-then-not-is_right-3 : goal.returns-then-not-is_right-3
returns-then-not-is_right-3 c =
    numbers-2 (words_of c.args.bytes.now) (sym c.if-not-is_right.ensures) (sym c.if-not-is_right-2.ensures) (sym c.if-not-is_right-3.ensures)

pub returns-then-not-is_right-4 : goal.returns-then-not-is_right-4
returns-then-not-is_right-4 c =
    numbers-3 (words_of c.args.bytes.now) (sym c.if-not-is_right.ensures) (sym c.if-not-is_right-2.ensures) (sym c.if-not-is_right-3.ensures)
    (sym c.if-not-is_right-4.ensures)

pub returns : goal.returns
returns c =
    numbers-4 (words_of c.args.bytes.now) (sym c.if-not-is_right.ensures) (sym c.if-not-is_right-2.ensures) (sym c.if-not-is_right-3.ensures)
    (sym c.if-not-is_right-4.ensures)
