-- `macro_record::readiness` meets its contract: the pass, then the counts. Assumes nothing.
use Rattle.std.proofs.Common.{◌≡◌, None, sym, ◌∙◌, arith}
use borrow.Author.Tests.{not-true, not-false}
use Rattle.macro_record.proofs.CountLaws.{not-passed, may-step, may-not}
use Rattle.macro_record.proofs.readiness.Goals as goal

pub returns-in_err-blocks : goal.returns-in_err-blocks
returns-in_err-blocks c =
    let gone : c.from_residual.result ≡ None = grind arith in
    rw gone (not-passed _ _ c.in_err-blocks.ensures)

pub returns-then-not-fit_blocks : goal.returns-then-not-fit_blocks
returns-then-not-fit_blocks c = may-not _ _ c.in_ok-blocks.ensures c.fit_blocks.ensures c.if-not-fit_blocks.true

pub returns : goal.returns
returns c = may-step _ _ c.in_ok-blocks.ensures c.fit_blocks.ensures c.if-not-fit_blocks.false
