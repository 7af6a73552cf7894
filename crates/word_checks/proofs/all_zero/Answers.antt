-- `word_checks::all_zero` meets its contract: no bit of three numbers is set just where all of them are 0. Assumes nothing.
use Rattle.word_checks.proofs.BooleanTests.{or-zero}
use Rattle.word_checks.proofs.all_zero.Goals as goal

pub returns : goal.returns
returns c = or-zero c.args.a c.args.b c.args.c
