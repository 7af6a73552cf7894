-- `word_checks::all_seven_zero` meets its contract: no bit of seven numbers is set just where all of them are 0. Assumes nothing.
use Rattle.word_checks.proofs.BooleanTests.{or-zeros}
use Rattle.word_checks.proofs.all_seven_zero.Goals as goal

pub returns : goal.returns
returns c = or-zeros c.args.x c.args.a c.args.b c.args.c c.args.d c.args.e c.args.f
