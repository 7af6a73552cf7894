use Rattle.std.proofs.Common.{◌≡◌, ◌+◌, ◌*◌}
use Rattle.macro_session.proofs.put_macro.Given as goal

abbrev pub invariant-loop-step : goal.invariant-loop-step
invariant-loop-step _ l = l.end ≡ l.at + 2 + 5 * l.step-index
