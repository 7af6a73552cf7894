-- `server::open_server` meets its contract: the rules are tried in their order. Assumes nothing.
use mathlib.Core.Path.{refl}
use native.Mathlib.Omega.{arith}
use Rattle.std.proofs.lemmas.Result.{err_from_is_err_and}
use Rattle.laws.proofs.SoundHolds.{sound-header}
use Rattle.server.proofs.Opened.{no-party}
use Rattle.server.proofs.open_server.Goals as goal

pub returns-in_err-open_party : goal.returns-in_err-open_party
returns-in_err-open_party c =
    let p = err_from_is_err_and c.from_residual.result c.from_residual.ensures.1 in rw (p.1, p.2) (no-party c.in_err-open_party.ensures refl)

pub bounds-table-8 : goal.bounds-table-8
bounds-table-8 c = omega (arith, sound-header c.args.table.now (c.in_ok-open_party.ensures.holds _ refl).ok)
