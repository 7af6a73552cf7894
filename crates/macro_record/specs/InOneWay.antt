-- That a record stands in a macro is a fact that holds in one way only, as a field of a type needs it. Assumes nothing.
use Rattle.std.specs.Prelude.{ℕ, List}
use Rattle.std.specs.Coded.{le_prop, Coded-set, coded_ℕ, coded_bool, coded_list}
use Rattle.macro_record.specs.declared.Runner.{Runner}
use Rattle.macro_record.specs.Parts.{Standing}

pub Standing-prop : (ws : List ℕ) (r : Runner) (blocks : List ℕ) → IsProp (Standing ws r blocks)
Standing-prop ws r blocks = Prim.hlevel (le_prop, Coded-set coded_bool, Coded-set (coded_list coded_ℕ))
