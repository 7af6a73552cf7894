-- What a private function promises. A reader need not believe this: no public contract uses it. Assumes nothing: these are definitions.
use Rattle.model.specs.declared.Status.TheVariants.{InvalidNumber}
use Rattle.std.specs.declared.result.Result.TheVariants.{Err}
use Rattle.macro_record.specs.declared.Runner.{Runner}
use Rattle.macros.specs.declared.Stepped.{Stepped}

-- a step that is refused, with the record as it was
abbrev pub refused_as : Runner → Stepped
refused_as r = record { answer = Err InvalidNumber; runner = r }
