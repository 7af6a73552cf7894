-- The kinds of steps by the numbers that document 02, item 11, gives them. Assumes nothing: these are definitions.
use Rattle.std.specs.Prelude.{ℕ}
use Rattle.macro_steps.specs.declared.StepKind.{StepKind}
use Rattle.macro_steps.specs.declared.StepKind.TheVariants.{NoStep, Arm, Cancel, Wait, Check, Repeat, End, Sign}

-- "kinds 1 to 7: arm .., cancel, wait .., check, repeat .., end, sign"; 0 where there is no step
abbrev pub number_of : StepKind → ℕ
number_of NoStep = 0
number_of Arm = 1
number_of Cancel = 2
number_of Wait = 3
number_of Check = 4
number_of Repeat = 5
number_of End = 6
number_of Sign = 7
