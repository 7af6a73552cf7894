-- A kind of step is that of its number. Assumes nothing.
use Rattle.std.proofs.Common.{ℕ, zero, suc, ◌≡◌, refl, sym, ap, ◌∙◌}
use Rattle.macro_steps.specs.declared.StepKind.{StepKind}
use Rattle.macro_steps.specs.declared.StepKind.TheVariants.{NoStep, Arm, Cancel, Wait, Check, Repeat, End, Sign}
use Rattle.macro_steps.specs.StepKinds.{number_of}

abbrev of_number : ℕ → StepKind
of_number zero = NoStep
of_number (suc zero) = Arm
of_number (suc (suc zero)) = Cancel
of_number (suc (suc (suc zero))) = Wait
of_number (suc (suc (suc (suc zero)))) = Check
of_number (suc (suc (suc (suc (suc zero))))) = Repeat
of_number (suc (suc (suc (suc (suc (suc zero)))))) = End
of_number (suc (suc (suc (suc (suc (suc (suc n))))))) = Sign

as-it-was : (k : StepKind) → of_number (number_of k) ≡ k
as-it-was NoStep = refl
as-it-was Arm = refl
as-it-was Cancel = refl
as-it-was Wait = refl
as-it-was Check = refl
as-it-was Repeat = refl
as-it-was End = refl
as-it-was Sign = refl

pub same_kind : (k j : StepKind) → number_of k ≡ number_of j → k ≡ j
same_kind k j e = sym (as-it-was k) ∙ ap of_number e ∙ as-it-was j
