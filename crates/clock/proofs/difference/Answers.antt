-- `clock::difference` meets its contract: below 2^63 a number is the same with a sign, and the difference fits. Assumes nothing.
use mir.Syntax.{w64}
use mir.ValLaws.{to_z_pos, to_z-of_z}
use Rattle.clock.proofs.Differences.{difference-fits}
use Rattle.clock.proofs.difference.Goals as goal

pub overflow_sub-result : goal.overflow_sub-result
overflow_sub-result c = rw (to_z_pos w64 _ c.requires.0, to_z_pos w64 _ c.requires.1) (difference-fits _ _ c.requires.0 c.requires.1)

pub returns : goal.returns
returns c = rw (to_z_pos w64 _ c.requires.0, to_z_pos w64 _ c.requires.1) (to_z-of_z w64 _ (difference-fits _ _ c.requires.0 c.requires.1))
