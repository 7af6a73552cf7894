-- The falling number is ten times the steps left plus how much deeper the repeats may go, and one more for a block than for a step: a block hands each
-- step on from its own place or a later one, and a repeat hands on the block one place further and one deeper. Assumes nothing.
use Rattle.std.proofs.Common.{◌+◌, ◌-◌, ◌*◌}
use Rattle.macro_steps.specs.Steps.{count}
use Rattle.macro_check.specs.Parts.{Checked}
use Rattle.std.specs.Prelude.{Some}
use Rattle.macro_check.proofs.+check_block_check_step.Given as goal

abbrev pub decreases-check_block : goal.decreases-check_block
decreases-check_block l = 10 * (count l.words.now - l.at) + (9 - l.depth)

abbrev pub decreases-check_step : goal.decreases-check_step
decreases-check_step l = 10 * (count l.words.now - l.at) + (8 - l.depth)

abbrev pub invariant-check_block-loop-next : goal.invariant-check_block-loop-next
invariant-check_block-loop-next l = Checked l.at l.at l.depth l.place l.words l.blocks (Some l.next)

abbrev pub decreases-check_block-loop-next : goal.decreases-check_block-loop-next
decreases-check_block-loop-next l = count l.words - l.next
