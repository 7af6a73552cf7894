-- `slots::find`: a slot that is sought ends the search, and another leaves it to those from the next slot on.
use Rattle.std.proofs.Common.{◌∙◌, sym, arith}
use Rattle.laws.proofs.SoundHolds.{sound-header}
use Rattle.slots.proofs.Laws.{slot-some, slot-none, find-here, find-on, find_none}
use Rattle.slots.proofs.Sound.find.Goals as goal

pub get-requires : goal.get-requires
get-requires c = omega (arith, sound-header c.args.self.words.now c.args.self.is_sound)

pub returns-then-get-v : goal.returns-then-get-v
returns-then-get-v c = slot-some _ _ (sym (c.loop-i.invariant.1 ∙ find-here _ _ _ _ _ (omega arith) (sym c.get.ensures ∙ c.if-get-v.true))) c.loop-i.invariant.0

pub overflow_add-i : goal.overflow_add-i
overflow_add-i c = omega (arith, sound-header c.args.self.words.now c.args.self.is_sound)

pub loop-i-preserved : goal.loop-i-preserved
loop-i-preserved c = (omega (arith, c.loop-i.invariant.0), c.loop-i.invariant.1 ∙ find-on _ _ _ _ _ (omega arith) (λ e. c.if-get-v.false (c.get.ensures ∙ e)))

pub returns : goal.returns
returns c = slot-none _ (c.loop-i.invariant.1 ∙ find_none _ _ _ _ _ (omega arith))
