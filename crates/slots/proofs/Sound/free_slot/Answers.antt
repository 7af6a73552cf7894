-- `slots::free_slot`: the search over the words finds its lowest slot of kind 0.
use Rattle.std.proofs.Common.{ap, ◌∙◌, sym}
use Rattle.slots.specs.Search.{some_slot}
use Rattle.slots.proofs.Laws.{free-found}
use Rattle.slots.proofs.Sound.free_slot.Goals as goal

pub returns : goal.returns
returns c = c.find_own.ensures ∙ ap some_slot (sym (free-found c.args.self.words.now c.args.self.is_sound c.args.party c.requires))
