-- `slots::slot_called`: the search over the words finds its lowest slot with that name.
use Rattle.std.proofs.Common.{ap, ◌∙◌, sym}
use Rattle.slots.specs.Search.{some_slot}
use Rattle.slots.proofs.Laws.{name-found}
use Rattle.slots.proofs.Sound.slot_called.Goals as goal

pub returns : goal.returns
returns c = c.find_own.ensures ∙ ap some_slot (sym (name-found c.args.self.words.now c.args.self.is_sound c.args.party c.requires c.args.name))
