-- `recorded_timer::play_timer` meets its contract: each arm makes the call of its number. Assumes nothing.
use mathlib.Core.Path.{◌∙◌}
use lib.ListN.{get_or}
use Rattle.model.specs.Calls.{fire_when, server_fire_when}
use Rattle.model.specs.Outcome.{outcome}
use Rattle.recorded_timer.proofs.Steps.{plays, is-number}
use Rattle.recorded_timer.proofs.play_timer.Goals as goal

pub returns-in-Create : goal.returns-in-Create
returns-in-Create c list = plays c.args.table.now list c.args.words 2 (is-number c.of_word.ensures c.in-Create.is) c.create.ensures

pub returns-in-Ident : goal.returns-in-Ident
returns-in-Ident c list = plays c.args.table.now list c.args.words 3 (is-number c.of_word.ensures c.in-Ident.is) c.ident.ensures

pub returns-in-Cancel : goal.returns-in-Cancel
returns-in-Cancel c list = plays c.args.table.now list c.args.words 4 (is-number c.of_word.ensures c.in-Cancel.is) c.cancel.ensures

pub returns-in-Delete : goal.returns-in-Delete
returns-in-Delete c list = plays c.args.table.now list c.args.words 5 (is-number c.of_word.ensures c.in-Delete.is) c.delete.ensures

pub returns-in-Reset : goal.returns-in-Reset
returns-in-Reset c list = plays c.args.table.now list c.args.words 8 (is-number c.of_word.ensures c.in-Reset.is) c.reset.ensures

pub returns-in-TicksLeft : goal.returns-in-TicksLeft
returns-in-TicksLeft c list = plays c.args.table.now list c.args.words 9 (is-number c.of_word.ensures c.in-TicksLeft.is) c.ticks_left.ensures

pub returns-in-FireAfter : goal.returns-in-FireAfter
returns-in-FireAfter c list = plays c.args.table.now list c.args.words 6 (is-number c.of_word.ensures c.in-FireAfter.is) c.fire_after.ensures

pub returns-in-FireEvery : goal.returns-in-FireEvery
returns-in-FireEvery c list = plays c.args.table.now list c.args.words 13 (is-number c.of_word.ensures c.in-FireEvery.is) c.fire_every.ensures

pub returns-in-ServerFireAfter : goal.returns-in-ServerFireAfter
returns-in-ServerFireAfter c list = plays c.args.table.now list c.args.words 16 (is-number c.of_word.ensures c.in-ServerFireAfter.is) c.server_fire_after.ensures

pub returns-in-FireWhen : goal.returns-in-FireWhen
returns-in-FireWhen c list = let t = c.args.table.now in
    let ws = c.args.words in
    let when = c.wall_time_at-when.ensures in
    let made = c.fire_when.ensures ∙ (λ j. outcome t (fire_when 1 (get_or ws 1 0) (when j) (get_or ws 9 0) (get_or ws 10 0))) in
    plays t list ws 7 (is-number c.of_word.ensures c.in-FireWhen.is) made

pub returns-in-ServerFireWhen : goal.returns-in-ServerFireWhen
returns-in-ServerFireWhen c list = let t = c.args.table.now in
    let ws = c.args.words in
    let date = c.wall_time_at-date.ensures in
    let made = c.server_fire_when.ensures ∙ (λ j. outcome t (server_fire_when 1 (get_or ws 1 0) (date j) (get_or ws 9 0) (get_or ws 10 0))) in
    plays t list ws 17 (is-number c.of_word.ensures c.in-ServerFireWhen.is) made
