-- `recorded_call::play` meets its contract: each arm makes the call of its number. Assumes nothing.
use borrow.Author.Rules.{rules}
use mathlib.Core.Path.{◌∙◌}
use Rattle.model.specs.Calls.{set_clock}
use Rattle.model.specs.Outcome.{outcome}
use Rattle.recorded_timer.proofs.Steps.{plays, plays-lent, with-status, is-number}
use Rattle.recorded_call.proofs.play.Goals as goal

pub returns-in-Tick : goal.returns-in-Tick
returns-in-Tick c = let key = is-number c.of_word.ensures c.in-Tick.is in
    let made = c.tick.ensures in
    let step = plays-lent c.args.table.now c.args.list.now c.args.words 10 key made (search rules) in
    with-status c.status_of.ensures step

pub returns-in-SetClock : goal.returns-in-SetClock
returns-in-SetClock c = let key = is-number c.of_word.ensures c.in-SetClock.is in
    let t = c.args.table.now in
    let list = c.args.list.now in
    let when = c.wall_time_at.ensures in
    let made = c.set_clock.ensures.0 ∙ (λ j. outcome t (set_clock (when j) list)) in
    with-status c.status_of-in-SetClock.ensures (plays-lent t list c.args.words 11 key made (search rules))

pub returns-in-GetClock : goal.returns-in-GetClock
returns-in-GetClock c = let key = is-number c.of_word.ensures c.in-GetClock.is in
    let made = c.get_clock.ensures in
    let step = plays c.args.table.now c.args.list.now c.args.words 12 key made in
    with-status c.status_of-in-GetClock.ensures step

pub returns-in-NextDue : goal.returns-in-NextDue
returns-in-NextDue c = let key = is-number c.of_word.ensures c.in-NextDue.is in
    let made = c.next_due.ensures in
    let step = plays c.args.table.now c.args.list.now c.args.words 14 key made in
    with-status c.status_of-in-NextDue.ensures step

pub returns-in-InitiateServer : goal.returns-in-InitiateServer
returns-in-InitiateServer c = let key = is-number c.of_word.ensures c.in-InitiateServer.is in
    let made = c.initiate_server.ensures in
    let step = plays c.args.table.now c.args.list.now c.args.words 15 key made in
    with-status c.status_of-in-InitiateServer.ensures step

pub returns-in-Serve : goal.returns-in-Serve
returns-in-Serve c = let key = is-number c.of_word.ensures c.in-Serve.is in
    let made = c.serve.ensures in
    let step = plays-lent c.args.table.now c.args.list.now c.args.words 18 key made (search rules) in
    with-status c.status_of-in-Serve.ensures step

pub returns-in-Leap : goal.returns-in-Leap
returns-in-Leap c = let key = is-number c.of_word.ensures c.in-Leap.is in
    let made = c.leap.ensures in
    let step = plays-lent c.args.table.now c.args.list.now c.args.words 19 key made (search rules) in
    with-status c.status_of-in-Leap.ensures step

pub returns-in_default : goal.returns-in_default
returns-in_default c = with-status c.status_of-in_default.ensures (c.play_timer.ensures c.args.list.now)
