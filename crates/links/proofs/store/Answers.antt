-- `links::store` meets its contract: the words that it writes are just those that change with the slot. Assumes nothing.
use Rattle.links.proofs.Storing.{store_words}
use Rattle.links.proofs.store.Goals as goal

pub returns : goal.returns
returns c =
    let a = c.args in
    rw (c.put_timer.ensures, c.put.ensures) (
    store_words a.t.now a.i (record { kind = a.kind; name = a.name; interval = 0; routine = 0; user_data = 0 }) c.requires)
