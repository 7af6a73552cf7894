-- `chains::put_links` meets its contract: its three stores in order. Assumes nothing.
use Rattle.chains.specs.EditedWords.{links_put}
use Rattle.chains.proofs.put_links.Goals as goal

pub returns : goal.returns
unfolding links_put
returns c = cc
