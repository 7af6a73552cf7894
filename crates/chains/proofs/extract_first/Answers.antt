-- `chains::extract_first` meets its contract: what is not written of `extracted_words` stays as it is. Assumes nothing.
use Rattle.chains.proofs.EditedWords.{first-extracted}
use Rattle.chains.proofs.extract_first.Goals as goal

pub returns : goal.returns
returns c = (
  first-extracted c.args.chain c.args.t.now c.args.i c.requires c.get-n.ensures c.put_next.ensures c.put_previous.ensures c.put_links.ensures,
  c.get-n.ensures,
)
