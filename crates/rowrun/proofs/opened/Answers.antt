-- `rowrun::opened` meets its contract: the limit is 2^63.
use borrow.Author.Rules.{rules}
use Rattle.reader.specs.Reader.{most_bytes}
use Rattle.rowrun.proofs.opened.Goals as goal

pub returns : goal.returns
unfolding most_bytes
returns c = search rules
