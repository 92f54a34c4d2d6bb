-- `active::no_rows` meets its contract.
use Rattle.active.specs.Active.{no_rows}
use borrow.Author.Rules.{rules}
use Rattle.active.proofs.no_rows.Goals as goal

pub returns : goal.returns
unfolding no_rows
returns c = search rules
