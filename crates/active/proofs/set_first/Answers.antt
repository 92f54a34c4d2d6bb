-- `active::set_first` meets its contract.
use Rattle.active.specs.Active.{set_first}
use borrow.Author.Rules.{rules}
use Rattle.active.proofs.set_first.Goals as goal

pub returns : goal.returns
unfolding set_first
returns c = search rules
