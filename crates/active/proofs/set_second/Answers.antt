-- `active::set_second` meets its contract.
use Rattle.active.specs.Active.{set_second}
use borrow.Author.Rules.{rules}
use Rattle.active.proofs.set_second.Goals as goal

pub returns : goal.returns
unfolding set_second
returns c = search rules
