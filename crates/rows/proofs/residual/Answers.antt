-- `rows::residual` meets its contract. Assumes nothing.
use borrow.Author.Rules.{rules}
use Rattle.rows.specs.Rows.{residual}
use Rattle.rows.proofs.residual.Goals as goal

pub returns : goal.returns
unfolding residual
returns c = search rules
