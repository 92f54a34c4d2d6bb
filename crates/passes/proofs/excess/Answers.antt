-- `passes::excess` meets its contract.
use Rattle.rows.specs.Constants.{eps_rounding}
use Rattle.passes.specs.Passes.{excess}
use Rattle.passes.proofs.excess.Goals as goal

pub returns : goal.returns
unfolding eps_rounding excess
returns c = rw (c.max.ensures, c.weight.ensures, c.residual.ensures)
