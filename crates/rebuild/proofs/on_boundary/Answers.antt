-- `rebuild::on_boundary` meets its contract.
use Rattle.rebuild.specs.Supports.{on_boundary}
use Rattle.rebuild.proofs.on_boundary.Goals as goal

pub returns : goal.returns
unfolding on_boundary
returns c = simp (← c.residual.ensures, ← c.abs.ensures)
