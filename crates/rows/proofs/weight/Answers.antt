-- `rows::weight` meets its contract.
use Rattle.rows.specs.Rows.{weight}
use Rattle.rows.proofs.weight.Goals as goal

pub returns : goal.returns
unfolding weight
returns c = simp (← c.abs.ensures, ← c.abs-2.ensures, ← c.abs-3.ensures)
