-- `solve::active_rows` meets its contract.
use Rattle.solve.specs.Solve.{active_rows}
use Rattle.solve.proofs.active_rows.Goals as goal

pub returns-in-None : goal.returns-in-None
unfolding active_rows
returns-in-None c = rw c.in-None.is c.no_rows.ensures

pub returns-in-Some : goal.returns-in-Some
unfolding active_rows
returns-in-Some c = rw (c.fresh.ensures, c.in-Some.is)
