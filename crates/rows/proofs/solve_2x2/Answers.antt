-- `rows::solve_2x2` meets its contract. Assumes nothing.
use Rattle.float.specs.Operators.{when◌then◌else◌}
use Rattle.float.specs.Float.{one}
use Rattle.rows.specs.Rows.{determinant, crossing}
use Rattle.rows.proofs.solve_2x2.Goals as goal

pub returns-then-singular : goal.returns-then-singular
unfolding crossing when◌then◌else◌
returns-then-singular c = rw (← c.singular.ensures, c.if-singular.true)

pub returns : goal.returns
unfolding crossing determinant one when◌then◌else◌
returns c = rw (← c.singular.ensures, c.if-singular.false, ← c.settled-x.ensures, ← c.settled-y.ensures)
