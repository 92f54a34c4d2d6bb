-- `rebuild::together` meets its contract.
use Rattle.float.specs.Operators.{when◌then◌else◌}
use Rattle.rows.specs.Rows.{determinant}
use Rattle.rebuild.specs.Supports.{together}
use Rattle.rebuild.proofs.together.Goals as goal

pub returns-then-singular : goal.returns-then-singular
unfolding together when◌then◌else◌
returns-then-singular c = rw (← c.singular.ensures, c.if-singular.true)

pub returns : goal.returns
unfolding together determinant when◌then◌else◌
returns c = rw (← c.singular.ensures, c.if-singular.false) c.factors.ensures
