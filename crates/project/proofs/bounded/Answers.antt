-- `project::bounded` meets its contract.
use Rattle.float.specs.Operators.{when◌then◌else◌}
use Rattle.float.specs.Float.{zero}
use Rattle.project.specs.Project.{bounded}
use Rattle.project.proofs.bounded.Goals as goal

pub returns-then-a : goal.returns-then-a
unfolding bounded when◌then◌else◌ zero
returns-then-a c = rw (c.if-a.true, c.min.ensures)

pub returns-then-a-2 : goal.returns-then-a-2
unfolding bounded when◌then◌else◌ zero
returns-then-a-2 c = rw (c.if-a.false, c.if-a-2.true, c.max.ensures)

pub returns-then-rhs : goal.returns-then-rhs
unfolding bounded when◌then◌else◌ zero
returns-then-rhs c = rw (c.if-a.false, c.if-a-2.false, c.if-rhs.true)

pub returns : goal.returns
unfolding bounded when◌then◌else◌ zero
returns c = rw (c.if-a.false, c.if-a-2.false, c.if-rhs.false)
