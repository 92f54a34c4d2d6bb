-- `project::cut_by` meets its contract.
use Rattle.float.specs.Operators.{when◌then◌else◌}
use Rattle.project.specs.Project.{cut}
use Rattle.project.proofs.cut_by.Goals as goal

pub returns-then-is_finite : goal.returns-then-is_finite
unfolding cut when◌then◌else◌
returns-then-is_finite c =
    rw (← c.finite_row.ensures, c.if-finite_row.true, ← c.fused-rhs.ensures, ← c.is_finite.ensures, c.if-is_finite.true)
    c.bounded.ensures

pub returns-else-is_finite : goal.returns-else-is_finite
unfolding cut when◌then◌else◌
returns-else-is_finite c = rw (← c.finite_row.ensures, c.if-finite_row.true, ← c.fused-rhs.ensures, ← c.is_finite.ensures, c.if-is_finite.false)

pub returns-else-finite_row : goal.returns-else-finite_row
unfolding cut when◌then◌else◌
returns-else-finite_row c = rw (← c.finite_row.ensures, c.if-finite_row.false)
