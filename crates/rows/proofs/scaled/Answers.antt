-- `rows::scaled` meets its contract. Assumes nothing.
use Rattle.float.specs.Operators.{when◌then◌else◌}
use Rattle.float.specs.Float.{zero, one}
use Rattle.rows.specs.Rows.{zeros, normalized_by}
use Rattle.rows.proofs.scaled.Goals as goal

pub returns-then-is_finite : goal.returns-then-is_finite
unfolding normalized_by zero one when◌then◌else◌
returns-then-is_finite c =
    rw (
      c.if-norm.true,
      ← c.is_finite.ensures,
      c.if-is_finite.true,
      ← c.settled-a.ensures,
      ← c.settled-b.ensures,
      ← c.settled-c.ensures,
    )

pub returns-else-is_finite : goal.returns-else-is_finite
unfolding normalized_by zeros zero when◌then◌else◌
returns-else-is_finite c = simp (c.if-norm.true, ← c.is_finite.ensures, c.if-is_finite.false)

pub returns-else-norm : goal.returns-else-norm
unfolding normalized_by zeros zero when◌then◌else◌
returns-else-norm c = rw c.if-norm.false
