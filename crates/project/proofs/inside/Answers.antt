-- `project::inside` meets its contract: there is no middle where either end is not finite.
use Rattle.float.specs.Operators.{when◌then◌else◌}
use Rattle.rows.specs.Constants.{half}
use Rattle.project.specs.Project.{middle, attempts, inside}
use Rattle.project.proofs.inside.Goals.{else-is_finite-via-then-is_finite+else-is_finite-2, else-is_finite-via-else-is_finite}
use Rattle.project.proofs.inside.Goals as goal

pub returns-then-is_finite-2 : goal.returns-then-is_finite-2
unfolding inside attempts middle half when◌then◌else◌
returns-then-is_finite-2 c =
    rw (← c.max.ensures, ← c.min-moved.ensures, ← c.is_finite.ensures)
    (rw (c.if-is_finite.true, ← c.is_finite-then-is_finite.ensures, c.if-is_finite-2.true) c.first_that_works.ensures)

pub returns : goal.returns
unfolding inside attempts middle when◌then◌else◌
returns c =
    rw (← c.max.ensures, ← c.min-moved.ensures, ← c.is_finite.ensures)
    (elim c.else-is_finite.branch [
      | else-is_finite-via-then-is_finite+else-is_finite-2 w ↦
          rw (w.if-is_finite.true, ← w.is_finite-then-is_finite.ensures, w.if-is_finite-2.false) c.first_that_works-2.ensures
      | else-is_finite-via-else-is_finite w ↦ rw w.if-is_finite.false c.first_that_works-2.ensures
    ])
