-- `project::works` meets its contract.
use mathlib.Core.Path.{sym}
use Rattle.float.specs.Operators.{when◌then◌else◌}
use Rattle.readings.proofs.Laws.{within-pure}
use Rattle.project.specs.Project.{works}
use Rattle.project.proofs.works.Goals as goal

pub returns-then-is_finite : goal.returns-then-is_finite
unfolding works when◌then◌else◌
returns-then-is_finite c = rw (← c.is_finite.ensures, c.if-is_finite.true) c.all_met.ensures

pub returns : goal.returns
unfolding works when◌then◌else◌
returns c = rw (← c.is_finite.ensures, c.if-is_finite.false) (sym (within-pure _ _))
