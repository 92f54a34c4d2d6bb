-- `rebuild::better` meets its contract.
use Rattle.float.specs.Operators.{when◌then◌else◌}
use Rattle.rebuild.specs.Rebuild.{better}
use Rattle.rebuild.proofs.better.Goals as goal

pub returns-in-Some : goal.returns-in-Some
unfolding better when◌then◌else◌
returns-in-Some c = simp (c.in-Some.is, c.if-not-s-t.true)

pub returns-in_default : goal.returns-in_default
unfolding better when◌then◌else◌
returns-in_default c = simp (c.in-Some.is, c.if-not-s-t.false)

pub returns-in_default-2 : goal.returns-in_default-2
unfolding better
returns-in_default-2 c = simp c.in_default.is
