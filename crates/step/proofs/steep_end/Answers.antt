-- `step::steep_end` meets its contract.
use Rattle.float.proofs.Nans.{nan_test}
use Rattle.float.specs.Operators.{when◌then◌else◌}
use Rattle.step.specs.Step.{steep_end}
use Rattle.step.proofs.steep_end.Goals as goal

pub returns-then-t : goal.returns-then-t
unfolding steep_end when◌then◌else◌
returns-then-t c = rw (nan_test, c.if-t.true)

pub returns : goal.returns
unfolding steep_end when◌then◌else◌
returns c = rw (nan_test, c.if-t.false, ← c.min-y.ensures, ← c.set_second.ensures)
