-- `step::uncrossed` meets its contract.
use Rattle.float.specs.Operators.{when◌then◌else◌}
use Rattle.rows.specs.Constants.{eps_rounding, half}
use Rattle.step.specs.Step.{uncrossed}
use Rattle.step.proofs.uncrossed.Goals as goal

pub returns-then-low-high : goal.returns-then-low-high
unfolding uncrossed when◌then◌else◌ eps_rounding half
returns-then-low-high c = rw (c.if-high-low.true, ← c.abs.ensures, ← c.abs-then-high-low.ensures, ← c.max.ensures, c.if-low-high.true)

pub returns-then-high-low : goal.returns-then-high-low
unfolding uncrossed when◌then◌else◌ eps_rounding half
returns-then-high-low c = rw (c.if-high-low.true, ← c.abs.ensures, ← c.abs-then-high-low.ensures, ← c.max.ensures, c.if-low-high.false)

pub returns : goal.returns
unfolding uncrossed when◌then◌else◌ eps_rounding half
returns c = rw c.if-high-low.false
