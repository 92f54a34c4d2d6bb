-- `once::is_saturated` meets its contract.
use Rattle.rows.specs.Constants.{half}
use Rattle.once.specs.Once.{saturated}
use Rattle.once.proofs.is_saturated.Goals as goal

pub returns-then-not-both_finite : goal.returns-then-not-both_finite
unfolding saturated
returns-then-not-both_finite c = rw (← c.both_finite.ensures, c.if-not-both_finite.true)

pub returns-then-p-edge : goal.returns-then-p-edge
unfolding saturated half
returns-then-p-edge c = rw (← c.both_finite.ensures, c.if-not-both_finite.false, c.if-p-edge.true)

pub returns-else-p-edge : goal.returns-else-p-edge
unfolding saturated half
returns-else-p-edge c =
    rw (← c.both_finite.ensures, c.if-not-both_finite.false, c.if-p-edge.false, ← c.abs.ensures)
