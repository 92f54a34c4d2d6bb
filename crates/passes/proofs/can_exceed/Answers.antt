-- `passes::can_exceed` meets its contract.
use Rattle.float.specs.Float.{zero}
use Rattle.passes.proofs.can_exceed.Goals as goal

pub returns-then-residual : goal.returns-then-residual
unfolding zero
returns-then-residual c = rw c.if-residual.true

pub returns-else-residual : goal.returns-else-residual
unfolding zero
returns-else-residual c = rw c.if-residual.false
