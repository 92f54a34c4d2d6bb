-- `step::flat_end` meets its contract.
use Rattle.step.specs.Step.{flat_end}
use Rattle.step.proofs.flat_end.Goals as goal

pub returns-in_err-left : goal.returns-in_err-left
unfolding flat_end
returns-in_err-left c = rw c.in_err-left.was c.from_residual.ensures

pub returns : goal.returns
unfolding flat_end
returns c = rw (c.in_ok-left.was, c.choose-c.ensures)
