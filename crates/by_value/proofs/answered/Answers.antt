-- `by_value::answered` meets its contract.
use Rattle.float.proofs.Passed.{passed_on}
use Rattle.by_value.specs.ByValue.{answered}
use Rattle.by_value.proofs.answered.Goals as goal

pub returns-in_err-r : goal.returns-in_err-r
unfolding answered
returns-in_err-r c = rw c.in_err-r.was (passed_on _ c.from_residual.ensures.1)

pub returns : goal.returns
unfolding answered
returns c = rw c.in_ok-r.was
