-- `recover::unmoved` meets its contract.
use Rattle.float.specs.Operators.{when◌then◌else◌}
use Rattle.recover.specs.Recover.{unmoved}
use Rattle.recover.proofs.unmoved.Goals as goal

pub returns-in_err-fixed : goal.returns-in_err-fixed
unfolding unmoved
returns-in_err-fixed c = simp (c.from_residual.ensures, c.in_err-fixed.was)

pub returns-then-branch-s : goal.returns-then-branch-s
unfolding unmoved when◌then◌else◌
returns-then-branch-s c = simp (c.in_ok-fixed.was, c.if-branch-s.true)

pub returns : goal.returns
unfolding unmoved when◌then◌else◌
returns c = simp (c.in_ok-fixed.was, c.if-branch-s.false)
