-- `solve::answer_of` meets its contract.
use Rattle.float.specs.Operators.{when◌then◌else◌}
use Rattle.float.proofs.Nans.{nan_test}
use Rattle.solve.specs.Solve.{answer}
use Rattle.solve.proofs.answer_of.Goals as goal

pub returns-then-p-2 : goal.returns-then-p-2
unfolding answer when◌then◌else◌
returns-then-p-2 c = simp (c.in-Some.is, nan_test, c.if-p.true, c.if-p-2.true)

pub returns-then-p : goal.returns-then-p
unfolding answer when◌then◌else◌
returns-then-p c = simp (c.in-Some.is, nan_test, c.if-p.true, c.if-p-2.false)

pub returns-then-p-3 : goal.returns-then-p-3
unfolding answer when◌then◌else◌
returns-then-p-3 c = simp (c.in-Some.is, nan_test, c.if-p.false, c.if-p-3.true)

pub returns-in-None : goal.returns-in-None
unfolding answer
returns-in-None c = rw c.in-None.is

pub returns-else-p-3 : goal.returns-else-p-3
unfolding answer when◌then◌else◌
returns-else-p-3 c = simp (c.in-Some.is, nan_test, c.if-p.false, c.if-p-3.false)
