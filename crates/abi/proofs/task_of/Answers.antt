-- `abi::task_of` meets its contract.
use borrow.Author.Tests.{eq-eqb, ne_eqb}
use Rattle.float.specs.Operators.{when◌then◌else◌}
use Rattle.abi.specs.Entries.{task}
use Rattle.abi.proofs.task_of.Goals as goal

pub returns-then-t-eq0 : goal.returns-then-t-eq0
unfolding task when◌then◌else◌
returns-then-t-eq0 c = rw (eq-eqb _ _ c.if-t-eq0.true)

pub returns-else-t-eq0 : goal.returns-else-t-eq0
unfolding task when◌then◌else◌
returns-else-t-eq0 c = rw (ne_eqb _ _ c.if-t-eq0.false)
