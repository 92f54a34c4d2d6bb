-- `gather::push` meets its contract.
use native.Mathlib.Omega.{arith}
use borrow.Author.Tests.{eq-eqb, ne_eqb}
use Rattle.float.specs.Operators.{when◌then◌else◌}
use Rattle.gather.specs.Gather.{pushed}
use Rattle.gather.proofs.push.Goals as goal

pub returns-then-before-eq0 : goal.returns-then-before-eq0
unfolding pushed when◌then◌else◌
returns-then-before-eq0 c = rw (eq-eqb _ 0 c.if-before-eq0.true) (omega arith)

pub returns : goal.returns
unfolding pushed when◌then◌else◌
returns c = rw (ne_eqb _ 0 c.if-before-eq0.false)
