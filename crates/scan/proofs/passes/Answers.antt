-- `scan::passes` meets its contract.
use borrow.Author.Tests.{ne_eqb}
use Rattle.scan.specs.Scan.{meets, not_above}
use Rattle.scan.proofs.passes.Goals as goal

pub returns-then-this-ne0 : goal.returns-then-this-ne0
unfolding meets
returns-then-this-ne0 g c = rw (ne_eqb _ _ c.if-this-ne0.true, c.residual-v.ensures)

pub returns-else-this-ne0 : goal.returns-else-this-ne0
unfolding not_above
returns-else-this-ne0 g c = rw (c.if-this-ne0.false, c.residual-v.ensures)
