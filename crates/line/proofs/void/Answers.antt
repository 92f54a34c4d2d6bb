-- `line::void` meets its contract.
use Rattle.line.specs.Line.{void}
use Rattle.line.proofs.void.Goals as goal

pub returns : goal.returns
unfolding void
returns c = rw (c.nan.ensures, c.nan-2.ensures)
