-- `line::on_line` meets its contract.
use Rattle.line.specs.Line.{on_line, on_x, on_y}
use Rattle.line.proofs.on_line.Goals as goal

pub returns-then-steep : goal.returns-then-steep
unfolding on_line on_x on_y
returns-then-steep c = simp (c.if-steep.true, ← c.abs.ensures, ← c.abs-then-steep.ensures)

pub returns : goal.returns
unfolding on_line on_x on_y
returns c = simp (c.if-steep.false, ← c.abs-2.ensures, ← c.abs-3.ensures)
