-- `rows::no_boundary` meets its contract. Assumes nothing.
use Rattle.rows.specs.Constants.{eps_zero}
use Rattle.rows.specs.Rows.{no_boundary}
use Rattle.rows.proofs.no_boundary.Goals as goal

pub returns-then-abs : goal.returns-then-abs
unfolding no_boundary eps_zero
returns-then-abs c = simp (← c.abs.ensures, c.if-abs.true, ← c.abs-then-abs.ensures)

pub returns : goal.returns
unfolding no_boundary eps_zero
returns c = simp (← c.abs.ensures, c.if-abs.false)
