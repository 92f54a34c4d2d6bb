-- `rows::singular` meets its contract. Assumes nothing.
use Rattle.rows.specs.Constants.{ccw_errbound_a}
use Rattle.rows.specs.Rows.{determinant, singular}
use Rattle.rows.proofs.singular.Goals as goal

pub returns-then-is_finite : goal.returns-then-is_finite
unfolding singular determinant ccw_errbound_a
returns-then-is_finite c =
    simp (← c.is_finite.ensures, c.if-is_finite.true, ← c.abs.ensures, ← c.abs-then-is_finite.ensures, ← c.abs-then-is_finite-2.ensures)

pub returns : goal.returns
unfolding singular determinant
returns c = simp (← c.is_finite.ensures, c.if-is_finite.false)
