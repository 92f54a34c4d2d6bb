-- `rows::row_or_zeros` meets its contract. Assumes nothing.
use mathlib.Core.Path.{sym}
use native.Mathlib.Omega.{arith}
use Rattle.float.specs.Float.{zero}
use Rattle.rows.specs.Rows.{zeros}
use Rattle.rows.proofs.Flat.{no_row}
use Rattle.rows.proofs.row_or_zeros.Goals as goal

pub returns : goal.returns
unfolding zeros zero
returns c = let a = c.args in sym (no_row a.rows.now a.k (omega arith))
