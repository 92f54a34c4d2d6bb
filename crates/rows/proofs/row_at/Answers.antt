-- `rows::row_at` meets its contract: three neighbouring floats are a row. Assumes nothing.
use mathlib.Core.Path.{sym}
use borrow.Author.Rules.{rules}
use Rattle.rows.proofs.Flat.{row_of}
use Rattle.rows.proofs.row_at.Goals as goal

pub returns : goal.returns
returns c = let a = c.args in sym (row_of a.rows.now a.k (search rules))
