-- `lent::get` meets its contract: the row at k is the same at any default. Assumes nothing.
use Rattle.std.proofs.lemmas.List.{get_or_default}
use Rattle.rows.specs.Rows.{row_at}
use Rattle.lent.proofs.get.Goals as goal

pub returns : goal.returns
unfolding row_at
returns c = get_or_default _ _ _ _ c.requires
