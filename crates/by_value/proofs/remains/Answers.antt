-- `by_value::remains` meets its contract.
use Rattle.by_value.specs.ByValue.{remains}
use Rattle.by_value.proofs.remains.Goals as goal

pub returns-in-Ok : goal.returns-in-Ok
unfolding remains
returns-in-Ok c = simp (c.in-Ok.is, ← c.held.ensures)

pub returns-in-Err : goal.returns-in-Err
unfolding remains
returns-in-Err c = simp c.in-Err.is
