-- `abi::source_of` meets its contract.
use Rattle.abi.specs.Records.{source}
use Rattle.abi.proofs.source_of.Goals as goal

pub returns-in-Ok : goal.returns-in-Ok
unfolding source
returns-in-Ok c = simp (c.in-Ok.is, ← c.answered.ensures)

pub returns-in-Err : goal.returns-in-Err
unfolding source
returns-in-Err c = simp (c.in-Err.is, ← c.from.ensures, ← c.refused.ensures)
