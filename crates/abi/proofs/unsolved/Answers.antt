-- `abi::unsolved` meets its contract.
use Rattle.abi.specs.Records.{unsolved}
use Rattle.abi.proofs.unsolved.Goals as goal

pub returns : goal.returns
unfolding unsolved
returns c = rw (← c.refused.ensures, ← c.no_rows.ensures) c.with_rows.ensures
