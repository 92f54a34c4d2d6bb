-- `abi::refused` meets its contract.
use Rattle.abi.specs.Records.{refused}
use Rattle.abi.proofs.refused.Goals as goal

pub returns : goal.returns
unfolding refused
returns c = rw (c.nan.ensures, c.nan-2.ensures)
