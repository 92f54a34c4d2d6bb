-- `abi::recovered_at` meets its contract.
use Rattle.abi.specs.Records.{recovered_at}
use Rattle.abi.proofs.recovered_at.Goals as goal

pub returns : goal.returns
unfolding recovered_at
returns c = rw (c.row_number.ensures, c.row_number-2.ensures, c.has_row.ensures, c.has_row-2.ensures)
