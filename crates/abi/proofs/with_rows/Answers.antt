-- `abi::with_rows` meets its contract.
use Rattle.abi.specs.Records.{with_rows}
use Rattle.abi.proofs.with_rows.Goals as goal

pub returns : goal.returns
unfolding with_rows
returns c = rw (c.row_number.ensures, c.row_number-2.ensures, c.has_row.ensures, c.has_row-2.ensures)
