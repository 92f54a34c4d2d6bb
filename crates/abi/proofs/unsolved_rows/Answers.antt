-- `abi::unsolved_rows` meets its contract.
use native.Mathlib.Omega.{arith}
use Rattle.abi.proofs.Refusals.{many-rows, few_rows_lem}
use Rattle.abi.proofs.unsolved_rows.Goals as goal

pub returns-then-n-gt-MOST_ROWS : goal.returns-then-n-gt-MOST_ROWS
returns-then-n-gt-MOST_ROWS c = rw (many-rows c.args.n c.args.mode (omega arith)) (rw c.from.ensures at c.unsolved.ensures)

pub returns : goal.returns
returns c = rw (few_rows_lem c.args.n c.args.mode (omega arith), ← c.or_ten.ensures, ← c.number_of.ensures) c.unsolved-2.ensures
