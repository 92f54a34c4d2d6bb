-- `lending::filled` meets its contract: the array stays as long as it is.
use mathlib.Core.Path.{◌≡◌}
use Prim.Native.Nat.{◌+◌, ◌*◌}
use lib.ListN.{length}
use Rattle.rows.specs.Constants.{most_rows}
use Rattle.lending.proofs.filled.Given as goal

abbrev pub invariant-loop-k : goal.invariant-loop-k
invariant-loop-k l = length l.flat ≡ 3 * (most_rows + 1)
