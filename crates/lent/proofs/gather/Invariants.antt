-- `lent::gather` meets its contract. The loop's invariant: the first k rows of the floats are the first k records. Assumes nothing.
use Rattle.std.proofs.Common.{◌≡◌, take}
use Rattle.rows.specs.Rows.{rows_of}
use Rattle.lent.proofs.gather.Given as goal

abbrev pub invariant-loop-k : goal.invariant-loop-k
invariant-loop-k l = take l.k (rows_of l.flat) ≡ take l.k l.rows
