-- `lent::gather` meets its contract: a row that is laid in the floats is the next of the records. Assumes nothing.
use Rattle.std.proofs.Common.{◌<◌, length, arith}
use Rattle.rows.specs.Rows.{rows_of}
use Rattle.rows.proofs.Lengths.{length-rows_of}
use Rattle.lent.proofs.Prefix.{next}
use Rattle.lent.proofs.gather.Goals as goal

pub loop-k-preserved : goal.loop-k-preserved
loop-k-preserved c =
    let l = c.loop-k in
    let long : l.k < length (rows_of l.flat) = omega (arith, length-rows_of l.flat) in
    rw (c.lay.ensures.laid, c.get.ensures) (next c.args.rows.now (rows_of l.flat) l.k (omega arith) long l.invariant)
