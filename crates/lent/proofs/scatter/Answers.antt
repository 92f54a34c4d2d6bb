-- `lent::scatter` meets its contract: a row that is lifted from the floats is the next of the records. Assumes nothing.
use Rattle.std.proofs.Common.{◌<◌, length, arith}
use Rattle.rows.specs.Rows.{rows_of}
use Rattle.rows.proofs.Lengths.{length-rows_of}
use Rattle.lent.proofs.Prefix.{next}
use Rattle.lent.proofs.scatter.Goals as goal

pub loop-k-preserved : goal.loop-k-preserved
loop-k-preserved c =
    let l = c.loop-k in
    let long : l.k < length (rows_of c.args.flat.now) = omega (arith, length-rows_of c.args.flat.now) in
    rw (c.put.ensures, c.lift.ensures) (next (rows_of c.args.flat.now) l.rows l.k long (omega arith) l.invariant)
