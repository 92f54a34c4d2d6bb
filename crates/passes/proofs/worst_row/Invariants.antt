-- `passes::worst_row` meets its contract: at each turn it stands at row i with the worst row so far and `rest` readings left.
use Rattle.readings.specs.Readings.{within}
use Rattle.rows.specs.Rows.{rows_of}
use Rattle.passes.specs.Passes.{worst, none}
use Rattle.passes.proofs.Scan.{Scan}
use Rattle.passes.proofs.worst_row.Given as goal

abbrev pub invariant-loop-i : goal.invariant-loop-i
invariant-loop-i l = Scan l.eps l.p l.rows l.n l.i l.rest l.w (within l.left (worst l.eps l.p (rows_of l.rows) 0 none))
