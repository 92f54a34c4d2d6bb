-- `scan::every` meets its contract.
use mathlib.Core.Bool.{cond, not}
use lib.Dec.{eqb}
use lib.ListN.{take}
use Rattle.readings.specs.Readings.{within}
use Rattle.rows.specs.Rows.{rows_of}
use Rattle.scan.specs.Scan.{every, meets, not_above}
use Rattle.scan.proofs.Turns.{Turn}
use Rattle.scan.proofs.every.Given as goal

abbrev pub invariant-loop-i : goal.invariant-loop-i
invariant-loop-i g l =
    let test = cond (not (eqb g.row.STRICT 0)) (meets l.eps l.p) (not_above l.eps l.p) in
    Turn test l.rows l.upto l.i l.rest (within l.left (every test (take l.upto (rows_of l.rows))))
