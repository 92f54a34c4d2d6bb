-- `line::lp_1d_core` meets its contract: what is left to do from row k on, with the readings left there, is the whole.
use mathlib.Core.Bool.{true}
use mathlib.Core.List.{map}
use lib.ListN.{take}
use Rattle.readings.specs.Readings.{within}
use Rattle.rows.specs.Rows.{rows_of}
use Rattle.line.specs.Line.{whole_line, lp1d_core, on_line}
use Rattle.line.proofs.Select.{span}
use Rattle.line.proofs.Reduction.{Rows}
use Rattle.line.proofs.lp_1d_core.Given as goal

abbrev pub invariant-loop-k : goal.invariant-loop-k
invariant-loop-k l =
    let on = on_line l.steep l.p l.q in
    Rows l.steep l.eps on l.rows l.upto l.k l.rest (span l.high l.low l.first l.second)
    (within l.left (lp1d_core l.steep true l.eps (map on (take l.upto (rows_of l.rows))) 0 (whole_line l.fn.act)))
