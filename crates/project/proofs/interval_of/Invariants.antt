-- `project::interval_of` meets its contract.
use lib.ListN.{take}
use Rattle.readings.specs.Readings.{within}
use Rattle.rows.specs.Rows.{rows_of}
use Rattle.project.specs.Project.{interval, everywhere}
use Rattle.project.proofs.Cuts.{Turn}
use Rattle.project.proofs.interval_of.Given as goal

abbrev pub invariant-loop-i : goal.invariant-loop-i
invariant-loop-i l = Turn l.eps l.y l.rows l.upto l.i l.rest l.v (within l.left (interval l.eps l.y (take l.upto (rows_of l.rows)) everywhere))
