-- `project::first_that_works` meets its contract.
use lib.ListN.{take}
use Rattle.readings.specs.Readings.{within}
use Rattle.rows.specs.Rows.{rows_of}
use Rattle.project.specs.Project.{first_that_works}
use Rattle.project.proofs.Attempts.{Turn}
use Rattle.project.proofs.first_that_works.Given as goal

abbrev pub invariant-loop-x : goal.invariant-loop-x
invariant-loop-x l =
    let before = take l.upto (rows_of l.rows) in
    Turn l.eps l.y before l.xs l.x-index l.rest (within l.left (first_that_works l.eps l.y before l.xs))
