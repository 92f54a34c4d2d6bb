-- `passes::forward` meets its contract: at each turn row i is next, and what is left of the pass gives the whole.
use lib.ListN.{drop}
use Rattle.readings.specs.Readings.{within}
use Rattle.rows.specs.Rows.{rows_of}
use Rattle.passes.specs.Passes.{forward}
use Rattle.passes.proofs.Turns.{Turn}
use Rattle.passes.proofs.forward.Given as goal

abbrev pub invariant-loop-i : goal.invariant-loop-i
invariant-loop-i l = Turn l.scale l.f l.rows l.n l.i l.rest l.s (within l.left (forward l.scale (rows_of l.rows) l.f (drop l.skip (rows_of l.rows))
    l.skip l.initial.s))
