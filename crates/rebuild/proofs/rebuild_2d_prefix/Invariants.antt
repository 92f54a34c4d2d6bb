-- `rebuild::rebuild_2d_prefix` meets its contract: at each turn row i is next, and what is left of the search gives the whole.
use Rattle.std.specs.Prelude.{None}
use lib.ListN.{take}
use Rattle.readings.specs.Readings.{within}
use Rattle.rows.specs.Rows.{rows_of}
use Rattle.rebuild.specs.Rebuild.{rebuild}
use Rattle.rebuild.proofs.Search.{Searching}
use Rattle.rebuild.proofs.rebuild_2d_prefix.Given as goal

abbrev pub invariant-loop-i : goal.invariant-loop-i
invariant-loop-i l = Searching l.rows l.f l.upto l.seed l.floor l.i l.rest l.best (within l.left
    (rebuild (rows_of l.rows) l.f l.upto l.seed l.floor (take l.upto (rows_of l.rows)) 0 None))
