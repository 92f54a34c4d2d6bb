-- A scan takes at most a reading for each row. Assumes nothing.
use mathlib.Core.Bool.{Bool}
use mathlib.Core.List.{List, [], ◌∷◌}
use native.Mathlib.Omega.{arith}
use lib.ListN.{length}
use Rattle.readings.proofs.Bounds.{◌at_most◌, wider, pure_takes, read_takes, if_takes}
use Rattle.rows.specs.declared.Row.{Row}
use Rattle.scan.specs.Scan.{every}

pub every_takes : (test : Row → Bool) (rows : List Row) → every test rows at_most length rows
unfolding every
every_takes test [] = pure_takes _
every_takes test (r ∷ rows) = wider (read_takes 1 (if_takes _ (every_takes test rows) (pure_takes _))) (omega arith)
