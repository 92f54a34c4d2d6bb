-- Scans of residuals. Assumes nothing.
use Rattle.std.specs.Prelude.{Bool, true, false, not, List, [], ◌∷◌, Float}
use Rattle.float.specs.Operators.{when◌then◌else◌, ◌≼◌, ◌≻◌}
use Rattle.readings.specs.Readings.{Counted, pure, read, ◌>>◌}
use Rattle.rows.specs.declared.Row.{Row}
use Rattle.rows.specs.declared.Point.{Point}
use Rattle.rows.specs.Rows.{residual}

-- whether every row passes a test; each takes a reading, the first that fails included, which ends the scan
unfoldable pub every : (Row → Bool) → List Row → Counted Bool
every test [] = pure true
every test (r ∷ rs) = let rest = every test rs in read 1 >> (when test r then rest else pure false)

-- projection's test and rebuilding's: a NaN residual fails the first and passes the second
unfoldable pub meets : Float → Point → Row → Bool
meets ε p r = residual r p ≼ ε

unfoldable pub not_above : Float → Point → Row → Bool
not_above ε p r = not (residual r p ≻ ε)
