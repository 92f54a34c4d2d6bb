-- What the entry over a slice of row records gives back and leaves.
use Rattle.std.specs.Prelude.{ℕ, List}
use Rattle.rows.specs.declared.Row.{Row}
use Rattle.rows.specs.Rows.{rows_of, flat_of}
use Rattle.once.specs.declared.Task.{Task}
use Rattle.solve.specs.Solve.{Ended, solve}

-- the solve of rows that are records: that of their floats, one row after the other
unfoldable pub solve_rows : Task → ℕ → List Row → Ended (List Row)
solve_rows T allowance rows =
    let e = solve T allowance (flat_of rows) in
    record { outcome = e.outcome; rows = rows_of e.rows }
