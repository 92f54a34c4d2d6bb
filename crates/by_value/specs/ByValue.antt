-- What the entries over a lent record and over a slice of row records answer, refuse and leave, by value.
use Rattle.std.specs.Prelude.{ℕ, Option, Some, None, Result, Ok, Err, ltb}
use Rattle.float.specs.Operators.{when◌then◌else◌}
use Rattle.rows.specs.Constants.{most_rows}
use Rattle.rows.specs.declared.Point.{Point}
use Rattle.rows.specs.declared.Refusal.{Refusal}
use Rattle.rows.specs.declared.Refusal.TheVariants.{TooMany}
use Rattle.active.specs.declared.Active.{Active}
use Rattle.active.specs.Collector.{held}
use Rattle.recover.specs.declared.Recovered.{Recovered}
use Rattle.solve.specs.Solve.{Outcome, collector}

-- what a lent collector holds after a solve
unfoldable pub kept : Active → Outcome → Active
kept act outcome = held (collector (Some act) outcome)

-- what recovery answers where the collector is lent, and what it leaves there: a refusal leaves it as it was
unfoldable pub answered : Result Recovered Refusal → Result Point Refusal
answered (Ok recovered) = Ok recovered.at
answered (Err refusal) = Err refusal

unfoldable pub remains : Active → Result Recovered Refusal → Active
remains act (Ok recovered) = held recovered.collector
remains act (Err refusal) = act

-- the most rows that go by way of the small array
abbrev pub few_rows : ℕ
few_rows = 64

-- the refusal of n rows
unfoldable pub too_many : ℕ → Option Refusal
too_many n = when ltb most_rows n then Some TooMany else None
