-- What the entries of the static library make of the records that C hands them, and what they leave in the rows lent to them. Assumes nothing.
use Rattle.std.specs.Prelude.{ℕ, Option, Some, None, Result, Ok, Err, Bool, List, eqb, ltb, Float}
use Rattle.std.specs.Float.{nan}
use Rattle.float.specs.Operators.{when◌then◌else◌}
use Rattle.rows.specs.declared.Row.{Row}
use Rattle.rows.specs.declared.Refusal.{Refusal}
use Rattle.rows.specs.declared.Refusal.TheVariants.{Malformed}
use Rattle.rows.specs.Refusals.{number}
use Rattle.rows.specs.Rows.{rows_of, flat_of}
use Rattle.active.specs.declared.Active.{Active}
use Rattle.line.specs.Line.{lp1d}
use Rattle.step.specs.declared.Frame.{Frame}
use Rattle.active.specs.Collector.{held}
use Rattle.recover.specs.declared.Recovered.{Recovered}
use Rattle.recover.specs.Recover.{recovering}
use Rattle.once.specs.declared.Normalize.TheVariants.{Off, Source}
use Rattle.once.specs.declared.Task.{Task}
use Rattle.solve.specs.Solve as Solve
use Rattle.solve.specs.Solve.{Ended, solve, lp2d_incre_max_y}
use Rattle.abi.specs.declared.SolveTask.{SolveTask}
use Rattle.abi.specs.declared.LineTask.{LineTask}
use Rattle.abi.specs.declared.LineBounds.{LineBounds}
use Rattle.abi.specs.declared.RecoveryTask.{RecoveryTask}
use Rattle.abi.specs.declared.RecoveredPoint.{RecoveredPoint}
use Rattle.abi.specs.Records.{slot, bounded, recovered_at}

-- ---- the solves

-- the task that a solve takes; a number above 1, which names no mode, is refused before the mode matters
unfoldable pub task : SolveTask → Task
task t =
    record {
      tol = record { feasibility = t.feasibility; scale = t.scale };
      start = record { x = t.x0; y = t.y0; skip = t.skip };
      normalize = when eqb t.normalize 0 then Off else Source;
    }

-- no mode of normalising has this number: 0 is Off, 1 the source's
unfoldable pub no_mode : ℕ → Bool
no_mode code = ltb 1 code

-- a refusal; where there is none, 10 for a number that names no mode
unfoldable pub or_ten : Option Refusal → ℕ → Option Refusal
or_ten None mode = when no_mode mode then Some Malformed else None
or_ten (Some refusal) mode = Some refusal

-- which refusal an input gets before a row is read: the solve's own, 1 or 2, and then 10 (RULES 10.5)
unfoldable pub refusal_of : SolveTask → List Float → Option Refusal
refusal_of t flat = or_ten (Solve.refusal_of (task t) flat) t.normalize

-- that refusal, which leaves the floats as they were; without one, what a solve comes to
unfoldable pub unless_refused : SolveTask → List Float → Ended (List Float) → Ended (List Float)
unless_refused t flat e = Solve.unless_refused (refusal_of t flat) flat e

unfoldable pub solving : SolveTask → List Float → Ended (List Float)
solving t flat = unless_refused t flat (solve (task t) t.allowance flat)

-- of rows that are records: the same of their floats, one row after the other
unfoldable pub solving_rows : SolveTask → List Row → Ended (List Row)
solving_rows t rows =
    let e = solving t (flat_of rows) in
    record { outcome = e.outcome; rows = rows_of e.rows }

-- the source's own entry, which has no allowance
unfoldable pub solving_source : SolveTask → List Float → Ended (List Float)
solving_source t flat = unless_refused t flat (lp2d_incre_max_y (task t) flat)

-- ---- one dimension, and recovery

unfoldable pub line_bounds : LineTask → List Float → LineBounds
line_bounds t flat = bounded (lp1d t.autonan (record { feasibility = t.feasibility; scale = t.scale }) flat)

-- the collector that the caller hands over
unfoldable pub collector : RecoveryTask → Active
collector t = record { first = slot t.has_first t.first; second = slot t.has_second t.second }

-- a refusal gives it back
unfoldable pub recovered : Active → Result Recovered Refusal → RecoveredPoint
recovered act (Ok found) = recovered_at 0 found.at (held found.collector)
recovered act (Err refusal) = recovered_at (number refusal) (record { x = nan; y = nan }) act

unfoldable pub recovery : RecoveryTask → List Float → RecoveredPoint
recovery t flat =
    let frame : Frame = record { bound = t.bound; epsilon = t.epsilon; reduced = t.reduced } in
    recovered (collector t) (recovering flat t.upto (record { x = t.x0; y = t.y0 }) frame (Some (collector t)))
