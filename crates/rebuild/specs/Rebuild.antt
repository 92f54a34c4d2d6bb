-- `rebuild_2d_prefix`: another boundary. What a candidate must meet stands apart from the search for the best. Assumes nothing.
use Rattle.std.specs.Prelude.{ℕ, ◌+◌, Option, Some, None, Bool, not, ◌&&◌, List, [], ◌∷◌, take, Float}
use Rattle.float.specs.Operators.{when◌then◌else◌, ◌≺◌, ◌≻◌, ◌≈◌}
use Rattle.float.specs.Float.{finite}
use Rattle.readings.specs.Readings.{Counted, pure, read, ◌>>=◌, ◌>>◌}
use Rattle.rows.specs.declared.Row.{Row}
use Rattle.rows.specs.declared.Point.{Point}
use Rattle.rows.specs.Rows.{no_boundary}
use Rattle.scan.specs.Scan.{every, not_above}
use Rattle.active.specs.declared.Active.{Active}
use Rattle.active.specs.Active.{no_rows}
use Rattle.step.specs.declared.Frame.{Frame}
use Rattle.step.specs.declared.State.{State}
use Rattle.step.specs.Step.{step, ◌>>?◌}
use Rattle.rebuild.specs.Supports.{on_boundary, supports}
use Rattle.rebuild.specs.declared.Turn.{Turn}
use Rattle.rebuild.specs.declared.Turn.TheVariants.{On, Won}

-- ---- a candidate

-- a row stands in the first slot if there is one
unfoldable pub ordered_by : Option ℕ → Option ℕ → Active
ordered_by None second = record { first = second; second = None }
ordered_by (Some i) second = record { first = Some i; second = second }

unfoldable pub ordered : Active → Active
ordered act = ordered_by act.first act.second

-- finite, no lower than the floor, no higher than the seed, and on the boundary of the pinned row
unfoldable pub plausible : Frame → Float → Float → Row → Point → Bool
plausible F top floor r p = finite p.x && finite p.y && not (p.y ≺ floor) && not (p.y ≻ top) && on_boundary F p r

-- no residual is above ε, and the active rows, of which row i is the pinned one, hold the point up
unfoldable pub tested : List Row → Frame → ℕ → ℕ → State → Counted (Option State)
tested R F upto i s =
    every (not_above F.epsilon s.at) (take upto R) >>= λ ok.
    when ok then (read 2 >> pure (when supports R F i s.at s.active then Some s else None)) else pure None

unfoldable pub qualified : List Row → Frame → ℕ → Point → Float → ℕ → Row → State → Counted (Option State)
qualified R F upto seed floor i r s =
    when plausible F seed.y floor r s.at then tested R F upto i (record { at = s.at; active = ordered s.active }) else pure None

-- the best point on the boundary of row i, where it qualifies
unfoldable pub candidate : List Row → Frame → ℕ → Point → Float → ℕ → Row → Counted (Option State)
candidate R F upto seed floor i r = step R F upto i (record { at = seed; active = no_rows }) >>? qualified R F upto seed floor i r

-- ---- the search

-- the higher of two; the earlier of two at one level
unfoldable pub better : State → Option State → Option State
better s None = Some s
better s (Some t) = when s.at.y ≻ t.at.y then Some s else Some t

-- a candidate on the level of the seed wins
unfoldable pub judge : Float → Option State → Option State → Turn
judge top best None = On best
judge top best (Some s) = when s.at.y ≈ top then Won s else On (better s best)

-- a row without a boundary is passed over, and takes no reading
unfoldable pub turn : List Row → Frame → ℕ → Point → Float → ℕ → Row → Option State → Counted Turn
turn R F upto seed floor i r best = (when no_boundary r then pure None else candidate R F upto seed floor i r) >>= λ c. pure (judge seed.y best c)

-- the best candidate of the rows from row i on
unfoldable pub rebuild : List Row → Frame → ℕ → Point → Float → List Row → ℕ → Option State → Counted (Option State)
rebuild R F upto seed floor [] i best = pure best
rebuild R F upto seed floor (r ∷ rs) i best =
    turn R F upto seed floor i r best >>= λ t.
    elim t as (λ _. Counted (Option State)) [ On found ↦ rebuild R F upto seed floor rs (i + 1) found | Won s ↦ pure (Some s) ]
