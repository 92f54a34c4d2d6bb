-- `lp_2d_incre_max_y_once`: one solve over one box. Assumes nothing.
use Rattle.std.specs.Prelude.{Option, Some, None, Ok, Err, Bool, false, ◌&&◌, ◌||◌, List, [], ◌∷◌, length, drop, Float}
use Rattle.std.specs.Float.{nan}
use Rattle.float.specs.Operators.{when◌then◌else◌, ◌⊗◌, ◌⊘◌, ◌≺◌, ◌≼◌, ◌≻◌, ◌≈◌}
use Rattle.float.specs.Float.{abs, finite, max}
use Rattle.readings.specs.Readings.{Counted, pure, read, ◌>>=◌, ◌>>◌, Paid}
use Rattle.rows.specs.Constants.{eps_zero, lp_bound, lp_box_growth, half, max_deferred_rounds}
use Rattle.rows.specs.declared.Row.{Row}
use Rattle.rows.specs.declared.Point.{Point}
use Rattle.rows.specs.Rows.{flat_of, normalized}
use Rattle.active.specs.Active.{no_rows}
use Rattle.step.specs.declared.State.{State}
use Rattle.step.specs.Step.{◌>>?◌}
use Rattle.once.specs.declared.WarmStart.{WarmStart}
use Rattle.once.specs.declared.Normalize.{Normalize}
use Rattle.once.specs.declared.Normalize.TheVariants.{Off, Source}
use Rattle.once.specs.declared.Task.{Task}
use Rattle.once.specs.declared.Round.{Round}
use Rattle.passes.specs.Passes.{frame, forward}
use Rattle.passes.specs.Passes.{deferred}

-- the rows as a solve of two or more works on them
unfoldable pub prepared : Normalize → List Row → Counted (List Row)
prepared Off rows = pure rows
prepared Source rows = read (length rows) >> pure (normalized rows)

-- a finite start outside the box widens it
unfoldable pub widened : WarmStart → Float → Float
widened start bound =
    when finite start.x && finite start.y && (abs start.x ≻ bound || abs start.y ≻ bound)
    then lp_box_growth ⊗ max (abs start.x) (abs start.y) else bound

-- a start level of exactly 1e6 is the edge of a larger box
unfoldable pub begun : WarmStart → Float → Point
begun start bound = record { x = start.x; y = when start.y ≈ lp_bound && bound ≻ lp_bound then bound else start.y }

-- both passes, over two rows or more as they stand
unfoldable pub passes : Task → List Row → Float → Counted (Option State)
passes T R bound =
    let F = frame bound T.tol.feasibility T.tol.scale in
    let start : State = record { at = begun T.start bound; active = no_rows } in
    forward T.tol.scale R F (drop T.start.skip R) T.start.skip start >>? deferred max_deferred_rounds R F

-- the answer sits on the box
unfoldable pub saturated : Point → Float → Bool
saturated p bound = let edge = half ⊗ bound in finite p.x && finite p.y && (edge ≼ p.y || edge ≼ abs p.x)

unfoldable pub on_box : Float → Option State → Bool
on_box bound None = false
on_box bound (Some s) = saturated s.at bound

-- what one solve does: the rows as it prepares them, what its passes find, and whether that sits on its box
pub record Once : Type 0 where
  pub rows : Counted (List Row)
  pub run : Counted (Option State)
  pub saturated : Bool

-- one row alone bounds y where it is level
unfoldable pub lone : Row → Option State
lone r = when abs r.a ≺ eps_zero && r.b ≻ eps_zero then Some (record { at = record { x = nan; y = r.c ⊘ r.b }; active = no_rows }) else None

unfoldable pub many : Task → List Row → Float → Once
many T rows bound =
    let ready = prepared T.normalize rows in
    let wide = widened T.start bound in
    let run = passes T ready.value wide in
    record { rows = ready; run = run; saturated = on_box wide run.value }

-- with no row, or one, nothing is normalised, and the count is the row count
unfoldable pub once : Task → List Row → Float → Once
once T [] bound = record { rows = pure []; run = pure None; saturated = false }
once T (r ∷ []) bound = record { rows = pure (r ∷ []); run = read 1 >> pure (lone r); saturated = false }
once T (r ∷ s ∷ rows) bound = many T (r ∷ s ∷ rows) bound

-- ---- what the code gives back

-- what preparing leaves in the lent floats: nothing is written where the readings do not fit
unfoldable pub leaves : List Float → Paid (List Row) → List Float
leaves flat (Ok p) = flat_of p.0
leaves flat (Err e) = flat

-- a solve over one box, of the rows as they were prepared, and of the rows as they stand
unfoldable pub one_round : Task → List Row → Float → Counted Round
one_round T R wide = passes T R wide >>= λ found. pure (record { found = found; sits_on_box = on_box wide found })

unfoldable pub solving_once : Task → Normalize → List Row → Float → Counted Round
solving_once T mode rows bound = prepared mode rows >>= λ R. one_round T R (widened T.start bound)
