-- `active_basis_supports_max_y`: the active rows hold the point up. Assumes nothing.
use Rattle.std.specs.Prelude.{ℕ, Option, Some, None, Bool, false, not, ◌&&◌, ◌||◌, List, eqb, Float}
use Rattle.std.specs.Float.Ieee.{neg}
use Rattle.float.specs.Operators.{when◌then◌else◌, ◌⊘◌, ◌≺◌, ◌≼◌, ◌≻◌, ◌≈◌}
use Rattle.float.specs.Float.{zero, abs, finite}
use Rattle.rows.specs.declared.Row.{Row}
use Rattle.rows.specs.declared.Point.{Point}
use Rattle.rows.specs.Rows.{row_at, residual, determinant, singular}
use Rattle.active.specs.declared.Active.{Active}
use Rattle.step.specs.declared.Frame.{Frame}

-- p lies on the boundary of r, within tolerance. (A NaN residual does.)
unfoldable pub on_boundary : Frame → Point → Row → Bool
on_boundary F p r = not (abs (residual r p) ≻ F.epsilon)

-- one row supports the objective together with the box
unfoldable pub alone : Float → Point → Row → Bool
alone bound p r = p.y ≈ bound || (r.b ≻ zero && (r.a ≈ zero || (r.a ≻ zero && p.x ≈ neg bound) || (r.a ≺ zero && p.x ≈ bound)))

-- two rows support it where (0, 1) is a sum of their normals with no negative factor
unfoldable pub factors : Float → Float → Bool
factors u v = finite u && finite v && (zero ≼ u && zero ≼ v)

unfoldable pub together : Row → Row → Bool
together r s = let d = determinant r s in when singular r s then false else factors (neg s.a ⊘ d) (r.a ⊘ d)

-- the pinned row is among them, and p lies on the boundary of each
unfoldable pub one_supports : Frame → ℕ → Point → ℕ → Row → Bool
one_supports F pinned p i r = eqb pinned i && on_boundary F p r && alone F.bound p r

unfoldable pub two_support : Frame → ℕ → Point → ℕ → ℕ → Row → Row → Bool
two_support F pinned p i j r s =
    (eqb pinned i || eqb pinned j) && on_boundary F p r && on_boundary F p s && (when eqb i j then alone F.bound p r else together r s)

unfoldable pub supported_by : List Row → Frame → ℕ → Point → Option ℕ → Option ℕ → Bool
supported_by R F pinned p None second = false
supported_by R F pinned p (Some i) None = one_supports F pinned p i (row_at R i)
supported_by R F pinned p (Some i) (Some j) = two_support F pinned p i j (row_at R i) (row_at R j)

unfoldable pub supports : List Row → Frame → ℕ → Point → Active → Bool
supports R F pinned p act = supported_by R F pinned p act.first act.second
