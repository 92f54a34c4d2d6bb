-- Rows that lie flat, refusals 1 and 2, normalising, and the 2 by 2 system. Assumes nothing.
use Rattle.std.specs.Prelude.{ℕ, ◌/◌, ◌%◌, Bool, not, ◌&&◌, ◌||◌, List, [], ◌∷◌, map, eqb, ltb, get_or, length, Float}
use Rattle.std.specs.Prelude.{Option, Some, None, Result, Ok, Err}
use Rattle.float.specs.Operators.{when◌then◌else◌, ◌⊕◌, ◌⊖◌, ◌⊗◌, ◌⊘◌, ◌≺◌, ◌≼◌, ◌≻◌}
use Rattle.float.specs.Float.{zero, one, abs, finite}
use Rattle.rounding.specs.Root.{root}
use Rattle.rows.specs.Constants.{eps_zero, ccw_errbound_a, most_rows}
use Rattle.rows.specs.declared.Row.{Row}
use Rattle.rows.specs.declared.Point.{Point}
use Rattle.rows.specs.declared.Refusal.{Refusal}
use Rattle.rows.specs.declared.Refusal.TheVariants.{Uneven, TooMany, Undecided}
use Rattle.rows.specs.Refusals.{unless, left_by}

-- ---- rows that lie flat

unfoldable pub rows_of : List Float → List Row
rows_of [] = []
rows_of (a ∷ []) = []
rows_of (a ∷ b ∷ []) = []
rows_of (a ∷ b ∷ c ∷ rest) = record { a = a; b = b; c = c } ∷ rows_of rest

unfoldable pub flat_of : List Row → List Float
flat_of [] = []
flat_of (r ∷ rs) = r.a ∷ r.b ∷ r.c ∷ flat_of rs

unfoldable pub zeros : Row
zeros = record { a = zero; b = zero; c = zero }

unfoldable pub row_at : List Row → ℕ → Row
row_at rows i = get_or rows i zeros

-- why so many floats are not taken as rows, or pairs, of so many each, if they are not
unfoldable pub refusal : ℕ → ℕ → Option Refusal
refusal width floats =
    when not (eqb (floats % width) 0) then Some Uneven else when ltb most_rows (floats / width) then Some TooMany else None

-- ---- a row and a point

unfoldable pub residual : Row → Point → Float
residual r p = r.a ⊗ p.x ⊕ r.b ⊗ p.y ⊖ r.c

-- the size of the terms that cancel into a residual
unfoldable pub weight : Row → Point → Float
weight r p = abs (r.a ⊗ p.x) ⊕ abs (r.b ⊗ p.y) ⊕ abs r.c

-- a row with no boundary to pin
unfoldable pub no_boundary : Row → Bool
no_boundary r = abs r.a ≺ eps_zero && abs r.b ≺ eps_zero

-- ---- normalising

-- times the reciprocal of a norm; zeros where that is zero or not finite
unfoldable pub normalized_by : Float → Row → Row
normalized_by norm r =
    let inverse = one ⊘ norm in
    when norm ≻ zero && finite norm then record { a = r.a ⊗ inverse; b = r.b ⊗ inverse; c = r.c ⊗ inverse } else zeros

unfoldable pub normalized_row : Row → Row
normalized_row r = normalized_by (root (r.a ⊗ r.a ⊕ r.b ⊗ r.b)) r

unfoldable pub normalized : List Row → List Row
normalized rows = map normalized_row rows

-- what `normalize_lp2d` returns, and what it leaves in the lent floats
unfoldable pub normalizing : List Float → Result (Unit {0}) Refusal
normalizing flat = unless (refusal 3 (length flat)) tt

unfoldable pub normalized_flat : List Float → List Float
normalized_flat flat = left_by (refusal 3 (length flat)) flat (flat_of (normalized (rows_of flat)))

-- ---- the 2 by 2 system

unfoldable pub determinant : Row → Row → Float
determinant r s = r.a ⊗ s.b ⊖ r.b ⊗ s.a

-- the determinant is not finite, or not above the error of the two products that cancel into it
unfoldable pub singular : Row → Row → Bool
singular r s = let d = determinant r s in not (finite d) || abs d ≼ ccw_errbound_a ⊗ (abs (r.a ⊗ s.b) ⊕ abs (r.b ⊗ s.a))

-- the point on both boundaries
unfoldable pub crossing : Row → Row → Result Point Refusal
crossing r s =
    let inverse = one ⊘ determinant r s in
    let x = (r.c ⊗ s.b ⊖ r.b ⊗ s.c) ⊗ inverse in
    let y = (r.a ⊗ s.c ⊖ r.c ⊗ s.a) ⊗ inverse in
    when singular r s then Err Undecided else Ok (record { x = x; y = y })
