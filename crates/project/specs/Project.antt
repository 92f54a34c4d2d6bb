-- `project_x_at_fixed_y`: the same y, another x. Assumes nothing.
use Rattle.std.specs.Prelude.{ℕ, Option, Some, None, Bool, true, false, ◌&&◌, List, [], ◌∷◌, ◌++◌, take, Float}
use Rattle.std.specs.Float.{inf}
use Rattle.std.specs.Float.Ieee.{neg}
use Rattle.float.specs.Operators.{when◌then◌else◌, ◌⊕◌, ◌⊗◌, ◌⊘◌, ◌≺◌, ◌≻◌}
use Rattle.float.specs.Float.{zero, finite, min, max}
use Rattle.rounding.specs.Fused.{fused}
use Rattle.readings.specs.Readings.{Counted, pure, read, ◌>>=◌, ◌>>◌}
use Rattle.rows.specs.Constants.{half}
use Rattle.rows.specs.declared.Row.{Row}
use Rattle.rows.specs.declared.Point.{Point}
use Rattle.scan.specs.Scan.{every, meets}
use Rattle.project.specs.declared.Interval.{Interval}

-- x is finite, and every residual there is at most ε; an x that isn't finite takes no reading
unfoldable pub works : Float → Float → List Row → Float → Counted Bool
works ε y rows x = when finite x then every (meets ε (record { x = x; y = y })) rows else pure false

-- the first of some x that works
unfoldable pub first_that_works : Float → Float → List Row → List Float → Counted (Option Float)
first_that_works ε y rows [] = pure None
first_that_works ε y rows (x ∷ xs) = let rest = first_that_works ε y rows xs in works ε y rows x >>= λ ok. when ok then pure (Some x) else rest

-- the interval of x where a x ≤ rhs, within another
unfoldable pub bounded : Float → Float → Interval → Option Interval
bounded a rhs v =
    when a ≻ zero then Some (record { low = v.low; high = min v.high (rhs ⊘ a) })
    else when a ≺ zero then Some (record { low = max v.low (rhs ⊘ a); high = v.high })
    else when rhs ≺ zero then None else Some v

-- what a row leaves of an interval; nothing where a number is not finite
unfoldable pub cut : Float → Float → Row → Interval → Option Interval
cut ε y r v =
    let rhs = fused (neg r.b) y (r.c ⊕ ε) in
    when finite r.a && finite r.b && finite r.c && finite rhs then bounded r.a rhs v else None

unfoldable pub interval : Float → Float → List Row → Interval → Counted (Option Interval)
interval ε y [] v = pure (when v.low ≻ v.high then None else Some v)
interval ε y (r ∷ rs) v = read 1 >> (elim (cut ε y r v) as (λ _. Counted (Option Interval)) [ None ↦ pure None | Some w ↦ interval ε y rs w ])

unfoldable pub everywhere : Interval
everywhere = record { low = inf true; high = inf false }

-- x moved into the interval, then its middle where both ends are finite, then its ends
unfoldable pub middle : Interval → List Float
middle v = when finite v.low && finite v.high then (half ⊗ v.low ⊕ half ⊗ v.high) ∷ [] else []

unfoldable pub attempts : Float → Interval → List Float
attempts x v = min (max x v.low) v.high ∷ middle v ++ v.low ∷ v.high ∷ []

unfoldable pub inside : Float → Float → List Row → Float → Option Interval → Counted (Option Float)
inside ε y rows x None = pure None
inside ε y rows x (Some v) = first_that_works ε y rows (attempts x v)

-- the point's own x, or else one of the interval that the rows before `upto` leave
unfoldable pub project : List Row → ℕ → Point → Float → Counted (Option Float)
project R upto p ε =
    let rows = take upto R in
    let moved = interval ε p.y rows everywhere >>= inside ε p.y rows p.x in
    works ε p.y rows p.x >>= λ ok. when ok then pure (Some p.x) else moved
