-- A NaN residual fails projection's test and passes rebuilding's.
use mathlib.Core.Path.{◌≡◌, refl}
use mathlib.Core.Bool.{true, false}
use lib.Ieee.{Float, nan, inf, fin, lt, le, eq}
use Rattle.rows.specs.declared.Row.{Row}
use Rattle.rows.specs.declared.Point.{Point}
use Rattle.rows.specs.Rows.{residual}
use Rattle.scan.specs.Scan.{meets, not_above}

-- nothing is below a NaN
nothing_below : (x : Float) → lt x nan ≡ false
unfolding lt
nothing_below nan = refl
nothing_below (inf s) = refl
nothing_below (fin s m e) = refl

module _ (ε : Float) (p : Point) (r : Row) (unordered : residual r p ≡ nan) where
  pub nan_does_not_meet : meets ε p r ≡ false
  unfolding meets le lt eq
  nan_does_not_meet = rw unordered

  pub nan_is_not_above : not_above ε p r ≡ true
  unfolding not_above
  nan_is_not_above = rw (unordered, nothing_below ε)
