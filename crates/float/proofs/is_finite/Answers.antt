-- `float::is_finite` meets its contract: the absolute value is below infinity exactly for a finite number. Assumes nothing.
use mathlib.Core.Path.{◌≡◌, refl}
use mathlib.Core.Bool.{false}
use lib.Ieee.{Float, nan, inf, fin, lt}
use Rattle.float.specs.Float.{abs, finite}
use Rattle.float.proofs.is_finite.Goals as goal

below_infinity : (x : Float) → lt (abs x) (inf false) ≡ finite x
unfolding lt abs finite
below_infinity nan = refl
below_infinity (inf s) = refl
below_infinity (fin s m e) = refl

pub returns : goal.returns
returns c = rw (c.abs.ensures, c.infinity.ensures) (below_infinity c.args.x)
