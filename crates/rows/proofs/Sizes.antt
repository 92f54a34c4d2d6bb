-- No size of a row's terms is below zero, and neither is what a residual is held against.
use mathlib.Core.Path.{◌≡◌, refl}
use mathlib.Core.Bool.{false}
use lib.Ieee.{lt, of_bits}
use Rattle.float.specs.Operators.{◌⊕◌, ◌⊗◌}
use Rattle.float.specs.Float.{zero, abs}
use Rattle.float.proofs.Laws.{abs_not_negative}
use Rattle.float.proofs.Signs.{sum_not_negative, product_not_negative}
use Rattle.rows.specs.Constants.{eps_rounding}
use Rattle.rows.specs.declared.Row.{Row}
use Rattle.rows.specs.declared.Point.{Point}
use Rattle.rows.specs.Rows.{weight}

module _ (r : Row) (p : Point) where
  weight_not_negative : lt (weight r p) zero ≡ false
  unfolding weight
  weight_not_negative =
      sum_not_negative (abs (r.a ⊗ p.x) ⊕ abs (r.b ⊗ p.y)) (abs r.c)
      (sum_not_negative (abs (r.a ⊗ p.x)) (abs (r.b ⊗ p.y)) (abs_not_negative _) (abs_not_negative _))
      (abs_not_negative _)

  pub rounding_not_negative : lt (eps_rounding ⊗ weight r p) zero ≡ false
  unfolding eps_rounding zero lt of_bits
  rounding_not_negative = product_not_negative eps_rounding (weight r p) refl weight_not_negative
