-- What `fused` means to a reader who trusts `sum`, which adds two fractions exactly and rounds once: of three finite values it gets the exact
-- product and the addend. The other cases stand in `Special`.
use Rattle.std.proofs.Common.{◌≡◌, ℕ, ◌*◌, Bool, ℤ, refl}
use lib.Ieee.{fin, binary64, up, down, unlike, sum}
use lib.Ieee.Fits.{down_pos}
use Rattle.rounding.specs.Fused.{fused}
use Rattle.rounding.proofs.Products.{fused-values}

-- x, y and z have the sizes m * up e / down e, n * up d / down d and p * up g / down g, and the signs s, t and u. Over one denominator, the
-- product of the three, x * y has the numerator m * up e * (n * up d) * down g, and z has p * up g * (down e * down d).
pub fused_rounds_once : (s : Bool) (m : ℕ) (e : ℤ) (t : Bool) (n : ℕ) (d : ℤ) (u : Bool) (p : ℕ) (g : ℤ)
    → fused (fin s m e) (fin t n d) (fin u p g)
    ≡ sum binary64 (unlike s t) (m * up e * (n * up d) * down g) u (p * up g * (down e * down d)) (down e * down d * down g)
fused_rounds_once s m e t n d u p g =
    fused-values (fin s m e) (fin t n d) (fin u p g) s t u (m * up e) (down e) (n * up d) (down d) (p * up g) (down g)
    (down_pos e) (down_pos d) (down_pos g) (refl, refl) (refl, refl) (refl, refl)
