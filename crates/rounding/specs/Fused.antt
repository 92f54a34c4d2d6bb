-- Fused multiply-add of binary64 values: the exact product and the addend, rounded once. Assumes nothing.
use Rattle.std.specs.Prelude.{◌*◌, ◌+ℤ◌, Float}
use Rattle.std.specs.Float.{nan, inf, fin, binary64}
use Rattle.std.specs.Float.Ieee.{unlike, mul, add}

-- x * y, rounded to no format: `mul` rounds only two finite numbers
unfoldable pub product : Float → Float → Float
product nan y = nan
product (inf s) y = mul binary64 (inf s) y
product (fin s m e) nan = nan
product (fin s m e) (inf t) = mul binary64 (fin s m e) (inf t)
product (fin s m e) (fin t n d) = fin (unlike s t) (m * n) (e +ℤ d)

unfoldable pub fused : Float → Float → Float → Float
fused x y z = add binary64 (product x y) z
