-- How many rows lie in so many floats, and how many floats and normalised rows there are to so many rows. Assumes nothing.
use mathlib.Core.Path.{◌≡◌, refl}
use mathlib.Core.List.{List, [], ◌∷◌}
use Prim.Native.Nat.{◌*◌, ◌/◌}
use native.Mathlib.Omega.{arith}
use lib.ListN.{length, length-map}
use lib.Ieee.{Float}
use Rattle.rows.specs.declared.Row.{Row}
use Rattle.rows.specs.Rows.{rows_of, flat_of, normalized}

pub length-rows_of : (flat : List Float) → length (rows_of flat) ≡ length flat / 3
unfolding rows_of
length-rows_of [] = refl
length-rows_of (a ∷ []) = refl
length-rows_of (a ∷ b ∷ []) = refl
length-rows_of (a ∷ b ∷ c ∷ rest) = omega (arith, length-rows_of rest)

pub length-flat_of : (rows : List Row) → length (flat_of rows) ≡ 3 * length rows
unfolding flat_of
length-flat_of [] = refl
length-flat_of (r ∷ rows) = omega (arith, length-flat_of rows)

pub length-normalized : (rows : List Row) → length (normalized rows) ≡ length rows
unfolding normalized
length-normalized rows = length-map rows _
