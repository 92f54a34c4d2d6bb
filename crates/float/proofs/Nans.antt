-- A test for a NaN by `x != x` is true at the one NaN of the logic and nowhere else; and that NaN's bits. Assumes nothing.
use mathlib.Core.Path.{◌≡◌, refl}
use mathlib.Core.Bool.{true, false, false≢true}
use Prim.Native.Nat.{◌*◌}
use borrow.Author.Tests.{eq-eqb}
use lib.Ieee.{Float, nan, inf, fin, binary64, up, down, ne, is_nan, to_bits}

pub nan_test : (x : Float) → is_nan x ≡ ne x x
unfolding ne is_nan
nan_test nan = refl
nan_test (inf true) = refl
nan_test (inf false) = refl
nan_test (fin true m e) = rw (eq-eqb (m * up e * down e) (m * up e * down e) refl)
nan_test (fin false m e) = rw (eq-eqb (m * up e * down e) (m * up e * down e) refl)

-- the logic has one NaN
pub one_nan : (x : Float) → is_nan x ≡ true → x ≡ nan
unfolding is_nan
one_nan nan h = refl
one_nan (inf s) h = absurd (false≢true h)
one_nan (fin s m e) h = absurd (false≢true h)

-- and one pattern of bits for it
pub bits_of_nan : to_bits binary64 nan ≡ 0x7FF8_0000_0000_0000
unfolding to_bits
bits_of_nan = refl
