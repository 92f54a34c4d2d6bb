-- Rust's functions on f64 that have no operator, and what a caller may use of min and max. Assumes nothing.
use Rattle.std.specs.Prelude.{◌≡◌, ◌⊎◌, Bool, true, false, not, ◌&&◌, ◌||◌, Float}
use Rattle.std.specs.Float.{nan, inf, fin, binary64}
use Rattle.std.specs.Float.Ieee.{is_nan, of_bits}
use Rattle.float.specs.Operators.{when◌then◌else◌, ◌≺◌, ◌≻◌, ◌≈◌}

infix 50 ◌⋖◌ ◌⋗◌
unfoldable pub zero : Float
zero = of_bits binary64 0

unfoldable pub one : Float
one = of_bits binary64 0x3ff0_0000_0000_0000

-- the value without its sign
unfoldable pub abs : Float → Float
abs nan = nan
abs (inf s) = inf false
abs (fin s m e) = fin false m e

-- neither infinite nor NaN
unfoldable pub finite : Float → Bool
finite nan = false
finite (inf s) = false
finite (fin s m e) = true

-- the sign, which a zero has too
unfoldable pub negative : Float → Bool
negative nan = false
negative (inf s) = s
negative (fin s m e) = s

-- The order in which IEEE 754-2019 takes the lesser and the greater of two: that of the numbers, and -0 below +0, which `<` does not tell
-- apart. No other two floats are equal and differ in sign.
unfoldable pub ◌⋖◌ : Float → Float → Bool
x ⋖ y = x ≺ y || x ≈ y && (negative x && not (negative y))

abbrev pub ◌⋗◌ : Float → Float → Bool
x ⋗ y = y ⋖ x

-- its minimumNumber and maximumNumber: the lesser and the greater of two numbers, and a number beats a NaN
unfoldable pub min : Float → Float → Float
min x y = when is_nan x || y ⋖ x then y else x

unfoldable pub max : Float → Float → Float
max x y = when is_nan x || y ⋗ x then y else x

-- two comparisons, the lower bound's first, the other on what that one left. A NaN stays, whatever the bounds are
unfoldable pub clamp : Float → Float → Float → Float
clamp x low high = let raised = when x ≺ low then low else x in when raised ≻ high then high else raised

-- The standard's sentence on min, with _⋖_, and on max, with _⋗_, and all that a caller may use of them: where one of the two is NaN the other one,
-- so that two NaN give NaN; else one of the two that neither comes before.
pub record Picks (before : Float → Float → Bool) (pick : Float → Float → Float) : Type 0 where
  pub past_nan_left : (y : Float) → pick nan y ≡ y
  pub past_nan_right : (x : Float) → pick x nan ≡ x
  pub one_of_two : (x y : Float) → (pick x y ≡ x) ⊎ (pick x y ≡ y)
  pub none_before : (x y : Float) → (before x (pick x y) ≡ false) × (before y (pick x y) ≡ false)
