-- Rust's operators on f64 under short names, and a choice between two values. Assumes nothing.
use Rattle.std.specs.Prelude.{Bool, true, false, Float}
use Rattle.std.specs.Float.{binary64}
use Rattle.std.specs.Float.Ieee.{add, sub, mul, div, lt, le, eq}

infixl 70 ◌⊗◌ ◌⊘◌
infixl 60 ◌⊕◌ ◌⊖◌
infix 50 ◌≺◌ ◌≼◌ ◌≻◌ ◌≈◌
infix 20 when◌then◌else◌
unfoldable pub when◌then◌else◌ : {A : Type 0} → Bool → A → A → A
when◌then◌else◌ true x y = x
when◌then◌else◌ false x y = y

-- + - * /, each rounded once
abbrev pub ◌⊕◌ : Float → Float → Float
x ⊕ y = add binary64 x y

abbrev pub ◌⊖◌ : Float → Float → Float
x ⊖ y = sub binary64 x y

abbrev pub ◌⊗◌ : Float → Float → Float
x ⊗ y = mul binary64 x y

abbrev pub ◌⊘◌ : Float → Float → Float
x ⊘ y = div binary64 x y

-- < <= > ==, all false at a NaN
abbrev pub ◌≺◌ : Float → Float → Bool
x ≺ y = lt x y

abbrev pub ◌≼◌ : Float → Float → Bool
x ≼ y = le x y

abbrev pub ◌≻◌ : Float → Float → Bool
x ≻ y = lt y x

abbrev pub ◌≈◌ : Float → Float → Bool
x ≈ y = eq x y
