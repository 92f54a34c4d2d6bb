-- What the contracts of the inner functions say of numbers that stand for a fraction or a float. No public entry cites it. Assumes nothing.
use Rattle.std.specs.Prelude.{◌≡◌, ℕ, ◌+◌, ◌-◌, ◌*◌, ◌/◌, ◌%◌, ◌^◌, ◌<◌, ◌≤◌, Bool, cond, ◌⊎◌, from_bits, Float}
use Rattle.std.specs.Float.{binary64}
use Rattle.std.specs.Float.Ieee.{units, unlike}
use Rattle.std.specs.Float.Ieee.Exact.{HasValue}
use Rattle.rounding.specs.Root.{root}
use Rattle.rounding.specs.Fused.{fused}

-- J stands for a / b: it is equal to it, or it is odd and less than 1 away
abbrev pub Sticky : ℕ → ℕ → ℕ → Type 0
Sticky a b J = (a ≡ J * b) ⊎ ((J % 2 ≡ 1) × (a < (J + 1) * b) × (J * b < a + b))

-- the float whose bits are b, with the sign set beside them
abbrev pub signed : Bool → ℕ → Float
signed s b = from_bits binary64 (b + cond s (2 ^ 63) 0)

-- b is the pattern, with the sign left out, of q * 2 ^ k units
pub record Pattern (k q b : ℕ) : Type 0 where
  pub small : b < 2 ^ 63
  pub reads : (s : Bool) → signed s b ≡ units binary64 s q k

-- the float with the pattern b is m * 2 ^ e / 2 ^ 1136
pub record Taken (b m e : ℕ) : Type 0 where
  pub least : 2 ^ 62 ≤ m
  pub most : m < 2 ^ 63
  pub whole : m % 1024 ≡ 0
  pub far : e < 2098
  pub value : (s : Bool) → HasValue (signed s b) s (m * 2 ^ e) (2 ^ 1136)

-- the root of the float with the pattern b has the digits of the root of w * 2 ^ 54, and half + 485 beside them
pub record Radical (b w half : ℕ) : Type 0 where
  pub small : w < 2 ^ 54
  pub near : half + 485 ≤ 2045
  pub reads : (q : ℕ) → (q * q ≤ w * 2 ^ 54) × (w * 2 ^ 54 < (q + 1) * (q + 1))
      → from_bits binary64 ((half + 485) * 2 ^ 52 + (q + 1) / 2) ≡ root (from_bits binary64 b)

-- a turn of a root's digits: the digit is 1 where the trial t is at most the rest x, and then the trial goes up by u, and else down by d
abbrev pub Turned : ℕ → ℕ → ℕ → ℕ → ℕ → ℕ → Type 0
Turned x t u d x' t' = ((t ≤ x) × (t' ≡ t + u) × (x' ≡ (x - t) * 2)) ⊎ ((x < t) × (t' ≡ t - d) × (x' ≡ x * 2))

-- after the last turn q is the root's whole part, its last digit included
abbrev pub Ended : ℕ → ℕ → ℕ → Type 0
Ended x t q = ((t ≤ x) × (q ≡ (t + 1) / 2)) ⊎ ((x < t) × (q ≡ (t - 1) / 2))

-- near 1 the pattern of a root is that half way between b and the pattern of 1, rounded down
pub record Halved (b : ℕ) : Type 0 where
  pub small : b < 2 ^ 62
  pub reads : from_bits binary64 ((b + 0x3ff0_0000_0000_0000) / 2) ≡ root (from_bits binary64 b)

-- p has the size and the zeros at its end of a product of two numbers of `Taken`
pub record Multiplied (p : ℕ) : Type 0 where
  pub least : 2 ^ 124 ≤ p
  pub most : p < 2 ^ 126
  pub ends : p % 2 ^ 20 ≡ 0

-- q has the size and the zeros at its end of a number of `Taken` in the upper of two words
pub record Raised (q : ℕ) : Type 0 where
  pub least : 2 ^ 126 ≤ q
  pub most : q < 2 ^ 127
  pub ends : q % 2 ^ 74 ≡ 0

-- r is x * y + z, rounded once, for floats with the patterns ax, ay and az. Of the signs of x and y only that of their product, na, tells; nc is that of z.
abbrev pub Fuses : Bool → ℕ → ℕ → Bool → ℕ → Float → Type 0
Fuses na ax ay nc az r = (sx sy : Bool) → unlike sx sy ≡ na → r ≡ fused (signed sx ax) (signed sy ay) (signed nc az)
