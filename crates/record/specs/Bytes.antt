-- Numbers and floats that lie in bytes, the lowest byte first. Assumes nothing.
use Rattle.std.specs.Prelude.{ℕ, zero, suc, ◌+◌, ◌*◌, List, [], ◌∷◌, take, drop, Float}
use Rattle.std.specs.Float.{binary64}
use Rattle.std.specs.Float.Ieee.{of_bits}

unfoldable pub little : List ℕ → ℕ
little [] = 0
little (b ∷ bytes) = b + 256 * little bytes

-- the number in k bytes from `at` on
unfoldable pub field : ℕ → ℕ → List ℕ → ℕ
field k at bytes = little (take k (drop at bytes))

unfoldable pub float : ℕ → List ℕ → Float
float at bytes = of_bits binary64 (field 8 at bytes)

-- the first n floats
unfoldable pub floats : ℕ → List ℕ → List Float
floats zero bytes = []
floats (suc n) bytes = float 0 bytes ∷ floats n (drop 8 bytes)
