-- Bytes of rows, one after the other: what is begun of a float is a word, and a float is stored with its eighth byte.
use Rattle.std.specs.Prelude.{ℕ, ◌+◌, ◌*◌, ◌/◌, ◌%◌, ◌^◌, List, [], ◌∷◌, eqb, set, Float}
use Rattle.std.specs.Float.{binary64}
use Rattle.std.specs.Float.Ieee.{of_bits}
use Rattle.float.specs.Operators.{when◌then◌else◌}

-- ---- a byte of rows, behind `before` others

-- the bytes of its float so far as a number, the latest on top: with the eighth, the lowest byte is the first
unfoldable pub pushed : ℕ → ℕ → ℕ → ℕ
pushed before word b = (when eqb (before % 8) 0 then 0 else word / 256) + b * 2 ^ 56

-- with its eighth byte a float is there
unfoldable pub rows_in : ℕ → ℕ → ℕ → List Float → List Float
rows_in before word b rows = when eqb (before % 8) 7 then set rows (before / 8) (of_bits binary64 (pushed before word b)) else rows

-- ---- bytes, one after the other

unfoldable pub word_all : ℕ → ℕ → List ℕ → ℕ
word_all before word [] = word
word_all before word (b ∷ bytes) = word_all (before + 1) (pushed before word b) bytes

unfoldable pub rows_all : ℕ → ℕ → List Float → List ℕ → List Float
rows_all before word rows [] = rows
rows_all before word rows (b ∷ bytes) = rows_all (before + 1) (pushed before word b) (rows_in before word b rows) bytes
