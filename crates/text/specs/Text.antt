-- Numbers as text, in ASCII, and text put into lent bytes. Assumes nothing.
use Rattle.std.specs.Prelude.{ℕ, zero, suc, ◌+◌, ◌*◌, ◌/◌, ◌%◌, ◌^◌, List, [], ◌∷◌, ◌++◌, ltb, length, take, drop}
use Rattle.float.specs.Operators.{when◌then◌else◌}
use Rattle.text.specs.Sizes.{longest_decimal}

-- a digit below 16: `0` to `9`, then `A` to `F`
unfoldable pub glyph : ℕ → ℕ
glyph d = when ltb d 10 then 48 + d else 55 + d

-- the decimal digits of a number of k digits at most
unfoldable pub decimal_within : ℕ → ℕ → List ℕ
decimal_within zero n = []
decimal_within (suc k) n =
    let rest = decimal_within k (n / 10) in
    when ltb n 10 then glyph n ∷ [] else rest ++ glyph (n % 10) ∷ []

unfoldable pub decimal : ℕ → List ℕ
decimal n = decimal_within longest_decimal n

-- k hexadecimal digits from the top of 64 bits down: the topmost four bits, then what is left, moved up by four
unfoldable pub hex_from : ℕ → ℕ → List ℕ
hex_from zero n = []
hex_from (suc k) n = glyph (n / 2 ^ 60) ∷ hex_from k (n % 2 ^ 60 * 16)

unfoldable pub hex : ℕ → List ℕ
hex n = hex_from 16 n

-- lent bytes with some text in place of what stood from `at` on
unfoldable pub written : List ℕ → ℕ → List ℕ → List ℕ
written out at text = take at out ++ text ++ drop (at + length text) out
