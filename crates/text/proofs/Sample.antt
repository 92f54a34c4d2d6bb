-- Lines as they are printed: one table under one statement, which is proved by computing every line.
use mathlib.Core.Path.{◌≡◌, refl}
use mathlib.Core.List.{List, [] as none, ◌∷◌ as ◌then◌}
use Prim.Native.Nat.{ℕ}
use Prim.Native.Char.{code}
use Prim.Native.String.{String, [], ◌∷◌}
use lib.Ieee.{Float, nan, binary64, of_bits, to_bits}
use Rattle.float.specs.Operators.{when◌then◌else◌}
use Rattle.std.specs.Prelude.{Option, Some, None, Err}
use Rattle.rows.specs.declared.Refusal.TheVariants.{Cut}
use Rattle.solve.specs.declared.Answer.{Answer}
use Rattle.solve.specs.declared.Answer.TheVariants.{Point, Level, Across, Nothing}
use Rattle.solve.specs.declared.Unsolved.TheVariants.{Stopped, Refused}
use Rattle.solve.specs.Solve.{Outcome, Answered}
use Rattle.text.specs.Sizes.{longest_decimal}
use Rattle.text.specs.Text.{glyph, decimal_within, decimal, hex_from, hex}
use Rattle.text.specs.Lines.{point_word, level_word, across_word, nothing_word, refused_word, number_word, float_word, slot_word}
use Rattle.text.specs.Lines.{answer_words, refusal_words, outcome_words, outcome_line, end_line}

-- the ASCII codes of a text
abbrev pub ascii : String → List ℕ
ascii [] = none
ascii (c ∷ s) = code c then ascii s

infix 30 ◌prints◌
abbrev ◌prints◌ : List ℕ → String → Type 0
line prints text = line ≡ ascii text

abbrev f64 : ℕ → Float
f64 bits = of_bits binary64 bits

abbrev one : Float
one = f64 0x3FF0000000000000

abbrev infinity : Float
infinity = f64 0x7FF0000000000000

abbrev answered : Answer → Option ℕ → Option ℕ → ℕ → Outcome
answered a first second count = Answered a (record { first = first; second = second }) count

-- the sample of RULES 13.12; then -0.1, infinity, NaN and -0, rows and counts of several digits, and the refusals
abbrev pub Sample : Type 0
Sample =
    (outcome_line 1 (answered (Point one one) (Some 0) (Some 1) 7) prints "1 point 3FF0000000000000 3FF0000000000000 0 1 7\n")
    × (outcome_line 2 (answered (Point (f64 0) (f64 0x4000000000000000)) (Some 1) None 23) prints "2 point 0000000000000000 4000000000000000 1 - 23\n")
    × (end_line 2 prints "end 2\n")
    × (outcome_line 10 (answered (Level (f64 0xBFB999999999999A)) None (Some 2047) 0) prints "10 level BFB999999999999A - 2047 0\n")
    × (outcome_line 99 (answered (Across infinity) None None 18446744073709551615) prints "99 across 7FF0000000000000 - - 18446744073709551615\n")
    × (outcome_line 100 (answered (Point nan (f64 0x8000000000000000)) (Some 5) (Some 12) 1) prints "100 point 7FF8000000000000 8000000000000000 5 12 1\n")
    × (outcome_line 101 (answered Nothing None None 2) prints "101 nothing - - 2\n")
    × (outcome_line 102 (Err (Stopped 1000)) prints "102 refused 3\n")
    × (outcome_line 103 (Err (Refused Cut)) prints "103 refused 8\n")
    × (end_line 0 prints "end 0\n")

pub sample : Sample
unfolding
    of_bits to_bits when◌then◌else◌ glyph longest_decimal decimal_within decimal hex_from hex point_word level_word across_word nothing_word refused_word
    number_word float_word slot_word answer_words refusal_words outcome_words outcome_line end_line
sample = (refl, refl, refl, refl, refl, refl, refl, refl, refl, refl)
