-- The lines that `rowrun` prints. Assumes nothing.
use Rattle.std.specs.Prelude.{ℕ, Option, Some, None, Ok, Err, List, [], ◌∷◌, ◌++◌, Float}
use Rattle.std.specs.Float.{binary64}
use Rattle.std.specs.Float.Ieee.{to_bits}
use Rattle.solve.specs.declared.Answer.{Answer}
use Rattle.solve.specs.declared.Answer.TheVariants.{Point, Level, Across, Nothing}
use Rattle.solve.specs.Solve.{Outcome, number_of}
use Rattle.text.specs.Text.{decimal, hex}

-- ---- words, each with the blank before it

-- ` point`
unfoldable pub point_word : List ℕ
point_word = 32 ∷ 112 ∷ 111 ∷ 105 ∷ 110 ∷ 116 ∷ []

-- ` level`
unfoldable pub level_word : List ℕ
level_word = 32 ∷ 108 ∷ 101 ∷ 118 ∷ 101 ∷ 108 ∷ []

-- ` across`
unfoldable pub across_word : List ℕ
across_word = 32 ∷ 97 ∷ 99 ∷ 114 ∷ 111 ∷ 115 ∷ 115 ∷ []

-- ` nothing`
unfoldable pub nothing_word : List ℕ
nothing_word = 32 ∷ 110 ∷ 111 ∷ 116 ∷ 104 ∷ 105 ∷ 110 ∷ 103 ∷ []

-- ` refused`
unfoldable pub refused_word : List ℕ
refused_word = 32 ∷ 114 ∷ 101 ∷ 102 ∷ 117 ∷ 115 ∷ 101 ∷ 100 ∷ []

unfoldable pub number_word : ℕ → List ℕ
number_word n = 32 ∷ decimal n

-- a float by its bits; every NaN by those of one
unfoldable pub float_word : Float → List ℕ
float_word x = 32 ∷ hex (to_bits binary64 x)

-- no row is a dash
unfoldable pub slot_word : Option ℕ → List ℕ
slot_word None = 32 ∷ 45 ∷ []
slot_word (Some k) = number_word k

-- ---- lines

unfoldable pub answer_words : Answer → List ℕ
answer_words (Point x y) = point_word ++ float_word x ++ float_word y
answer_words (Level y) = level_word ++ float_word y
answer_words (Across x) = across_word ++ float_word x
answer_words Nothing = nothing_word

unfoldable pub refusal_words : ℕ → List ℕ
refusal_words k = refused_word ++ number_word k

unfoldable pub outcome_words : Outcome → List ℕ
outcome_words (Ok got) = answer_words got.answer ++ slot_word got.active.first ++ slot_word got.active.second ++ number_word got.count
outcome_words (Err why) = refusal_words (number_of why)

-- record k and its outcome
unfoldable pub outcome_line : ℕ → Outcome → List ℕ
outcome_line k got = decimal k ++ outcome_words got ++ 10 ∷ []

-- `end` and the number of lines before it
unfoldable pub end_line : ℕ → List ℕ
end_line n = 101 ∷ 110 ∷ 100 ∷ [] ++ number_word n ++ 10 ∷ []
