-- Whole inputs and what they print: one table under one statement, which is proved by computing every line.
use mathlib.Core.Path.{◌≡◌, refl}
use mathlib.Core.List.{List, ◌++◌, [] as none, ◌∷◌ as ◌then◌}
use Prim.Native.Nat.{ℕ}
use Prim.Native.String.{String}
use lib.ListN.{replicate}
use Rattle.float.specs.Operators.{when◌then◌else◌}
use Rattle.text.specs.Sizes.{longest_decimal}
use Rattle.text.specs.Text.{glyph, decimal_within, decimal}
use Rattle.text.specs.Lines.{refused_word, number_word, refusal_words, outcome_words, outcome_line, end_line}
use Rattle.text.proofs.Sample.{ascii}
use Rattle.record.specs.Sizes.{header_bytes, field_bytes, row_bytes, record_rows}
use Rattle.record.specs.Bytes.{little, field}
use Rattle.record.specs.Record.{body_length, kind, size, normalize_byte, refusal, answered, outcome}
use Rattle.portions.specs.Stream.{whole, ending, printed, output}
use Rattle.reader.specs.Reader.{most_bytes}

infix 30 ◌prints◌ ◌up_to◌prints◌
abbrev ◌up_to◌prints◌ : List ℕ → ℕ → String → Type 0
input up_to limit prints text = output limit input ≡ ascii text

abbrev ◌prints◌ : List ℕ → String → Type 0
input prints text = output most_bytes input ≡ ascii text

-- a header with the body's length below 65,536 in two bytes, and some body, all zeros
abbrev given : ℕ → ℕ → ℕ → ℕ → List ℕ
given low high kind body = low then high then 0 then 0 then kind then 0 then replicate body 0

-- nothing; a byte; records of another kind, with no body and with one that a record of kind 1 could not have; one that lacks its last byte; one with too
-- many rows; one of which three bytes count; and two of which only the bytes of the first count
abbrev pub Sample : Type 0
Sample =
    (none prints "end 0\n")
    × (0 then none prints "1 refused 8\nend 1\n")
    × (given 0 0 2 0 prints "1 refused 9\nend 1\n")
    × (given 48 0 1 48 prints "1 refused 10\nend 1\n")
    × (given 3 0 7 3 ++ given 50 0 1 50 ++ given 49 0 1 48 prints "1 refused 9\n2 refused 10\n3 refused 8\nend 3\n")
    × (given 73 192 1 49225 prints "1 refused 2\nend 1\n")
    × (given 3 0 7 3 up_to 3 prints "1 refused 8\nend 1\n")
    × (given 3 0 7 3 ++ given 0 0 2 0 up_to 9 prints "1 refused 9\nend 1\n")

pub sample : Sample
unfolding
    when◌then◌else◌ glyph longest_decimal decimal_within decimal refused_word number_word refusal_words outcome_words outcome_line end_line little field
    header_bytes field_bytes row_bytes record_rows body_length kind size normalize_byte refusal answered outcome whole ending printed output most_bytes
sample = (refl, refl, refl, refl, refl, refl, refl, refl)
