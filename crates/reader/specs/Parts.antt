-- Bytes that take their places one after the other: what the reader's inner functions do at once. Assumes nothing.
use Rattle.std.specs.Prelude.{ℕ, ◌-◌, min, List, [], ◌∷◌, ltb, length, Float}
use Rattle.std.proofs.lemmas.List.Edits.{sets}
use Rattle.float.specs.Operators.{when◌then◌else◌}
use Rattle.record.specs.Sizes.{header_bytes, rows_at}
use Rattle.record.specs.Record.{size}
use Rattle.gather.specs.Gather.{word_all, rows_all}
use Rattle.reader.specs.Reader.{State, unfinished, kept, keeps_rows, placed}

-- ---- of rows, where they are held

unfoldable pub word_on : ℕ → ℕ → List ℕ → List ℕ → ℕ
word_on passed word head bytes = when keeps_rows head then word_all (passed - rows_at) word bytes else word

unfoldable pub rows_on : ℕ → ℕ → List ℕ → List Float → List ℕ → List Float
rows_on passed word head rows bytes = when keeps_rows head then rows_all (passed - rows_at) word rows bytes else rows

-- ---- of the fields, where they are held

unfoldable pub head_on : ℕ → List ℕ → List ℕ → List ℕ
head_on passed head bytes = when ltb passed (kept head) then sets head passed bytes else head

-- ---- how many belong to which part of a record of which some have passed

unfoldable pub of_header : ℕ → List ℕ → ℕ
of_header passed bytes = min (header_bytes - passed) (length bytes)

-- once the header is there
unfoldable pub of_fields : ℕ → List ℕ → List ℕ → ℕ
of_fields passed head bytes = min (min rows_at (size head) - passed) (length bytes)

-- once all before the rows is there
unfoldable pub of_rows : ℕ → List ℕ → List ℕ → ℕ
of_rows passed head bytes = when ltb passed rows_at then 0 else min (size head - passed) (length bytes)

-- ---- of a record

unfoldable pub placed_all : State → List ℕ → State
placed_all s [] = s
placed_all s (b ∷ bytes) = placed_all (placed s b) bytes

-- up to its end
unfoldable pub placed_up : State → List ℕ → State
placed_up s [] = s
placed_up s (b ∷ bytes) =
    let t = placed s b in
    let more = placed_up t bytes in
    when unfinished t.link.passed t.head then more else t
