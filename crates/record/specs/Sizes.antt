-- The sizes of a record's parts in bytes, and how many rows one that is solved has at most. Assumes nothing.
use Rattle.std.specs.Prelude.{ℕ, ◌+◌, ◌*◌}

-- the body's length and the kind
unfoldable pub header_bytes : ℕ
header_bytes = 6

-- the fields of a body of kind 1, from the feasibility tolerance to the normalise byte
unfoldable pub field_bytes : ℕ
field_bytes = 49

-- a row's three floats
unfoldable pub row_bytes : ℕ
row_bytes = 24

unfoldable pub record_rows : ℕ
record_rows = 2048

-- where the rows begin: 6 + 49
unfoldable pub rows_at : ℕ
unfolding header_bytes field_bytes
rows_at = header_bytes + field_bytes

-- the floats of the most rows: 3 * 2048 = 6,144
unfoldable pub most_floats : ℕ
unfolding record_rows
most_floats = 3 * record_rows
