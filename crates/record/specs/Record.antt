-- A record of RULES 12: a header, the body's length and the kind, and a body; and what comes of it. Assumes nothing.
use Rattle.std.specs.Prelude.{ℕ, ◌+◌, ◌-◌, ◌/◌, ◌%◌, Option, Some, None, not, ◌||◌, List, ◌++◌, eqb, ltb, take, drop, Float}
use Rattle.float.specs.Operators.{when◌then◌else◌}
use Rattle.once.specs.declared.Normalize.{Normalize}
use Rattle.once.specs.declared.Normalize.TheVariants.{Off, Source}
use Rattle.once.specs.declared.Task.{Task}
use Rattle.rows.specs.declared.Refusal.{Refusal}
use Rattle.rows.specs.declared.Refusal.TheVariants.{TooMany, UnknownKind, Malformed}
use Rattle.solve.specs.Solve.{Ended, Outcome, solve, unless_refused}
use Rattle.record.specs.Sizes.{header_bytes, field_bytes, row_bytes, record_rows, rows_at}
use Rattle.record.specs.Bytes.{field, float, floats}

-- ---- the header

unfoldable pub body_length : List ℕ → ℕ
body_length bytes = field 4 0 bytes

unfoldable pub kind : List ℕ → ℕ
kind bytes = field 2 4 bytes

-- how many bytes the record has
unfoldable pub size : List ℕ → ℕ
size bytes = header_bytes + body_length bytes

-- ---- the body of a record of kind 1: fields, then rows

unfoldable pub normalize_byte : List ℕ → ℕ
normalize_byte bytes = field 1 54 bytes

unfoldable pub mode : ℕ → Normalize
mode byte = when eqb byte 0 then Off else Source

unfoldable pub task : List ℕ → Task
task bytes =
    record {
      tol = record { feasibility = float 6 bytes; scale = float 14 bytes };
      start = record { x = float 22 bytes; y = float 30 bytes; skip = field 8 38 bytes };
      normalize = mode (normalize_byte bytes);
    }

unfoldable pub allowance : List ℕ → ℕ
allowance bytes = field 8 46 bytes

-- how many floats its rows have
unfoldable pub float_count : List ℕ → ℕ
float_count bytes = (body_length bytes - field_bytes) / 8

unfoldable pub row_floats : List ℕ → List Float
row_floats bytes = floats (float_count bytes) (drop rows_at bytes)

-- ---- what comes of a record that is all there

-- refusals 9, 10 and 2, in that order, by the kind, the body's length and the normalise byte
unfoldable pub refusal : ℕ → ℕ → ℕ → Option Refusal
refusal kind length byte =
    when not (eqb kind 1) then Some UnknownKind
    else when ltb length field_bytes || not (eqb ((length - field_bytes) % row_bytes) 0) || ltb 1 byte then Some Malformed
    else when ltb record_rows ((length - field_bytes) / row_bytes) then Some TooMany
    else None

-- what comes of a record by the bytes before its rows and by the floats of its rows, behind which others may stand: a refusal, which leaves all floats
-- as they were, or what the solve comes to, which leaves its rows
unfoldable pub answered : List ℕ → List Float → Ended (List Float)
answered head floats =
    let n = float_count head in
    let solved = solve (task head) (allowance head) (take n floats) in
    unless_refused (refusal (kind head) (body_length head) (normalize_byte head)) floats
    (record { outcome = solved.outcome; rows = solved.rows ++ drop n floats })

unfoldable pub outcome : List ℕ → Outcome
outcome bytes = (answered bytes (row_floats bytes)).outcome
