-- What crosses to C: each answer as a record, with a value in every field for every input (RULES 2.18, 2.19). Its refusal is a number, 0 where there
-- is none; a coordinate or an end that it does not have is NaN, and anything else that it does not have 0. Assumes nothing.
use Rattle.std.specs.Prelude.{ℕ, Option, Some, None, Result, Ok, Err, Bool, true, false}
use Rattle.std.specs.Float.{nan}
use Rattle.rows.specs.declared.Point.{Point}
use Rattle.rows.specs.declared.Refusal.{Refusal}
use Rattle.rows.specs.Refusals.{number}
use Rattle.active.specs.declared.Active.{Active}
use Rattle.line.specs.declared.Bounds.{Bounds}
use Rattle.active.specs.Active.{no_rows}
use Rattle.solve.specs.declared.Answer.{Answer}
use Rattle.solve.specs.declared.Answer.TheVariants as AnswerIs
use Rattle.solve.specs.declared.Unsolved.{Unsolved}
use Rattle.solve.specs.declared.Unsolved.TheVariants.{Stopped, Refused}
use Rattle.solve.specs.Solve.{Outcome, number_of}
use Rattle.abi.specs.declared.Solved.{Solved}
use Rattle.abi.specs.declared.SourceSolved.{SourceSolved}
use Rattle.abi.specs.declared.Crossed.{Crossed}
use Rattle.abi.specs.declared.LineBounds.{LineBounds}
use Rattle.abi.specs.declared.RecoveredPoint.{RecoveredPoint}

-- ---- a row or no row

-- as a flag and a number, which says nothing where the flag is false
unfoldable pub slot : Bool → ℕ → Option ℕ
slot false k = None
slot true k = Some k

unfoldable pub has_row : Option ℕ → Bool
has_row None = false
has_row (Some k) = true

unfoldable pub row_number : Option ℕ → ℕ
row_number None = 0
row_number (Some k) = k

-- ---- what a solve answers

-- the kinds: 1 has both numbers, 2 has y alone, 3 x alone, and 4 neither
unfoldable pub answered : Answer → SourceSolved
answered (AnswerIs.Point x y) = record { refusal = 0; kind = 1; x = x; y = y }
answered (AnswerIs.Level y) = record { refusal = 0; kind = 2; x = nan; y = y }
answered (AnswerIs.Across x) = record { refusal = 0; kind = 3; x = x; y = nan }
answered AnswerIs.Nothing = record { refusal = 0; kind = 4; x = nan; y = nan }

-- and 0 is no answer
unfoldable pub refused : ℕ → SourceSolved
refused code = record { refusal = code; kind = 0; x = nan; y = nan }

-- with the count and the active rows
unfoldable pub with_rows : SourceSolved → ℕ → Active → Solved
with_rows s count act =
    record {
      refusal = s.refusal;
      kind = s.kind;
      x = s.x;
      y = s.y;
      count = count;
      first = row_number act.first;
      second = row_number act.second;
      has_first = has_row act.first;
      has_second = has_row act.second;
    }

unfoldable pub unsolved : ℕ → ℕ → Solved
unsolved code count = with_rows (refused code) count no_rows

-- refusal 3 has its count; one that comes before a row is read has 0
unfoldable pub solved : Outcome → Solved
solved (Ok got) = with_rows (answered got.answer) got.count got.active
solved (Err (Stopped count)) = unsolved 3 count
solved (Err (Refused refusal)) = unsolved (number refusal) 0

-- what the source's own entry answers
unfoldable pub source : Result Answer Unsolved → SourceSolved
source (Ok a) = answered a
source (Err why) = refused (number_of why)

-- ---- what the other entries answer

unfoldable pub of_normalized : Result (Unit {0}) Refusal → ℕ
of_normalized (Ok done) = 0
of_normalized (Err refusal) = number refusal

unfoldable pub crossed : Result Point Refusal → Crossed
crossed (Ok p) = record { refusal = 0; x = p.x; y = p.y }
crossed (Err refusal) = record { refusal = number refusal; x = nan; y = nan }

unfoldable pub bounded : Result Bounds Refusal → LineBounds
bounded (Ok bounds) = record { refusal = 0; high = bounds.high; low = bounds.low }
bounded (Err refusal) = record { refusal = number refusal; high = nan; low = nan }

unfoldable pub recovered_at : ℕ → Point → Active → RecoveredPoint
recovered_at code p act =
    record {
      refusal = code;
      x = p.x;
      y = p.y;
      first = row_number act.first;
      second = row_number act.second;
      has_first = has_row act.first;
      has_second = has_row act.second;
    }
