-- What is printed for a whole input: a line for each record, and the closing count. Assumes nothing.
use Rattle.std.specs.Prelude.{ℕ, zero, suc, ◌+◌, Err, Bool, not, ◌&&◌, List, [], ◌∷◌, ◌++◌, ltb, length, take, drop}
use Rattle.float.specs.Operators.{when◌then◌else◌}
use Rattle.rows.specs.declared.Refusal.TheVariants.{Cut}
use Rattle.solve.specs.declared.Unsolved.TheVariants.{Refused}
use Rattle.text.specs.Lines.{outcome_line, end_line}
use Rattle.record.specs.Sizes.{header_bytes}
use Rattle.record.specs.Record.{size, outcome}

-- the first record is all there
unfoldable pub whole : List ℕ → Bool
whole bytes = not (ltb (length bytes) header_bytes) && not (ltb (length bytes) (size bytes))

-- what is printed where the input ends after n lines, within these bytes of a record: refusal 8 where there are some
unfoldable pub ending : ℕ → List ℕ → List ℕ
ending n [] = end_line n
ending n (b ∷ bytes) = outcome_line (n + 1) (Err (Refused Cut)) ++ end_line (n + 1)

-- what is printed for these bytes after n lines; a record has a header, so that as many turns as bytes are enough
unfoldable pub printed : ℕ → ℕ → List ℕ → List ℕ
printed zero n bytes = ending n bytes
printed (suc turns) n bytes =
    let rest = printed turns (n + 1) (drop (size bytes) bytes) in
    when whole bytes then outcome_line (n + 1) (outcome bytes) ++ rest else ending n bytes

-- bytes past the first `limit` count as not there
unfoldable pub output : ℕ → List ℕ → List ℕ
output limit input = let bytes = take limit input in printed (length bytes) 0 bytes
