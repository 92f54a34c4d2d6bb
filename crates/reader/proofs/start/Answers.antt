-- `reader::start` meets its contract.
use native.Mathlib.Nat.{le_of_lt, min-eq_left, min-eq_right}
use Rattle.reader.specs.Reader.{most_bytes, started}
use Rattle.reader.proofs.start.Goals as goal

pub returns-then-limit-lt-MOST_BYTES : goal.returns-then-limit-lt-MOST_BYTES
unfolding started most_bytes
returns-then-limit-lt-MOST_BYTES c = rw (min-eq_left (le_of_lt c.if-limit-lt-MOST_BYTES.true))

pub returns-else-limit-lt-MOST_BYTES : goal.returns-else-limit-lt-MOST_BYTES
unfolding started most_bytes
returns-else-limit-lt-MOST_BYTES c = rw (min-eq_right c.if-limit-lt-MOST_BYTES.false)
