-- `by_value::refusal` meets its contract.
use borrow.Author.Tests.{lt-ltb, le-ltb}
use Rattle.float.specs.Operators.{when◌then◌else◌}
use Rattle.by_value.specs.ByValue.{too_many}
use Rattle.by_value.proofs.refusal.Goals as goal

pub returns-then-n-gt-MOST_ROWS : goal.returns-then-n-gt-MOST_ROWS
unfolding too_many when◌then◌else◌
returns-then-n-gt-MOST_ROWS c = rw (lt-ltb _ _ c.if-n-gt-MOST_ROWS.true)

pub returns-else-n-gt-MOST_ROWS : goal.returns-else-n-gt-MOST_ROWS
unfolding too_many when◌then◌else◌
returns-else-n-gt-MOST_ROWS c = rw (le-ltb _ _ c.if-n-gt-MOST_ROWS.false)
