-- `rows::count` meets its contract. Assumes nothing.
use borrow.Author.Tests.{eq-eqb, ne_eqb, lt-ltb, le-ltb}
use Rattle.float.specs.Operators.{when◌then◌else◌}
use Rattle.rows.specs.Rows.{refusal}
use Rattle.rows.proofs.count.Goals as goal

pub returns-then-floats-width-ne0 : goal.returns-then-floats-width-ne0
unfolding refusal when◌then◌else◌
returns-then-floats-width-ne0 c = rw (ne_eqb _ _ c.if-floats-width-ne0.true)

pub returns-then-floats-width-gt-MOST_ROWS : goal.returns-then-floats-width-gt-MOST_ROWS
unfolding refusal when◌then◌else◌
returns-then-floats-width-gt-MOST_ROWS c = rw (eq-eqb _ _ c.if-floats-width-ne0.false, lt-ltb _ _ c.if-floats-width-gt-MOST_ROWS.true)

pub returns : goal.returns
unfolding refusal when◌then◌else◌
returns c = rw (eq-eqb _ _ c.if-floats-width-ne0.false, le-ltb _ _ c.if-floats-width-gt-MOST_ROWS.false)
