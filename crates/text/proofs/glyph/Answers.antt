-- `text::glyph` meets its contract.
use borrow.Author.Tests.{lt-ltb, le-ltb}
use Rattle.float.specs.Operators.{when◌then◌else◌}
use Rattle.text.specs.Text.{glyph}
use Rattle.text.proofs.glyph.Goals as goal

pub returns-then-d-lt10 : goal.returns-then-d-lt10
unfolding glyph when◌then◌else◌
returns-then-d-lt10 c = rw (lt-ltb _ 10 c.if-d-lt10.true)

pub returns-else-d-lt10 : goal.returns-else-d-lt10
unfolding glyph when◌then◌else◌
returns-else-d-lt10 c = rw (le-ltb _ 10 c.if-d-lt10.false)
