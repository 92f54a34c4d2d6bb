-- `line::meeting` meets its contract.
use Rattle.float.specs.Operators.{when◌then◌else◌}
use Rattle.rows.specs.Constants.{eps_rounding, half}
use Rattle.line.specs.Line.{meeting}
use Rattle.line.proofs.meeting.Goals as goal

pub returns-then-low-high-2 : goal.returns-then-low-high-2
unfolding meeting when◌then◌else◌ eps_rounding half
returns-then-low-high-2 c =
    rw (c.if-autonan.true, ← c.abs.ensures, ← c.abs-then-autonan.ensures, ← c.max-room.ensures, c.if-low-high.true, c.if-low-high-2.true)

pub returns-then-low-high : goal.returns-then-low-high
unfolding meeting when◌then◌else◌ eps_rounding half
returns-then-low-high c =
    rw (c.if-autonan.true, ← c.abs.ensures, ← c.abs-then-autonan.ensures, ← c.max-room.ensures, c.if-low-high.true, c.if-low-high-2.false)

pub returns-then-autonan : goal.returns-then-autonan
unfolding meeting when◌then◌else◌ eps_rounding half
returns-then-autonan c =
    rw (c.if-autonan.true, ← c.abs.ensures, ← c.abs-then-autonan.ensures, ← c.max-room.ensures, c.if-low-high.false, ← c.void.ensures)

pub returns : goal.returns
unfolding meeting when◌then◌else◌ eps_rounding half
returns c = rw c.if-autonan.false
