-- `rounding::pack::shift_jam` meets its contract.
use Rattle.rounding.proofs.Shifts.{shift_no, far_some}
use Rattle.rounding.proofs.pack.shift_jam.Goals as goal

pub returns-else-q-d : goal.returns-else-q-d
returns-else-q-d c = shift_no c.args.a c.args.d c.ranges.a.fits c.if-q-d.false

pub returns-else-a-eq0 : goal.returns-else-a-eq0
returns-else-a-eq0 c = far_some c.args.a c.args.d c.ranges.a.fits c.if-d-lt64.false c.if-a-eq0.false
