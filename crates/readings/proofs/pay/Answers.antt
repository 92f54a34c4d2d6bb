-- `readings::pay` meets its contract.
use borrow.Author.Tests.{le-leb, lt-leb}
use Rattle.float.specs.Operators.{when◌then◌else◌}
use Rattle.readings.specs.Readings.{paying}
use Rattle.readings.proofs.pay.Goals as goal

pub returns-then-left-readings : goal.returns-then-left-readings
unfolding paying when◌then◌else◌
returns-then-left-readings c = rw (lt-leb _ _ c.if-left-readings.true)

pub returns : goal.returns
unfolding paying when◌then◌else◌
returns c = rw (le-leb _ _ c.if-left-readings.false)
