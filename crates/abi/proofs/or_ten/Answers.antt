-- `abi::or_ten` meets its contract.
use Rattle.float.specs.Operators.{when◌then◌else◌}
use Rattle.abi.specs.Entries.{or_ten}
use Rattle.abi.proofs.or_ten.Goals as goal

pub returns-in-None : goal.returns-in-None
unfolding or_ten when◌then◌else◌
returns-in-None c = rw (c.in-None.is, ← c.no_mode.ensures, c.if-no_mode.true)

pub returns-in_default : goal.returns-in_default
unfolding or_ten when◌then◌else◌
returns-in_default c = rw (c.in-None.is, ← c.no_mode.ensures, c.if-no_mode.false)

pub returns-in_default-2 : goal.returns-in_default-2
unfolding or_ten
returns-in_default-2 c = rw c.in_default.is
