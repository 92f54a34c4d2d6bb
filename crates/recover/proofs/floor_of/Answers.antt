-- `recover::floor_of` meets its contract.
use lib.Ieee.{neg}
use Rattle.recover.specs.Recover.{floor_of}
use Rattle.recover.proofs.floor_of.Goals as goal

pub returns-in-None : goal.returns-in-None
unfolding floor_of neg
returns-in-None c = rw (c.in-None.is, c.infinity.ensures)

pub returns-in-Some : goal.returns-in-Some
unfolding floor_of
returns-in-Some c = rw c.in-Some.is
