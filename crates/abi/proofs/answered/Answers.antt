-- `abi::answered` meets its contract.
use Rattle.abi.specs.Records.{answered}
use Rattle.abi.proofs.answered.Goals as goal

pub returns-in-Point : goal.returns-in-Point
unfolding answered
returns-in-Point c = rw c.in-Point.is

pub returns-in-Level : goal.returns-in-Level
unfolding answered
returns-in-Level c = rw (c.in-Level.is, c.nan.ensures)

pub returns-in-Across : goal.returns-in-Across
unfolding answered
returns-in-Across c = rw (c.in-Across.is, c.nan-in-Across.ensures)

pub returns-in-Nothing : goal.returns-in-Nothing
unfolding answered
returns-in-Nothing c = rw (c.in-Nothing.is, c.nan-in-Nothing-2.ensures, c.nan-in-Nothing.ensures)
