-- `abi::solved_of` meets its contract.
use Rattle.abi.specs.Records.{solved}
use Rattle.abi.proofs.solved_of.Goals as goal

pub returns-in-Ok : goal.returns-in-Ok
unfolding solved
returns-in-Ok c = simp (c.in-Ok.is, ← c.answered.ensures, ← c.with_rows.ensures)

pub returns-in-Err-Stopped : goal.returns-in-Err-Stopped
unfolding solved
returns-in-Err-Stopped c =
    let stopped = rw c.in-Err-Stopped.is at c.in-Err-Stopped.field-0-is in
    rw (c.in-Err-Stopped.is, stopped) (rw c.from.ensures at c.unsolved.ensures)

pub returns-in-Err-Refused : goal.returns-in-Err-Refused
unfolding solved
returns-in-Err-Refused c =
    let refused = rw c.in-Err-Refused.is at c.in-Err-Refused.field-0-is in
    rw (c.in-Err-Refused.is, refused, ← c.from-in-Err-Refused.ensures) c.unsolved-in-Err-Refused.ensures
