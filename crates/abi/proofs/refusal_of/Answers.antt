-- `abi::refusal_of` meets its contract.
use Rattle.abi.specs.Entries.{refusal_of}
use Rattle.abi.proofs.refusal_of.Goals as goal

pub returns : goal.returns
unfolding refusal_of
returns c = rw (c.or_ten.ensures, c.refusal_of.ensures, c.task_of.ensures)
