-- `abi::collector_of` meets its contract.
use Rattle.abi.specs.Entries.{collector}
use Rattle.abi.proofs.collector_of.Goals as goal

pub returns : goal.returns
unfolding collector
returns c = rw (c.slot_of.ensures, c.slot_of-2.ensures)
