-- `reader::size_of` meets its contract.
use Rattle.record.specs.Sizes.{header_bytes}
use Rattle.record.specs.Record.{size}
use Rattle.reader.proofs.size_of.Goals as goal

pub returns-clause-value : goal.returns-clause-value
unfolding size header_bytes
returns-clause-value c = rw (← c.body_length.ensures.value)
