-- `record::normalize_byte` meets its contract.
use Rattle.record.specs.Record.{normalize_byte}
use Rattle.record.proofs.Bytes.{field-one}
use Rattle.record.proofs.normalize_byte.Goals as goal

pub returns : goal.returns
unfolding normalize_byte
returns c = rw (field-one _ c.args.head.now) c.wide.ensures.value
