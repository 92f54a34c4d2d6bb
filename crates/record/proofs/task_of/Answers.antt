-- `record::task_of` meets its contract.
use Rattle.record.specs.Record.{task}
use Rattle.record.proofs.task_of.Goals as goal

pub returns : goal.returns
unfolding task
returns c =
    rw (
      ← c.normalize_byte.ensures,
      ← c.mode_of-mode.ensures,
      ← c.float_at.ensures,
      ← c.float_at-2.ensures,
      ← c.float_at-3.ensures,
      ← c.float_at-4.ensures,
      ← c.le64.ensures,
    )
