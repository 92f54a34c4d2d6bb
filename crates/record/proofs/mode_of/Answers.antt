-- `record::mode_of` meets its contract.
use borrow.Author.Tests.{eq-eqb, ne_eqb}
use Rattle.float.specs.Operators.{when◌then◌else◌}
use Rattle.record.specs.Record.{mode}
use Rattle.record.proofs.mode_of.Goals as goal

pub returns-then-byte-eq0 : goal.returns-then-byte-eq0
unfolding mode when◌then◌else◌
returns-then-byte-eq0 c = rw (eq-eqb _ _ c.if-byte-eq0.true)

pub returns : goal.returns
unfolding mode when◌then◌else◌
returns c = rw (ne_eqb _ _ c.if-byte-eq0.false)
