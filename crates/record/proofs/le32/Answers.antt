-- `record::le32` meets its contract.
use native.Mathlib.Omega.{arith}
use Rattle.record.proofs.Bytes.{field_split, field-one, behind, field_behind}
use Rattle.record.proofs.le32.Goals as goal

pub returns-clause-value : goal.returns-clause-value
returns-clause-value c =
    let a = c.args in
    let here = behind a.bytes.now a.at in
    rw (c.le16.ensures.value, c.wide.ensures.value, c.wide-2.ensures.value, ← field_behind 4 a.at a.bytes.now)
    (omega (arith, field_split 2 2 0 here, field_split 1 1 2 here, field-one 2 here, field-one 3 here))
