-- `record::le64` meets its contract.
use native.Mathlib.Omega.{arith}
use Rattle.record.proofs.Bytes.{field_split, behind, field_behind}
use Rattle.record.proofs.le64.Goals as goal

pub returns : goal.returns
returns c =
    let a = c.args in
    let bytes = a.bytes.now in
    rw (c.le32.ensures.value, c.le32-2.ensures.value, ← field_behind 8 a.at bytes) (omega (arith, field_split 4 4 0 (behind bytes a.at)))
