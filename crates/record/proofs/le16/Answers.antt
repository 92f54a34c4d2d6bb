-- `record::le16` meets its contract.
use Prim.Native.Nat.{◌+◌}
use native.Mathlib.Omega.{arith}
use Rattle.record.proofs.Bytes.{field_split, field-one}
use Rattle.record.proofs.le16.Goals as goal

pub returns-clause-value : goal.returns-clause-value
returns-clause-value c =
    let a = c.args in
    let bytes = a.bytes.now in
    omega (arith, field_split 1 1 a.at bytes, field-one a.at bytes, field-one (a.at + 1) bytes)
