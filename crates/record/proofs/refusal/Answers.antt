-- `record::refusal` meets its contract.
use native.Mathlib.Omega.{arith}
use Rattle.std.proofs.lemmas.Bool.Decides.{nat_tests}
use Rattle.float.specs.Operators.{when◌then◌else◌}
use Rattle.record.specs.Sizes.{field_bytes, row_bytes, record_rows}
use Rattle.record.specs.Record.{refusal}
use Rattle.record.proofs.refusal.Goals as goal

pub returns-then-kind-ne1 : goal.returns-then-kind-ne1
unfolding refusal when◌then◌else◌
returns-then-kind-ne1 c = grind (arith, nat_tests)

pub returns-then-length-lt-FIELDS : goal.returns-then-length-lt-FIELDS
unfolding refusal when◌then◌else◌ field_bytes
returns-then-length-lt-FIELDS c = grind (arith, nat_tests)

pub returns-then-rest-ne0 : goal.returns-then-rest-ne0
unfolding refusal when◌then◌else◌ field_bytes row_bytes
returns-then-rest-ne0 c = grind (arith, nat_tests)

pub returns-then-byte-gt1 : goal.returns-then-byte-gt1
unfolding refusal when◌then◌else◌ field_bytes row_bytes
returns-then-byte-gt1 c = grind (arith, nat_tests)

pub returns-then-rest-gt-ROWS : goal.returns-then-rest-gt-ROWS
unfolding refusal when◌then◌else◌ field_bytes row_bytes record_rows
returns-then-rest-gt-ROWS c = grind (arith, nat_tests)

pub returns : goal.returns
unfolding refusal when◌then◌else◌ field_bytes row_bytes record_rows
returns c = grind (arith, nat_tests)
