-- `reader::take_fields` meets its contract.
use mathlib.Core.Path.{sym, ◌∙◌}
use native.Mathlib.Omega.{arith}
use borrow.Author.Tests.{lt-ltb, le-ltb}
use lib.ListN.{take, length-take}
use Rattle.float.specs.Operators.{when◌then◌else◌}
use Rattle.record.specs.Sizes.{rows_at}
use Rattle.reader.specs.Parts.{head_on, of_fields}
use Rattle.reader.proofs.Placed.{copied, head_on-none}
use Rattle.reader.proofs.take_fields.Goals as goal

pub returns-then-passed-end : goal.returns-then-passed-end
unfolding of_fields rows_at
returns-then-passed-end c =
    let a = c.args in
    record { taken = omega arith; head = sym (head_on-none a.passed a.head.now) }

pub returns-then-passed-kept_of : goal.returns-then-passed-kept_of
unfolding of_fields head_on when◌then◌else◌ rows_at
returns-then-passed-kept_of c =
    let a = c.args in
    let some = take c.min-n.result a.bytes.now in
    let put = c.put.ensures.out ∙ copied a.head.now a.passed some (simp length-take (omega arith)) in
    record { taken = omega arith; head = rw (← c.kept_of.ensures, lt-ltb _ _ c.if-passed-kept_of.true) put }

pub returns-else-passed-kept_of : goal.returns-else-passed-kept_of
unfolding of_fields head_on when◌then◌else◌ rows_at
returns-else-passed-kept_of c =
    record { taken = omega arith; head = rw (← c.kept_of.ensures, le-ltb _ _ c.if-passed-kept_of.false) }
