-- `rounding::pack::parts_of` meets its contract.
use Rattle.rounding.proofs.Decode.{taken_masked, normal_masked}
use Rattle.rounding.proofs.pack.parts_of.Goals as goal

pub returns-then-field-eq0 : goal.returns-then-field-eq0
returns-then-field-eq0 c = taken_masked c.args.x.bits c.args.x.positive c.if-field-eq0.true

pub returns-else-field-eq0 : goal.returns-else-field-eq0
returns-else-field-eq0 c = normal_masked c.args.x.bits c.args.x.finite c.if-field-eq0.false
