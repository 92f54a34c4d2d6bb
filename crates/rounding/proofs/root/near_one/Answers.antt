-- `rounding::root::near_one` meets its contract.
use Rattle.std.proofs.Common.{leb-true}
use Rattle.rounding.proofs.NearOne.{near-one}
use Rattle.rounding.proofs.root.near_one.Goals as goal

pub returns-then-b-ge4607182418732908544 : goal.returns-then-b-ge4607182418732908544
returns-then-b-ge4607182418732908544 c = λ e. near-one c.args.b c.if-b-ge4607182418732908544.true (leb-true c.args.b _ e)
