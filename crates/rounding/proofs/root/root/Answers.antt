-- `rounding::root::root` meets its contract.
use Rattle.std.proofs.Common.{◌∙◌, arith}
use Rattle.rounding.proofs.Packed.{small_real}
use Rattle.rounding.proofs.RootCases.{root_of_bits}
use Rattle.rounding.proofs.root.root.Goals as goal

pub float_from_bits-result : goal.float_from_bits-result
float_from_bits-result c = small_real _ (omega (arith, (c.near_one.ensures c.if-near_one.true).small))

pub returns-then-near_one : goal.returns-then-near_one
returns-then-near_one c = (c.near_one.ensures c.if-near_one.true).reads ∙ root_of_bits c.args.x c.well_formed.0.1
