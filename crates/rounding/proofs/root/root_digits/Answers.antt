-- `rounding::root::root_digits` meets its contract.
use Rattle.std.proofs.Common.{arith}
use Rattle.rounding.proofs.Digits.{first, again, out}
use Rattle.rounding.proofs.root.root_digits.Goals as goal

pub loop-init : goal.loop-init
loop-init c = first c.requires c.of-root.ensures c.first-step.ensures

pub loop-preserved : goal.loop-preserved
loop-preserved c = again c.loop.invariant (omega arith) c.turn-root.ensures c.halved-step.ensures

pub returns : goal.returns
returns c = out c.loop.invariant c.loop-test.false c.whole.ensures
