-- `rounding::pair::pair_digits` meets its contract.
use Rattle.std.proofs.Common.{arith}
use Rattle.rounding.proofs.Digits.{first, again, out}
use Rattle.rounding.proofs.pair.pair_digits.Goals as goal

pub loop-init : goal.loop-init
loop-init c = (first c.requires.0 c.of-first.ensures c.first-step.ensures, first c.requires.1 c.of-second.ensures c.first-step.ensures)

pub loop-preserved : goal.loop-preserved
loop-preserved c = (
  again c.loop.invariant.0 (omega arith) c.turn-first.ensures c.halved-step.ensures,
  again c.loop.invariant.1 (omega arith) c.turn-second.ensures c.halved-step.ensures,
)

pub returns-clause-a_bound : goal.returns-clause-a_bound
returns-clause-a_bound c = out c.loop.invariant.0 c.loop-test.false c.whole.ensures

pub returns-clause-b_bound : goal.returns-clause-b_bound
returns-clause-b_bound c = out c.loop.invariant.1 c.loop-test.false c.whole-2.ensures
