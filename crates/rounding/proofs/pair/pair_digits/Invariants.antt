-- `rounding::pair::pair_digits` meets its contract: the invariant of `root_digits`, twice.
use Rattle.rounding.proofs.Digits.{Inv}
use Rattle.rounding.proofs.pair.pair_digits.Given as goal

abbrev pub invariant-loop : goal.invariant-loop
invariant-loop l = Inv l.w l.first.rest l.first.trial l.step.down l.step.up l.counter × Inv l.v l.second.rest l.second.trial l.step.down l.step.up l.counter
