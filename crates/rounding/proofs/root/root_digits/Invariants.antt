-- `rounding::root::root_digits` meets its contract.
use Rattle.rounding.proofs.Digits.{Inv}
use Rattle.rounding.proofs.root.root_digits.Given as goal

abbrev pub invariant-loop : goal.invariant-loop
invariant-loop l = Inv l.w l.root.rest l.root.trial l.step.down l.step.up l.counter
