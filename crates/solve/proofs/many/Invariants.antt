-- `solve::many` meets its contract. The loop's invariant: what the solves still to go come to with the readings left is what all of them come to.
use Prim.Native.Nat.{◌-◌}
use Rattle.rows.specs.Rows.{rows_of}
use Rattle.solve.proofs.Rounds.{Going}
use Rattle.solve.proofs.many.Given as goal

abbrev pub invariant-loop-round : goal.invariant-loop-round
invariant-loop-round l = Going l.task l.allowance l.n (rows_of l.initial.rows) l.rows l.bound l.left l.k

abbrev pub decreases-loop-round : goal.decreases-loop-round
decreases-loop-round l = 7 - l.k
