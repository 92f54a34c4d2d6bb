-- `fed::main` is safe and ends: each section leaves less.
use Prim.Native.Nat.{◌≤◌}
use lib.ListN.{length}
use Rattle.fed.proofs.main.Given as goal

abbrev pub invariant-loop-rest : goal.invariant-loop-rest
invariant-loop-rest l = length l.rest ≤ 65536

abbrev pub decreases-loop-rest : goal.decreases-loop-rest
decreases-loop-rest l = length l.rest
