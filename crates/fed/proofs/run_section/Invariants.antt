-- `fed::run_section` is safe.
use Prim.Native.Nat.{◌≤◌}
use Rattle.fed.proofs.run_section.Given as goal

abbrev pub invariant-loop-k : goal.invariant-loop-k
invariant-loop-k g l = (l.from ≤ l.end) × (l.otherwise ≤ l.k)
