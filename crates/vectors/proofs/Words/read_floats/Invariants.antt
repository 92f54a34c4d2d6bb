-- `vectors::Words::read_floats` counts the floats that it read.
use mathlib.Core.Path.{◌≡◌}
use Rattle.vectors.proofs.Words.read_floats.Given as goal

abbrev pub invariant-loop-place : goal.invariant-loop-place
invariant-loop-place l = l.count ≡ l.place-index
