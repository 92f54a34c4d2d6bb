-- `rows::normalize` meets its contract. The loop's invariant: the first k rows are normalised, the others as they were, and the two kept norms are the
-- roots of their squares. Assumes nothing.
use mathlib.Core.Path.{◌≡◌}
use Prim.Native.Nat.{◌*◌}
use lib.ListN.{length}
use Rattle.rows.specs.Rows.{rows_of, normalized_row}
use Rattle.rows.specs.Kept.{Keeps}
use Rattle.rows.proofs.Written.{done}
use Rattle.rows.proofs.normalize.Given as goal

abbrev pub invariant-loop-k : goal.invariant-loop-k
invariant-loop-k l = (length l.rows ≡ 3 * l.n) × (rows_of l.rows ≡ done normalized_row l.k (rows_of l.initial.rows)) × Keeps l.kept
