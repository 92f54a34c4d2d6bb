-- Which inputs a solve refuses before it reads a row, and why. Nothing else opens `refusal_of`. Assumes nothing.
use mathlib.Core.Path.{◌≡◌}
use mathlib.Core.Logic.{◌↔◌, ◌≢◌}
use mathlib.Core.List.{List}
use Prim.Native.Nat.{◌/◌, ◌%◌, ◌≤◌, ◌<◌}
use lib.ListN.{length}
use lib.Ieee.{Float}
use Rattle.rows.specs.Constants.{most_rows}
use Rattle.std.specs.Prelude.{Some, None}
use Rattle.rows.specs.declared.Refusal.TheVariants.{Uneven, TooMany}
use Rattle.rows.specs.Refusals.{code}
use Rattle.rows.proofs.Refusals as rows
use Rattle.once.specs.declared.Task.{Task}
use Rattle.solve.specs.Solve.{refusal_of}

module _ (T : Task) (flat : List Float) where
  -- refusal 1, where the floats are not a multiple of 3
  pub refusal_1 : refusal_of T flat ≡ Some Uneven ↔ length flat % 3 ≢ 0
  unfolding refusal_of
  refusal_1 = rows.refusal_1 3 (length flat)

  -- refusal 2, above 4,096 rows
  pub refusal_2 : refusal_of T flat ≡ Some TooMany ↔ (length flat % 3 ≡ 0) × (most_rows < length flat / 3)
  unfolding refusal_of
  refusal_2 = rows.refusal_2 3 (length flat)

  -- none, where they come out even and are not too many
  pub refusal_0 : refusal_of T flat ≡ None ↔ (length flat % 3 ≡ 0) × (length flat / 3 ≤ most_rows)
  unfolding refusal_of
  refusal_0 = rows.refusal_0 3 (length flat)

  -- and no other
  pub no_other : code (refusal_of T flat) < 3
  unfolding refusal_of
  no_other = rows.no_other 3 (length flat)
