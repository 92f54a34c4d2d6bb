-- A solve of no row or one, case by case: what the code does next is what the definition says.
use Rattle.std.specs.Prelude.{None, Err}
use mathlib.Core.Path.{◌≡◌, refl, sym, ◌∙◌}
use mathlib.Core.List.{List, [], ◌∷◌}
use Prim.Native.Nat.{ℕ, zero, suc, ◌*◌, ◌≤◌, ◌<◌}
use native.Mathlib.Omega.{arith}
use lib.ListN.{length}
use lib.Ieee.{Float}
use Rattle.float.specs.Operators.{when◌then◌else◌}
use Rattle.readings.specs.Readings.{pure, read, ◌>>◌}
use Rattle.rows.specs.declared.Row.{Row}
use Rattle.rows.specs.Rows.{rows_of, flat_of, row_at}
use Rattle.rows.proofs.Lengths.{length-rows_of}
use Rattle.rows.proofs.Written.{flat_rows}
use Rattle.once.specs.declared.Task.{Task}
use Rattle.once.specs.Once.{lone, once}
use Rattle.solve.specs.declared.Unsolved.TheVariants.{Stopped}
use Rattle.solve.specs.Solve.{Answered, solves, all_solves, last_of, count, rows_within, answer, active_rows, answered, finished, allowed}
use Rattle.solve.proofs.Allowance.{finishes, stops}

module _ (T : Task) (A : ℕ) where
  pub none-answered : (rows : List Row) → length rows ≡ 0 → allowed T A rows ≡ record { outcome = Answered (answer None) (active_rows None) 0; rows = rows }
  unfolding finished answered all_solves solves last_of once count pure when◌then◌else◌
  none-answered [] none = finishes T [] A (omega arith)
  none-answered (r ∷ rows) none = absurd (omega arith)

  pub one-stopped : (rows : List Row) → length rows ≡ 1 → A ≡ 0 → allowed T A rows ≡ record { outcome = Err (Stopped 0); rows = rows }
  unfolding rows_within all_solves solves once count pure read ◌>>◌ when◌then◌else◌
  one-stopped [] one spent = absurd (omega arith)
  one-stopped (r ∷ []) one spent = stops T (r ∷ []) A (omega arith) ∙ rw spent
  one-stopped (r ∷ s ∷ rows) one spent = absurd (omega arith)

  pub one-answered : (rows : List Row) → length rows ≡ 1 → 0 < A
      → let found = lone (row_at rows 0) in allowed T A rows ≡ record { outcome = Answered (answer found) (active_rows found) 1; rows = rows }
  unfolding finished answered all_solves solves last_of once count row_at pure read ◌>>◌ when◌then◌else◌
  one-answered [] one some = absurd (omega arith)
  one-answered (r ∷ []) one some = finishes T (r ∷ []) A (omega arith)
  one-answered (r ∷ s ∷ rows) one some = absurd (omega arith)

few_left : (T : Task) (A : ℕ) (rows : List Row) → length rows ≤ 1 → (allowed T A rows).rows ≡ rows
few_left T A [] few = rw (none-answered T A [] refl)
few_left T zero (r ∷ []) few = rw (one-stopped T 0 (r ∷ []) refl refl)
few_left T (suc A) (r ∷ []) few = rw (one-answered T (suc A) (r ∷ []) refl (omega arith))
few_left T A (r ∷ s ∷ rows) few = absurd (omega arith)

pub few_lent : (T : Task) (A n : ℕ) (flat : List Float) → 3 * n ≡ length flat → n ≤ 1 → flat ≡ flat_of (allowed T A (rows_of flat)).rows
few_lent T A n flat even few = rw (few_left T A (rows_of flat) (omega (arith, length-rows_of flat))) (sym (flat_rows flat n even))
