-- How many readings a solve takes at most, from one solve up to all seven solves, and with no row or one exactly. Assumes nothing.
use mathlib.Core.Path.{◌≡◌, refl}
use mathlib.Core.List.{List, [], ◌∷◌}
use Prim.Native.Nat.{ℕ, zero, suc, ◌+◌, ◌*◌, ◌^◌, ◌≤◌, ◌<◌}
use native.Mathlib.Nat.{one-mul, pow-zero, pow-suc, pow-le-pow_left}
use native.Mathlib.Omega.{arith}
use lib.ListN.{length, drop, length-drop}
use lib.Ieee.{Float}
use Rattle.float.specs.Operators.{when◌then◌else◌, ◌⊗◌}
use Rattle.readings.specs.Readings.{pure, read, ◌>>◌}
use Rattle.readings.proofs.Gives.{either}
use Rattle.readings.proofs.Bounds.{◌at_most◌, wider, pure_takes, read_takes}
use Rattle.rows.specs.Constants.{lp_box_growth, most_rows}
use Rattle.rows.specs.declared.Row.{Row}
use Rattle.step.proofs.Count.{bind?_takes}
use Rattle.once.specs.declared.Normalize.{Normalize}
use Rattle.once.specs.declared.Normalize.TheVariants.{Off, Source}
use Rattle.once.specs.declared.Task.{Task}
use Rattle.once.specs.Once.{prepared, widened, passes, many, once}
use Rattle.solve.specs.Solve.{Solves, solves, all_solves, count}
use Rattle.passes.proofs.Count.{from_row, before, after_skip, forward_takes}
use Rattle.passes.proofs.DeferredCount.{deferred_takes}
use Rattle.solve.proofs.Lengths.{length-prepared, length-once}

-- ---- the numbers

-- six times one solve
of_solve : ℕ → ℕ
of_solve n = 8 * n ^ 3 + 69 * n ^ 2 + 121 * n + 24

square : (n : ℕ) → n ^ 2 ≡ n * n
square n = rw (pow-suc, pow-suc, pow-zero, one-mul)

cube : (n : ℕ) → n ^ 3 ≡ n * n * n
cube n = rw (pow-suc, square)

powers_grow : (n : ℕ) → (n ≤ n ^ 2) × (n ≤ n ^ 3)
powers_grow zero = omega arith
powers_grow (suc n) = omega (arith, square (suc n), cube (suc n))

-- ---- one solve

prepared_takes : (mode : Normalize) (rows : List Row) → prepared mode rows at_most length rows
unfolding prepared
prepared_takes Off rows = pure_takes _
prepared_takes Source rows = wider (read_takes (length rows) (pure_takes _ {x = 0})) (omega arith)

module _ (T : Task) where
  passes_takes : (R : List Row) (bound : Float) → passes T R bound at_most from_row T.start.skip (length (drop T.start.skip R)) + 4 * (2 * length R + 1)
  unfolding passes
  passes_takes R bound = bind?_takes (forward_takes _ R _ _ _ _) (deferred_takes R _ 4)

  passes_count : (R : List Row) (bound : Float) → 6 * (passes T R bound).readings ≤ before (length R) + 24 * (2 * length R + 1)
  passes_count R bound = omega (arith, passes_takes R bound, after_skip T.start.skip _ (length R) (length-drop T.start.skip R))

  many-count : (rows : List Row) (bound : Float) → 6 * ((many T rows bound).rows.readings + (many T rows bound).run.readings) ≤ of_solve (length rows)
  unfolding many before of_solve
  many-count rows bound =
      let passing = passes_count (prepared T.normalize rows).value (widened T.start bound) in
      omega (arith, prepared_takes T.normalize rows, rw length-prepared at passing, square (length rows), cube (length rows))

  once-count : (rows : List Row) (bound : Float) → 6 * ((once T rows bound).rows.readings + (once T rows bound).run.readings) ≤ of_solve (length rows)
  unfolding once pure read ◌>>◌ of_solve
  once-count [] bound = omega arith
  once-count (r ∷ []) bound = omega arith
  once-count (r ∷ s ∷ rows) bound = many-count (r ∷ s ∷ rows) bound

-- ---- all solves

module _ (T : Task) where
  solves-count : (k : ℕ) (rows : List Row) (bound : Float) → 6 * count (solves k T rows bound) ≤ suc k * of_solve (length rows)
  unfolding solves count
  solves-count zero rows bound = omega (arith, once-count T rows bound)
  solves-count (suc k) rows bound =
      let first = once T rows bound in
      let more = rw length-once at (solves-count k first.rows.value (bound ⊗ lp_box_growth)) in
      either (λ (os : Solves). 6 * count os ≤ suc (suc k) * of_solve (length rows)) _
      (omega (arith, once-count T rows bound))
      (omega (arith, once-count T rows bound))

  -- seven solves of 4 n^3 / 3 + 23 n^2 / 2 + 121 n / 6 + 4 at most
  pub count_sharp : (rows : List Row) → let n = length rows in 6 * count (all_solves T rows) ≤ 7 * (8 * n ^ 3 + 69 * n ^ 2 + 121 * n + 24)
  unfolding all_solves of_solve
  count_sharp rows = solves-count 6 rows _

  -- the bound of RULES 1.3
  pub count_bound : (rows : List Row) → let n = length rows in count (all_solves T rows) ≤ 28 * n ^ 3 + 133 * n ^ 2 + 70 * n + 28
  count_bound rows = omega (arith, count_sharp rows, powers_grow (length rows))

  pub count_fits : (rows : List Row) → length rows ≤ most_rows → count (all_solves T rows) < 2 ^ 64
  count_fits rows h = omega (arith, count_bound rows, pow-le-pow_left h 3, pow-le-pow_left h 2)

  pub count_few : (rows : List Row) → length rows ≤ 1 → count (all_solves T rows) ≡ length rows
  unfolding all_solves solves once count pure read ◌>>◌ when◌then◌else◌
  count_few [] h = refl
  count_few (r ∷ []) h = refl
  count_few (r ∷ s ∷ rows) h = omega arith
