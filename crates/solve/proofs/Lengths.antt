-- A solve leaves as many rows as it was given. Assumes nothing.
use mathlib.Core.Path.{◌≡◌, refl, ◌∙◌}
use mathlib.Core.List.{List, [], ◌∷◌}
use Prim.Native.Nat.{ℕ}
use mathlib.Core.Logic.{inl, inr}
use native.Mathlib.Omega.{arith}
use lib.ListN.{length}
use lib.Ieee.{Float}
use Rattle.readings.specs.Readings.{pure, ◌>>◌}
use Rattle.rows.specs.declared.Row.{Row}
use Rattle.rows.specs.Rows.{rows_of}
use Rattle.rows.proofs.Lengths.{length-rows_of, length-flat_of, length-normalized}
use Rattle.once.specs.declared.Normalize.{Normalize}
use Rattle.once.specs.declared.Normalize.TheVariants.{Off, Source}
use Rattle.once.specs.declared.Task.{Task}
use Rattle.once.specs.Once.{prepared, many, once}
use Rattle.solve.specs.Solve.{allowed, solve}
use Rattle.solve.proofs.Refusals.{refusal_0}
use Rattle.solve.proofs.Allowance.{whether, takes, solve_refuses}
use Rattle.solve.proofs.Growing.{allowed_keeps}

pub length-prepared : (mode : Normalize) (rows : List Row) → length (prepared mode rows).value ≡ length rows
unfolding prepared pure ◌>>◌
length-prepared Off rows = refl
length-prepared Source rows = length-normalized rows

pub length-once : (T : Task) (rows : List Row) (bound : Float) → length (once T rows bound).rows.value ≡ length rows
unfolding once many pure
length-once T [] bound = refl
length-once T (r ∷ []) bound = refl
length-once T (r ∷ s ∷ rows) bound = length-prepared T.normalize (r ∷ s ∷ rows)

-- ---- all solves of n rows, whatever is answered and wherever they are stopped

module _ (T : Task) (A : ℕ) where
  length-allowed : (rows : List Row) → length (allowed T A rows).rows ≡ length rows
  length-allowed rows = allowed_keeps T (λ left. length left ≡ length rows) (λ left bound e. length-once T left bound ∙ e) A rows refl

  -- ---- and so the entry

  pub length-solve : (flat : List Float) → length (solve T A flat).rows ≡ length flat
  unfolding solve
  length-solve flat =
      elim (whether T flat) [
        | inl fits ↦
            let rows = (allowed T A (rows_of flat)).rows in
            let even = ((refusal_0 T flat).0 fits).0 in
            rw (takes T (allowed T A) flat fits) (omega (arith, length-flat_of rows, length-allowed (rows_of flat), length-rows_of flat))
        | inr refused ↦ rw (solve_refuses T flat A refused.1)
      ]
