-- What every solve over one box finds, the answer of all of them has, and so has the entry's.
use Rattle.std.specs.Prelude.{Ok, Err}
use mathlib.Core.Path.{◌≡◌}
use mathlib.Core.Logic.{inl, inr}
use mathlib.Core.List.{List}
use Prim.Native.Nat.{ℕ}
use lib.Ieee.{Float}
use Rattle.readings.proofs.Gives.{either}
use Rattle.rows.specs.declared.Row.{Row}
use Rattle.rows.specs.Rows.{rows_of}
use Rattle.active.specs.declared.Active.{Active}
use Rattle.once.specs.declared.Task.{Task}
use Rattle.solve.specs.declared.Answer.{Answer}
use Rattle.once.specs.Once.{Once, once}
use Rattle.solve.specs.Solve.{Outcome, Answered, answer, active_rows, Ended, answered, finished, allowed, all_solves, solve}
use Rattle.solve.proofs.Allowance.{whether, refuses, takes}
use Rattle.solve.proofs.Growing.{last_has, solves_have}

-- P of an answer and its active rows, where every solve of rows with I finds it, and leaves rows with I
module _ (T : Task) (P : Answer → Active → Type 0) (I : List Row → Type 0)
    (keeps : (rows : List Row) (bound : Float) → I rows → I (once T rows bound).rows.value)
    (finds : (rows : List Row) (bound : Float) → I rows → let found = (once T rows bound).run.value in P (answer found) (active_rows found)) where
  abbrev Finds : Once → Type 0
  Finds o = P (answer o.run.value) (active_rows o.run.value)

  abbrev Has : Outcome → Type 0
  Has (Ok got) = P got.answer got.active
  Has (Err why) = Unit {0}

  allowed_has : (A : ℕ) (rows : List Row) → I rows → Has (allowed T A rows).outcome
  unfolding allowed finished answered all_solves
  allowed_has A rows i =
      let each = solves_have T I keeps Finds finds _ rows _ i in
      either (λ (e : Ended (List Row)). Has e.outcome) _ tt (last_has Finds _ each)

  solve_has : (A : ℕ) (flat : List Float) → I (rows_of flat) → Has (solve T A flat).outcome
  unfolding solve
  solve_has A flat i =
      elim (whether T flat) [
        | inl fits ↦ rw (takes T (allowed T A) flat fits) (allowed_has A (rows_of flat) i)
        | inr refused ↦ rw (refuses T (allowed T A) flat refused.1) tt
      ]

  pub answer_has : (A : ℕ) (flat : List Float) → I (rows_of flat) → {a : Answer} {act : Active} {n : ℕ} → (solve T A flat).outcome ≡ Answered a act n → P a act
  answer_has A flat i e = rw e at (solve_has A flat i)
