-- Rows that are named are there: the active rows of an answer are below the number of rows.
use Rattle.std.specs.Prelude.{Option, Some, None}
use mathlib.Core.Path.{◌≡◌}
use mathlib.Core.List.{List, [], ◌∷◌}
use Prim.Native.Nat.{ℕ, ◌/◌, ◌≤◌, ◌<◌}
use native.Mathlib.Omega.{arith}
use lib.ListN.{length, drop, length-drop}
use lib.Ieee.{Float}
use Rattle.readings.proofs.Gives.{◌gives◌, either, pure_gives, read_gives}
use Rattle.rows.specs.declared.Row.{Row}
use Rattle.rows.specs.Rows.{rows_of}
use Rattle.rows.proofs.Lengths.{length-rows_of}
use Rattle.active.specs.declared.Active.{Active}
use Rattle.line.proofs.Named.{BothBelow, no_rows_below}
use Rattle.step.proofs.Named.{FoundBelow, bind?_below}
use Rattle.once.specs.declared.Task.{Task}
use Rattle.solve.specs.declared.Answer.{Answer}
use Rattle.once.specs.Once.{passes, lone, many, once}
use Rattle.step.specs.declared.State.{State}
use Rattle.solve.specs.Solve.{Answered, active_rows, solve}
use Rattle.solve.proofs.Lengths.{length-prepared, length-once}
use Rattle.demands.proofs.Outcomes.{answer_has}
use Rattle.passes.proofs.Named.{forward_below}
use Rattle.passes.proofs.DeferredNamed.{deferred_below}

-- ---- one solve

passes_below : (n : ℕ) (T : Task) (R : List Row) (bound : Float) → length R ≤ n → passes T R bound gives FoundBelow n
unfolding passes
passes_below n T R bound few =
    bind?_below
    (forward_below n R few _ _ (drop T.start.skip R) T.start.skip _ (simp length-drop (omega arith)) no_rows_below)
    (λ s. deferred_below n _ R _ s few)

once_below : (n : ℕ) (T : Task) (rows : List Row) (bound : Float) → length rows ≤ n → (once T rows bound).run gives FoundBelow n
unfolding once many lone
once_below n T [] bound few = pure_gives None tt
once_below n T (r ∷ []) bound few = read_gives 1 (pure_gives _ (either (FoundBelow n) _ no_rows_below tt))
once_below n T (r ∷ s ∷ rows) bound few = passes_below n T _ _ (omega (arith, length-prepared T.normalize (r ∷ s ∷ rows)))

once_keeps : (n : ℕ) (T : Task) (rows : List Row) (bound : Float) → length rows ≤ n → length (once T rows bound).rows.value ≤ n
once_keeps n T rows bound few = omega (arith, length-once T rows bound)

once_names : (n : ℕ) (T : Task) (rows : List Row) (bound : Float) → length rows ≤ n → BothBelow n (active_rows (once T rows bound).run.value)
unfolding active_rows
once_names n T rows bound few = go (once T rows bound).run.value (once_below n T rows bound few).has
  where
    go : (found : Option State) → FoundBelow n found → BothBelow n (active_rows found)
    go None below = no_rows_below
    go (Some s) below = below

-- ---- all solves

module _ (T : Task) (A : ℕ) (flat : List Float) {a : Answer} {act : Active} {n : ℕ} (e : (solve T A flat).outcome ≡ Answered a act n) where
  abbrev lent : ℕ
  lent = length flat / 3

  both_are_there : BothBelow lent act
  both_are_there =
      let few : length (rows_of flat) ≤ lent = omega (arith, length-rows_of flat) in
      answer_has T (λ a act. BothBelow lent act) (λ rows. length rows ≤ lent) (once_keeps lent T) (once_names lent T) A flat few e

  pub first_is_there : {i : ℕ} → act.first ≡ Some i → i < lent
  first_is_there named = rw named at both_are_there.first

  pub second_is_there : {i : ℕ} → act.second ≡ Some i → i < lent
  second_is_there named = rw named at both_are_there.second
