-- How many readings the deferred rounds take at most.
use Rattle.std.specs.Prelude.{Option, Some, None}
use mathlib.Core.List.{List, [], ◌∷◌}
use Prim.Native.Nat.{ℕ, zero, suc, ◌+◌, ◌*◌, ◌≤◌}
use native.Mathlib.Omega.{arith}
use lib.ListN.{length, take, length-take}
use lib.Ieee.{Float}
use Rattle.readings.specs.Readings.{Counted}
use Rattle.readings.proofs.Bounds.{◌at_most◌, wider, pure_takes, read_takes, bind_takes}
use Rattle.rows.specs.declared.Row.{Row}
use Rattle.rows.specs.declared.Point.{Point}
use Rattle.step.specs.declared.Frame.{Frame}
use Rattle.step.specs.declared.State.{State}
use Rattle.step.specs.Step.{step}
use Rattle.step.proofs.Count.{bind?_takes, step_takes}
use Rattle.passes.specs.declared.Worst.{Worst}
use Rattle.passes.specs.Passes.{worst, deferred}

worst_takes : (ε : Float) (p : Point) (rows : List Row) (i : ℕ) (w : Worst) → worst ε p rows i w at_most length rows
unfolding worst
worst_takes ε p [] i w = pure_takes _
worst_takes ε p (r ∷ rows) i w = wider (read_takes 1 (worst_takes ε p rows (i + 1) _)) (omega arith)

slot_cases : (w : Option ℕ) {m : Counted (Option State)} {f : ℕ → Counted (Option State)} {x : ℕ} → m at_most x → ((i : ℕ) → f i at_most x)
    → ◌at_most◌ {A = Option State} (elim w [ None ↦ m | Some i ↦ f i ]) x
slot_cases None h k = h
slot_cases (Some i) h k = k i

module _ (R : List Row) (F : Frame) where
  all_rows_takes : (i : ℕ) (s : State) → step R F (length R) i s at_most length R + 1
  all_rows_takes i s = wider (step_takes R F (length R) i s) (let few : length (take (length R) R) ≤ length R = simp length-take (omega arith) in omega arith)

  pub deferred_takes : (k : ℕ) (s : State) → deferred k R F s at_most k * (2 * length R + 1)
  unfolding deferred
  deferred_takes zero s = pure_takes _
  deferred_takes (suc k) s =
      wider
      (bind_takes (worst_takes _ _ R 0 _) (λ w. slot_cases w.row (pure_takes _) (λ i. bind?_takes (all_rows_takes i s) (deferred_takes k))))
      (omega arith)
