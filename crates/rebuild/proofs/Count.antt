-- Rebuilding takes at most 2 u + 3 readings for each candidate, with u rows before `upto`: a step's u + 1, a scan's u, and two for the
-- basis check. Assumes nothing.
use Rattle.std.specs.Prelude.{Option}
use mathlib.Core.List.{List, [], ◌∷◌}
use Prim.Native.Nat.{ℕ, ◌+◌, ◌*◌}
use native.Mathlib.Omega.{arith}
use lib.ListN.{length, take}
use lib.Ieee.{Float}
use Rattle.readings.specs.Readings.{Counted}
use Rattle.readings.proofs.Bounds.{◌at_most◌, wider, pure_takes, read_takes, if_takes, bind_takes, bind_pure_takes}
use Rattle.rows.specs.declared.Row.{Row}
use Rattle.rows.specs.declared.Point.{Point}
use Rattle.scan.proofs.Count.{every_takes}
use Rattle.step.specs.declared.Frame.{Frame}
use Rattle.step.specs.declared.State.{State}
use Rattle.step.proofs.Count.{bind?_takes, step_takes}
use Rattle.rebuild.specs.declared.Turn.{Turn}
use Rattle.rebuild.specs.declared.Turn.TheVariants.{On, Won}
use Rattle.rebuild.specs.Rebuild.{tested, qualified, candidate, turn, rebuild}

turn_cases : (t : Turn) {f : Option State → Counted (Option State)} {g : State → Counted (Option State)} {x : ℕ}
    → ((found : Option State) → f found at_most x) → ((s : State) → g s at_most x)
    → ◌at_most◌ {A = Option State} (elim t [ On found ↦ f found | Won s ↦ g s ]) x
turn_cases (On found) h k = h found
turn_cases (Won s) h k = k s

module _ (R : List Row) (F : Frame) (upto : ℕ) (seed : Point) (floor : Float) where
  tested_takes : (i : ℕ) (s : State) → tested R F upto i s at_most length (take upto R) + 2
  unfolding tested
  tested_takes i s = bind_takes (every_takes _ _) (λ ok. if_takes ok (read_takes 2 (pure_takes _ {x = 0})) (pure_takes _))

  qualified_takes : (i : ℕ) (r : Row) (s : State) → qualified R F upto seed floor i r s at_most length (take upto R) + 2
  unfolding qualified
  qualified_takes i r s = if_takes _ (tested_takes i _) (pure_takes _)

  candidate_takes : (i : ℕ) (r : Row) → candidate R F upto seed floor i r at_most 2 * length (take upto R) + 3
  unfolding candidate
  candidate_takes i r = wider (bind?_takes (step_takes R F upto i _) (qualified_takes i r)) (omega arith)

  turn_takes : (i : ℕ) (r : Row) (best : Option State) → turn R F upto seed floor i r best at_most 2 * length (take upto R) + 3
  unfolding turn
  turn_takes i r best = bind_pure_takes _ (if_takes _ (pure_takes _) (candidate_takes i r))

  pub rebuild_takes : (rows : List Row) (i : ℕ) (best : Option State)
      → rebuild R F upto seed floor rows i best at_most length rows * (2 * length (take upto R) + 3)
  unfolding rebuild
  rebuild_takes [] i best = pure_takes _
  rebuild_takes (r ∷ rows) i best = wider (bind_takes (turn_takes i r best) (λ t. turn_cases t (rebuild_takes rows (i + 1)) (λ s. pure_takes _))) (omega arith)
