-- A step takes at most a reading for the row that it pins and one for each row before `upto`. Assumes nothing.
use Rattle.std.specs.Prelude.{Option, Some, None}
use mathlib.Core.List.{List}
use Prim.Native.Nat.{ℕ, ◌+◌}
use native.Mathlib.Nat.{le_of_eq}
use lib.ListN.{length, take, length-map}
use Rattle.readings.specs.Readings.{Counted}
use Rattle.readings.proofs.Bounds.{◌at_most◌, wider, pure_takes, read_takes, if_takes, bind_takes, bind_pure_takes}
use Rattle.rows.specs.declared.Row.{Row}
use Rattle.line.proofs.Count.{lp1d_core_takes}
use Rattle.step.specs.declared.Frame.{Frame}
use Rattle.step.specs.declared.State.{State}
use Rattle.step.specs.Step.{onward, ◌>>?◌, steep_step, flat_step, step}

-- ---- one after the other

onward_takes : {f : State → Counted (Option State)} {x : ℕ} → ((s : State) → f s at_most x) → (found : Option State) → onward f found at_most x
unfolding onward
onward_takes k None = pure_takes _
onward_takes k (Some s) = k s

pub bind?_takes : {m : Counted (Option State)} {f : State → Counted (Option State)} {x y : ℕ} → m at_most x → ((s : State) → f s at_most y)
    → (m >>? f) at_most x + y
unfolding ◌>>?◌
bind?_takes h k = bind_takes h (onward_takes k)

-- ---- the step

module _ (F : Frame) (others : List Row) (i : ℕ) (r : Row) (s : State) where
  steep_step_takes : steep_step F others i r s at_most length others
  unfolding steep_step
  steep_step_takes = wider (bind_pure_takes _ (lp1d_core_takes _ _ _ _ _ _)) (le_of_eq (length-map others _))

  flat_step_takes : flat_step F others i r s at_most length others
  unfolding flat_step
  flat_step_takes = wider (bind_pure_takes _ (lp1d_core_takes _ _ _ _ _ _)) (le_of_eq (length-map others _))

pub step_takes : (R : List Row) (F : Frame) (upto i : ℕ) (s : State) → step R F upto i s at_most 1 + length (take upto R)
unfolding step
step_takes R F upto i s = read_takes 1 (if_takes _ (pure_takes _) (if_takes _ (steep_step_takes F _ i _ s) (flat_step_takes F _ i _ s)))
